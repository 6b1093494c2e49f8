-- The sums of a set's cut, commodity by commodity.
use Rattle.std.proofs.Common.{◌≡◌, ℕ, ◌+◌, ◌*◌, ◌<◌, ◌≤◌, List, [], ◌∷◌, map, take, sum_by, refl, ap, sym, ◌∙◌, arith}
use Rattle.std.proofs.lemmas.List.Sums.{sum_by-cons, sum_by-take-le}
use Rattle.hub_spec.specs.Limits.{most_cost}
use Rattle.hub_spec.specs.Problem.{Problem, IsProblem, commodities}
use Rattle.hub_spec.specs.Plans.{IsHubSet}
use Rattle.hub_spec.specs.Cuts.{Prices, value_at, total, load, IsCut}
use Rattle.hub_spec.specs.Separation.{IsOrder, minimal_dual, set_cut}
use Rattle.hub_spec.proofs.Commodities.{take_commodities_all}
use Rattle.hub_spec.proofs.SetCuts.{set_cut_is_cut, loads_within}
use Rattle.hub_spec.proofs.SetCutFunction.{set_cut_is_one_lem}
use Rattle.pareto_cuts.specs.Separations.{sum_of, origin_total, origin_load}
use Rattle.pareto_cuts.proofs.CommoditySums.{sum_same, origin_sum}

sum_by_map : {X Y : Type 0} (f : Y → ℕ) (g : X → Y) (xs : List X) → sum_by f (map g xs) ≡ sum_by (λ x. f (g x)) xs
sum_by_map f g [] = refl
sum_by_map f g (x ∷ xs) = sum_by-cons f (g x) (map g xs) ∙ ap (λ s. f (g x) + s) (sum_by_map f g xs) ∙ sym (sum_by-cons (λ y. f (g y)) x xs)

-- the price, and the value of the node k, of the minimal dual of a commodity
abbrev pub price_of : Problem → List ℕ → List ℕ → ℕ × ℕ → ℕ
price_of p hubs order c = (minimal_dual p hubs order c).a

abbrev pub value_of : Problem → List ℕ → List ℕ → ℕ → ℕ × ℕ → ℕ
value_of p hubs order k c = value_at (minimal_dual p hubs order c).u k

pub total_by_commodities : (p : Problem) (hubs order : List ℕ) → total (set_cut p hubs order) ≡ sum_by (price_of p hubs order) (commodities p.size)
unfolding set_cut
total_by_commodities p hubs order = sum_by_map (λ (d : Prices). d.a) (minimal_dual p hubs order) (commodities p.size)

pub load_by_commodities : (p : Problem) (hubs order : List ℕ) (k : ℕ)
    → load (set_cut p hubs order) k ≡ sum_by (value_of p hubs order k) (commodities p.size)
unfolding set_cut
load_by_commodities p hubs order k = sum_by_map (λ (d : Prices). value_at d.u k) (minimal_dual p hubs order) (commodities p.size)

pub is_cut : (p : Problem) (hubs order : List ℕ) → IsProblem p → IsHubSet p hubs → IsOrder p hubs order → IsCut p (set_cut p hubs order)
is_cut p hubs order ok set is =
    set_cut_is_cut p hubs order (set_cut p hubs order) ok set is ((set_cut_is_one_lem p hubs order (set_cut p hubs order) ok set is).1 refl)

-- its part is 1, and so its total is within the limit
set_total : (p : Problem) (hubs order : List ℕ) → IsProblem p → IsHubSet p hubs → IsOrder p hubs order
    → total (set_cut p hubs order) ≤ most_cost
set_total p hubs order ok set is =
    let meets = (set_cut_is_one_lem p hubs order (set_cut p hubs order) ok set is).1 refl in
    omega (arith, meets.whole, (is_cut p hubs order ok set is).sums.total_limit)

-- what is summed up of the first commodities is within the limit
pub total_within : (p : Problem) (hubs order : List ℕ) (t : ℕ) → IsProblem p → IsHubSet p hubs → IsOrder p hubs order
    → sum_by (price_of p hubs order) (take t (commodities p.size)) ≤ most_cost
total_within p hubs order t ok set is =
    omega (
      arith,
      sum_by-take-le (price_of p hubs order) (commodities p.size) t,
      total_by_commodities p hubs order,
      set_total p hubs order ok set is,
    )

pub load_within : (p : Problem) (hubs order : List ℕ) (k t : ℕ) → IsProblem p → IsHubSet p hubs → IsOrder p hubs order
    → sum_by (value_of p hubs order k) (take t (commodities p.size)) ≤ most_cost
load_within p hubs order k t ok set is =
    let meets = (set_cut_is_one_lem p hubs order (set_cut p hubs order) ok set is).1 refl in
    omega (
      arith,
      sum_by-take-le (value_of p hubs order k) (commodities p.size) t,
      load_by_commodities p hubs order k,
      loads_within p hubs order (commodities p.size) (set_cut p hubs order).duals k meets.duals,
      set_total p hubs order ok set is,
    )

-- ---- one origin more

pub total_more : (p : Problem) (hubs order : List ℕ) (i total : ℕ) → i < p.size
    → total ≡ sum_by (price_of p hubs order) (take (i * p.size) (commodities p.size))
    → total + origin_total p hubs order i 0 p.size ≡ sum_by (price_of p hubs order) (take ((i + 1) * p.size) (commodities p.size))
total_more p hubs order i total origin is =
    let f = price_of p hubs order in
    let here : origin_total p hubs order i 0 p.size ≡ sum_of p.size (λ j. f (i, j)) = sum_same p.size _ _ (λ j below. ap (λ m. f (i, m)) (omega arith)) in
    let row : i * p.size + p.size ≡ (i + 1) * p.size = omega arith in
    omega (arith, is, here, origin_sum p.size i p.size f origin (omega arith), ap (λ m. sum_by f (take m (commodities p.size))) row)

pub load_more : (p : Problem) (hubs order : List ℕ) (i k old new : ℕ) → i < p.size
    → old ≡ sum_by (value_of p hubs order k) (take (i * p.size) (commodities p.size)) → new ≡ old + origin_load p hubs order i 0 p.size k
    → new ≡ sum_by (value_of p hubs order k) (take ((i + 1) * p.size) (commodities p.size))
load_more p hubs order i k old new origin is more =
    let f = value_of p hubs order k in
    let here : origin_load p hubs order i 0 p.size k ≡ sum_of p.size (λ j. f (i, j)) = sum_same p.size _ _ (λ j below. ap (λ m. f (i, m)) (omega arith)) in
    let row : i * p.size + p.size ≡ (i + 1) * p.size = omega arith in
    omega (arith, is, more, here, origin_sum p.size i p.size f origin (omega arith), ap (λ m. sum_by f (take m (commodities p.size))) row)

-- all origins
pub whole_sum : (n t : ℕ) (f : ℕ × ℕ → ℕ) → t ≡ n → sum_by f (take (t * n) (commodities n)) ≡ sum_by f (commodities n)
whole_sum n t f all =
    ap (λ m. sum_by f (take (m * n) (commodities n))) all ∙ ap (sum_by f) (take_commodities_all n)
