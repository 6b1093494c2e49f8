-- The Benders cut from any dual values is a cut of the problem: its sums obey the sum rule, and its numbers are in
-- range.
use Rattle.std.proofs.Common.{◌≡◌, ℕ, zero, suc, ◌+◌, ◌*◌, ◌/◌, ◌%◌, ◌<◌, ◌≤◌, List, [], ◌∷◌, map, take, sum, sum_by, nat_eq, All, Contains, ⊎_elim, refl, ap, sym, ◌∙◌, add-mul, mul-le-mul_left, mul-le-mul_right, div-add-mod', ne_eqb, eq-zero-or-pos, arith}
use Rattle.std.specs.List.{AllZip}
use Rattle.std.specs.List.Sorted.{IsStrictlyIncreasing}
use Rattle.std.proofs.lemmas.List.{length-map}
use Rattle.std.proofs.lemmas.List.Elements.{All-map, All-weaker, All-contains}
use Rattle.std.proofs.lemmas.List.Sums.{sum_by-cons, sum_by_push}
use Rattle.hub_spec.specs.Limits.{most_cost}
use Rattle.hub_spec.specs.Problem.{Problem, IsProblem, flow, opening_cost, commodities, commodity_at}
use Rattle.hub_spec.specs.Cuts.{Prices, value_at, total, load, IsDual, IsCut}
use Rattle.hub_spec.specs.Ranges.{IsShort, IsAmount, IsDualInRange, IsCutInRange, IsFirstDual, IsFirstCut}
use Rattle.hub_spec.specs.Separation.{values_listed}
use Rattle.hub_spec.proofs.Sets.{All-from_contains}
use Rattle.hub_spec.proofs.Commodities.{length_commodities, take_commodities_more, take_commodities_all}
use Rattle.hub_spec.proofs.Limits.{ceiling_parts, flow_of, flows_by_commodity, flow_within, commodities_are_nodes}
use Rattle.hub_spec.proofs.SumLemmas.{by_test}
use Rattle.hub_spec.proofs.SetCutFunction.{IsListed, all_listed, listed_ascends}
use Rattle.hub_model.specs.CandidateLengths.{length_ceiling}
use Rattle.cut_model.specs.ValueRows.{node_value, value_dual, ValueRows, row_for, offset_of, commodity_dual, value_cut}
use Rattle.cut_model.proofs.NodeValues.{node_value_within}
use Rattle.cut_model.proofs.ValueDuals.{price_within, dual_is, dual_price, dual_value_within}

-- ---- what one commodity adds

-- the price of the commodity's dual, and its value of a node
abbrev pub price_of : Problem → ValueRows → ℕ × ℕ → ℕ
price_of p w c = (commodity_dual p w c).a

abbrev pub value_of : Problem → ValueRows → ℕ → ℕ × ℕ → ℕ
value_of p w k c = value_at (commodity_dual p w c).u k

-- the commodity's offset, and what its flow costs at most
abbrev pub amount_limit : Problem → ℕ → ℕ × ℕ → ℕ
amount_limit p offset c = offset_of p offset c + flow_of p c * length_ceiling p

pub price_of_within : (p : Problem) (w : ValueRows) (c : ℕ × ℕ) → price_of p w c ≤ amount_limit p w.offset c
price_of_within p w c =
    omega (
      arith,
      dual_price p w.unit (offset_of p w.offset c) (row_for w c) c,
      mul-le-mul_left (flow p c.0 c.1) (price_within p c (node_value p w.unit (row_for w c))),
    )

pub value_of_within : (p : Problem) (w : ValueRows) (k : ℕ) (c : ℕ × ℕ) → value_of p w k c ≤ amount_limit p w.offset c
value_of_within p w k c =
    omega (
      arith,
      dual_value_within p w.unit (offset_of p w.offset c) (row_for w c) c k,
      mul-le-mul_left (flow p c.0 c.1) (node_value_within p w.unit (row_for w c) k),
    )

-- ---- offsets

pub offset_within : (p : Problem) (offset : ℕ) (c : ℕ × ℕ) → offset_of p offset c ≤ opening_cost p p.candidates
offset_within p offset c = by_test (nat_eq (c.0 + c.1) 0) (λ first. rw first (omega arith)) (λ later. rw later (omega arith))

-- a later commodity has none
pub later_offset : (p : Problem) (offset n t : ℕ) → 0 < t → offset_of p offset (commodity_at n t) ≡ 0
later_offset p offset n t later = rw (ne_eqb (t / n + t % n) 0 some) refl
  where
    some : t / n + t % n ≡ 0 → ⊥
    some none =
        let quotient : t / n ≡ 0 = omega (arith, none) in
        let whole = ap (λ q. q * n) quotient in
        omega (arith, div-add-mod' t n, whole, none, later)

-- only the first has one
next_offset : (p : Problem) (offset n t : ℕ) → t < n * n
    → sum_by (offset_of p offset) (take (suc t) (commodities n))
    ≡ sum_by (offset_of p offset) (take t (commodities n)) + offset_of p offset (commodity_at n t)
next_offset p offset n t below =
    ap (λ m. sum_by (offset_of p offset) (take m (commodities n))) (let e : suc t ≡ t + 1 = omega arith in e)
    ∙ ap (sum_by (offset_of p offset)) (take_commodities_more n t below)
    ∙ sum_by_push (offset_of p offset) (take t (commodities n)) (commodity_at n t)

offsets_taken : (p : Problem) (offset n t : ℕ) → t ≤ n * n
    → sum_by (offset_of p offset) (take t (commodities n)) ≤ opening_cost p p.candidates
offsets_taken p offset n zero below = omega arith
offsets_taken p offset n (suc t) below =
    let all = next_offset p offset n t (omega (arith, below)) in
    let before = offsets_taken p offset n t (omega (arith, below)) in
    ⊎_elim
    (λ none. (let nothing = ap (λ s. sum_by (offset_of p offset) (take s (commodities n))) none in
    omega (arith, all, nothing, offset_within p offset (commodity_at n t))))
    (λ some. omega (arith, all, before, later_offset p offset n t some))
    (eq-zero-or-pos t)

pub offsets_within : (p : Problem) (offset : ℕ) → sum_by (offset_of p offset) (commodities p.size) ≤ opening_cost p p.candidates
offsets_within p offset =
    rw (sym (take_commodities_all p.size)) (offsets_taken p offset p.size (p.size * p.size) (omega arith))

-- ---- all commodities

sum_within : {X : Type 0} (f g h : X → ℕ) (m : ℕ) (xs : List X) → ((x : X) → f x ≤ h x + g x * m)
    → sum_by f xs ≤ sum_by h xs + sum_by g xs * m
sum_within f g h m [] low = omega arith
sum_within f g h m (x ∷ xs) low =
    let rest = sum_within f g h m xs low in
    let whole : sum_by g (x ∷ xs) * m ≡ g x * m + sum_by g xs * m = rw (sum_by-cons g x xs) (add-mul (g x) (sum_by g xs) m) in
    omega (arith, low x, rest, sum_by-cons f x xs, sum_by-cons h x xs, whole)

pub ceiling_rule : (p : Problem) → IsProblem p → sum p.flows * length_ceiling p + opening_cost p p.candidates ≤ most_cost
unfolding length_ceiling
ceiling_rule p ok = omega (arith, ceiling_parts p, ok.sum_rule)

pub all_within : (p : Problem) (offset : ℕ) (f : ℕ × ℕ → ℕ) → IsProblem p → ((c : ℕ × ℕ) → f c ≤ amount_limit p offset c)
    → sum_by f (commodities p.size) ≤ most_cost
all_within p offset f ok low =
    let all = sum_within f (flow_of p) (offset_of p offset) (length_ceiling p) (commodities p.size) low in
    let flows = ap (λ s. s * length_ceiling p) (flows_by_commodity p ok.limits) in
    omega (arith, all, flows, offsets_within p offset, ceiling_rule p ok)

pub sum_by_map : {X Y : Type 0} (f : Y → ℕ) (g : X → Y) (xs : List X) → sum_by f (map g xs) ≡ sum_by (λ x. f (g x)) xs
sum_by_map f g [] = refl
sum_by_map f g (x ∷ xs) = sum_by-cons f (g x) (map g xs) ∙ ap (λ s. f (g x) + s) (sum_by_map f g xs) ∙ sym (sum_by-cons (λ y. f (g y)) x xs)

pub total_by_commodities : (p : Problem) (w : ValueRows) → total (value_cut p w) ≡ sum_by (price_of p w) (commodities p.size)
unfolding value_cut
total_by_commodities p w = sum_by_map (λ (d : Prices). d.a) (commodity_dual p w) (commodities p.size)

pub load_by_commodities : (p : Problem) (w : ValueRows) (k : ℕ) → load (value_cut p w) k ≡ sum_by (value_of p w k) (commodities p.size)
unfolding value_cut
load_by_commodities p w k = sum_by_map (λ (d : Prices). value_at d.u k) (commodity_dual p w) (commodities p.size)

pub total_limit : (p : Problem) (w : ValueRows) → IsProblem p → sum_by (price_of p w) (commodities p.size) ≤ most_cost
total_limit p w ok = all_within p w.offset (price_of p w) ok (price_of_within p w)

pub load_limit : (p : Problem) (w : ValueRows) (k : ℕ) → IsProblem p
    → sum_by (value_of p w k) (commodities p.size) ≤ most_cost
load_limit p w k ok = all_within p w.offset (value_of p w k) ok (value_of_within p w k)

-- ---- the cut

each_dual : (p : Problem) (w : ValueRows) (cs : List (ℕ × ℕ)) → AllZip (IsDual p 1) cs (map (commodity_dual p w) cs)
each_dual p w [] = tt
each_dual p w (c ∷ cs) = (dual_is p w.unit (offset_of p w.offset c) (row_for w c) c, each_dual p w cs)

duals_are : (p : Problem) (w : ValueRows) → AllZip (IsDual p 1) (commodities p.size) (value_cut p w).duals
unfolding value_cut
duals_are p w = each_dual p w (commodities p.size)

pub cut_is : (p : Problem) (w : ValueRows) → IsProblem p → IsCut p (value_cut p w)
unfolding value_cut
cut_is p w ok = record {
  part_least = omega arith;
  part_most = omega arith;
  duals = duals_are p w;
  sums = record {
    total_limit = omega (arith, total_by_commodities p w, total_limit p w ok);
    load_limit = All-from_contains (λ k. load (value_cut p w) k ≤ 1 * most_cost) p.candidates
        (λ k candidate. omega (arith, load_by_commodities p w k, load_limit p w k ok));
  };
}

-- ---- in range

-- what one commodity's flow costs at most, with the offset
flow_costs : (p : Problem) (c : ℕ × ℕ) (offset : ℕ) → IsProblem p → (c.0 < p.size) × (c.1 < p.size)
    → amount_limit p offset c ≤ most_cost
flow_costs p c offset ok nodes =
    omega (
      arith,
      mul-le-mul_right (length_ceiling p) (flow_within p c.0 c.1 ok.limits nodes.0 nodes.1),
      offset_within p offset c,
      ceiling_rule p ok,
    )

pub price_limit : (p : Problem) (w : ValueRows) (c : ℕ × ℕ) → IsProblem p → (c.0 < p.size) × (c.1 < p.size) → price_of p w c ≤ most_cost
price_limit p w c ok nodes = omega (arith, price_of_within p w c, flow_costs p c w.offset ok nodes)

-- what the commodity's dual lists: candidates, each with a value above 0, in range
record IsAmountOf (p : Problem) (e : ℕ × ℕ) : Type 0 where
  node : Contains p.candidates e.0
  least : 1 ≤ e.1
  most : e.1 ≤ most_cost

amounts : (p : Problem) (w : ValueRows) (c : ℕ × ℕ) → IsProblem p → (c.0 < p.size) × (c.1 < p.size)
    → All (IsAmountOf p) (commodity_dual p w c).u
unfolding value_dual
amounts p w c ok nodes =
    let offset = offset_of p w.offset c in
    let v : ℕ → ℕ = λ k. offset + flow p c.0 c.1 * node_value p w.unit (row_for w c) k in
    All-weaker (IsListed v p.candidates) (IsAmountOf p)
    (λ e l. record {
      node = l.node;
      least = l.least;
      most = omega (
        arith,
        l.value,
        mul-le-mul_left (flow p c.0 c.1) (node_value_within p w.unit (row_for w c) e.0),
        flow_costs p c w.offset ok nodes,
      );
    })
    (values_listed v p.candidates) (all_listed v p.candidates)

ascends : (p : Problem) (w : ValueRows) (c : ℕ × ℕ) → IsProblem p
    → IsStrictlyIncreasing (map (λ (e : ℕ × ℕ). e.0) (commodity_dual p w c).u)
unfolding value_dual
ascends p w c ok =
    listed_ascends (λ k. offset_of p w.offset c + flow p c.0 c.1 * node_value p w.unit (row_for w c) k) p.candidates ok.candidates_ascend

dual_in_range : (p : Problem) (w : ValueRows) (c : ℕ × ℕ) → IsProblem p → (c.0 < p.size) × (c.1 < p.size)
    → IsDualInRange p.size (commodity_dual p w c)
dual_in_range p w c ok nodes = record {
  a = omega (arith, price_limit p w c ok nodes);
  ascend = ascends p w c ok;
  each = All-weaker (IsAmountOf p) (λ (e : ℕ × ℕ). (e.0 < p.size) × (1 ≤ e.1) × IsAmount e.1)
      (λ e l. (All-contains (λ k. k < p.size) p.candidates e.0 ok.candidates_are_nodes l.node, l.least, omega (arith, l.most)))
      (commodity_dual p w c).u (amounts p w c ok nodes);
}

pub cut_in_range : (p : Problem) (w : ValueRows) → IsProblem p → IsCutInRange p.size (value_cut p w)
unfolding value_cut
cut_in_range p w ok = record {
  part_least = omega arith;
  part_most = omega arith;
  one_for_each = length-map (commodities p.size) (commodity_dual p w) ∙ length_commodities p.size;
  each = All-map (IsDualInRange p.size) (commodity_dual p w) (commodities p.size)
      (All-weaker (λ (c : ℕ × ℕ). (c.0 < p.size) × (c.1 < p.size)) (λ c. IsDualInRange p.size (commodity_dual p w c))
      (λ c nodes. dual_in_range p w c ok nodes) (commodities p.size) (commodities_are_nodes p.size));
}

-- ---- what the first version of a certificate can state

dual_is_first : (p : Problem) (w : ValueRows) (c : ℕ × ℕ) → IsProblem p → (c.0 < p.size) × (c.1 < p.size)
    → IsFirstDual (commodity_dual p w c)
dual_is_first p w c ok nodes = (
  omega (arith, price_limit p w c ok nodes),
  All-weaker (IsAmountOf p) (λ (e : ℕ × ℕ). IsShort e.1) (λ e l. omega (arith, l.most)) (commodity_dual p w c).u (amounts p w c ok nodes),
)

pub cut_is_first : (p : Problem) (w : ValueRows) → IsProblem p → IsFirstCut (value_cut p w)
unfolding value_cut
cut_is_first p w ok = record {
  whole = refl;
  each = All-map IsFirstDual (commodity_dual p w) (commodities p.size)
      (All-weaker (λ (c : ℕ × ℕ). (c.0 < p.size) × (c.1 < p.size)) (λ c. IsFirstDual (commodity_dual p w c))
      (λ c nodes. dual_is_first p w c ok nodes) (commodities p.size) (commodities_are_nodes p.size));
}
