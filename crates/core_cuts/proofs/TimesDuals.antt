-- Duals with price and values some times as great, and the cut that they are brought to.
use Rattle.std.proofs.Common.{◌≡◌, ℕ, zero, suc, ◌+◌, ◌*◌, ◌/◌, ◌%◌, ◌<◌, ◌≤◌, ◌⊎◌, ⊎_elim, List, [], ◌∷◌, ◌++◌, length, get_or, take, map, All, Contains, sym, ap, ap₂, ◌∙◌, subst, arith}
use Rattle.std.specs.List.{AllZip}
use Rattle.std.specs.List.Sorted.{IsStrictlyIncreasing}
use Rattle.std.specs.Int.{◌∣◌}
use Rattle.std.proofs.Math.Nat.{div-mul_cancel, mul-le-mul}
use Rattle.std.proofs.lemmas.List.{take_more, take_all, map-append, length-map, get_or-map}
use Rattle.std.proofs.lemmas.List.Elements.{All-map, All-weaker, All-contains, All-push}
use Rattle.std.proofs.lemmas.List.Sums.{get_or-le-sum_by}
use Rattle.hub_spec.specs.Limits.{most_cost}
use Rattle.hub_spec.specs.Problem.{Problem, IsProblem, flow, commodities}
use Rattle.hub_spec.specs.Cuts.{Prices, Cut, value_at, load}
use Rattle.hub_spec.specs.Ranges.{IsDualInRange}
use Rattle.hub_spec.specs.Separation.{AreListedValues}
use Rattle.hub_spec.proofs.Commodities.{commodity_at, next_route_at, length_commodities}
use Rattle.cut_model.proofs.RunSums.{nodes_as_often}
use Rattle.core_cuts.specs.Brought.{most_sum, IsDualWithin, IsSoundFound}
use Rattle.core_cuts.specs.FoundCuts.{times_values, brought, brought_cut, IsFitDual, IsFitCut}
use Rattle.core_cuts.specs.Readings.{most_units, FoundDual}
use Rattle.core_cuts.proofs.CoredCuts.{value_times}

some_by : (n x e : ℕ) → n * x ≡ e → 1 ≤ e → 1 ≤ n
some_by zero x e is some = absurd (omega (arith, is, some))
some_by (suc n) x e is some = omega arith

pub some_quotient : (e x : ℕ) → x ∣ e → 1 ≤ e → 1 ≤ e / x
some_quotient e x divides some = some_by (e / x) x e (div-mul_cancel x divides) some

abbrev times_entry : ℕ → ℕ × ℕ → ℕ × ℕ
times_entry n x = (x.0, n * x.1)

pub listed_times : (n : ℕ) (u : List (ℕ × ℕ)) → 1 ≤ n → AreListedValues u → AreListedValues (times_values n u)
listed_times n u some listed = record {
  values = All-map (λ (e : ℕ × ℕ). 1 ≤ e.1) (times_entry n) u
      (All-weaker (λ (e : ℕ × ℕ). 1 ≤ e.1) (λ (e : ℕ × ℕ). 1 ≤ n * e.1) (λ e l. (let m = mul-le-mul some l in omega (arith, m))) u listed.values);
  ascend = subst IsStrictlyIncreasing (sym (nodes_as_often n u)) listed.ascend;
}

candidates_times : (p : Problem) (n : ℕ) (u : List (ℕ × ℕ)) → All (λ (e : ℕ × ℕ). Contains p.candidates e.0) u
    → All (λ (e : ℕ × ℕ). Contains p.candidates e.0) (times_values n u)
candidates_times p n u are = All-map (λ (e : ℕ × ℕ). Contains p.candidates e.0) (times_entry n) u are

pub brought_range : (p : Problem) (e most : ℕ) (f : FoundDual) → IsProblem p → IsSoundFound p f → f.part ∣ e → 1 ≤ e → most ≤ most_sum
    → IsDualWithin most (brought e f) → IsDualInRange p.size (brought e f)
brought_range p e most f ok sound divides some limit within =
    let n = e / f.part in
    let listed = listed_times n f.dual.u (some_quotient e f.part divides some) sound.listed in
    let nodes = candidates_times p n f.dual.u sound.are_candidates in
    record {
      a = omega (arith, within.price, limit);
      ascend = listed.ascend;
      each = λ i d l. (
        All-contains (λ k. k < p.size) p.candidates (get_or (times_values n f.dual.u) i d).0 ok.candidates_are_nodes (nodes i d l),
        listed.values i d l,
        omega (arith, within.values i d l, limit),
      );
    }

pub wider_range : (n m : ℕ) (d : Prices) → n ≤ m → IsDualInRange n d → IsDualInRange m d
wider_range n m d within range = record {
  a = range.a;
  ascend = range.ascend;
  each = λ i x l. (let each = range.each i x l in (omega (arith, each.0, within), each.1, each.2));
}

-- ---- what a fit cut says of each of its duals

zip_at : {A B : Type 0} (R : A → B → Type 0) (xs : List A) (ys : List B) (t : ℕ) (a : A) (b : B) → AllZip R xs ys → t < length xs
    → R (get_or xs t a) (get_or ys t b)
zip_at R [] ys t a b are l = absurd (omega (arith, l))
zip_at R (x ∷ xs) [] t a b are l = absurd are
zip_at R (x ∷ xs) (y ∷ ys) zero a b are l = are.0
zip_at R (x ∷ xs) (y ∷ ys) (suc t) a b are l = zip_at R xs ys t a b are.1 (omega (arith, l))

abbrev no_prices : Prices
no_prices = record { a = 0; u = [] }

fit_at : (p : Problem) (e t : ℕ) (fs : List FoundDual) (d : FoundDual) → t < length fs → length fs ≡ p.size * p.size → IsFitCut p (brought_cut e fs)
    → IsFitDual p (t / p.size, t % p.size) (brought e (get_or fs t d))
fit_at p e t fs d below long fit =
    let n = p.size in
    let here = zip_at (IsFitDual p) (commodities n) (map (brought e) fs) t (0, 0) no_prices fit.duals (omega (arith, below, long, length_commodities n)) in
    let placed = subst (λ (c : ℕ × ℕ). IsFitDual p c (get_or (map (brought e) fs) t no_prices)) (commodity_at n t (0, 0) (omega (arith, below, long))) here in
    subst (IsFitDual p (t / n, t % n)) (get_or-map (brought e) fs t d no_prices below) placed

by_sums : (p : Problem) (e t : ℕ) (fs : List FoundDual) (d : FoundDual) → t < length fs → IsSoundFound p (get_or fs t d) → IsFitCut p (brought_cut e fs)
    → IsDualWithin (e * most_cost) (brought e (get_or fs t d))
by_sums p e t fs d below sound fit =
    let f = get_or fs t d in
    let n = e / f.part in
    let ds = map (brought e) fs in
    let is = get_or-map (brought e) fs t d no_prices below in
    let within : t < length ds = omega (arith, below, length-map fs (brought e)) in
    let nodes = candidates_times p n f.dual.u sound.are_candidates in
    let own = All-map (λ (x : ℕ × ℕ). value_at (times_values n f.dual.u) x.0 ≡ x.1) (times_entry n) f.dual.u
    (All-weaker (λ (x : ℕ × ℕ). value_at f.dual.u x.0 ≡ x.1) (λ (x : ℕ × ℕ). value_at (times_values n f.dual.u) x.0 ≡ n * x.1)
    (λ x same. value_times n f.dual.u x.0 ∙ ap (λ m. n * m) same) f.dual.u sound.own_values) in
    record {
      price = omega (arith, get_or-le-sum_by (λ (x : Prices). x.a) ds t no_prices within, ap (λ (x : Prices). x.a) is, fit.sums.total_limit);
      values = λ i x l.
          (let k = (get_or (times_values n f.dual.u) i x).0 in
          omega (
            arith,
            get_or-le-sum_by (λ (y : Prices). value_at y.u k) ds t no_prices within,
            ap (λ (y : Prices). value_at y.u k) is,
            own i x l,
            All-contains (λ (m : ℕ). load (brought_cut e fs) m ≤ e * most_cost) p.candidates k fit.sums.load_limit (nodes i x l),
          ));
    }

pub fit_within : (p : Problem) (e t most : ℕ) (fs : List FoundDual) (d : FoundDual) → t < length fs → length fs ≡ p.size * p.size
    → IsSoundFound p (get_or fs t d) → (most ≡ most_units * flow p (t / p.size) (t % p.size)) ⊎ (most ≡ e * most_cost)
    → IsFitCut p (brought_cut e fs) → IsDualWithin most (brought e (get_or fs t d))
fit_within p e t most fs d below long sound one fit =
    ⊎_elim (λ by_flow. subst (λ (m : ℕ). IsDualWithin m (brought e (get_or fs t d))) (sym by_flow)
    (let here = fit_at p e t fs d below long fit in record { price = here.price; values = here.values }))
    (λ by_sum. subst (λ (m : ℕ). IsDualWithin m (brought e (get_or fs t d))) (sym by_sum) (by_sums p e t fs d below sound fit)) one

pub within_fit : (p : Problem) (most : ℕ) (c : ℕ × ℕ) (d : Prices) → most ≤ most_units * flow p c.0 c.1 → IsDualWithin most d → IsFitDual p c d
within_fit p most c d limit within = record {
  price = omega (arith, within.price, limit);
  values = λ i x l. omega (arith, within.values i x l, limit);
}

-- ---- the cut as far as it has come

pub record IsBroughtUpTo (p : Problem) (e t : ℕ) (fs : List FoundDual) (cut : Cut) : Type 0 where
  pub is : cut ≡ brought_cut e (take t fs)
  pub range : All (IsDualInRange p.size) cut.duals
  pub fit : AllZip (IsFitDual p) (take t (commodities p.size)) cut.duals

pub brought_next : (p : Problem) (e t : ℕ) (fs : List FoundDual) (f : FoundDual) (cut later : Cut) (d : Prices) → t < p.size * p.size
    → length fs ≡ p.size * p.size → IsBroughtUpTo p e t fs cut → d ≡ brought e (get_or fs t f) → IsDualInRange p.size d
    → IsFitDual p (t / p.size, t % p.size) d → later ≡ record { part = cut.part; duals = cut.duals ++ d ∷ [] } → IsBroughtUpTo p e (t + 1) fs later
brought_next p e t fs f cut later d below long so_far is range fit added =
    let duals = ap (λ (x : Cut). x.duals) added in
    let made : ℕ → List Prices → Cut = λ part ds. record { part = part; duals = ds } in
    let more : map (brought e) (take t fs) ++ d ∷ [] ≡ map (brought e) (take (t + 1) fs) =
    ap (λ (x : Prices). map (brought e) (take t fs) ++ x ∷ []) is
    ∙ sym (map-append (brought e) (take t fs) (get_or fs t f ∷ []))
    ∙ ap (map (brought e)) (sym (take_more fs t f (omega (arith, below, long)))) in
    record {
      is = added ∙ ap₂ made (ap (λ (x : Cut). x.part) so_far.is) (ap (λ (x : Cut). x.duals ++ d ∷ []) so_far.is ∙ more);
      range = subst (All (IsDualInRange p.size)) (sym duals) (All-push (IsDualInRange p.size) cut.duals d so_far.range range);
      fit = subst (AllZip (IsFitDual p) (take (t + 1) (commodities p.size))) (sym duals)
          (next_route_at (IsFitDual p) p.size t cut.duals d below so_far.fit fit);
    }

pub brought_all : (p : Problem) (e t : ℕ) (fs : List FoundDual) (cut : Cut) → p.size * p.size ≤ t → length fs ≡ p.size * p.size
    → IsBroughtUpTo p e t fs cut → (cut ≡ brought_cut e fs) × AllZip (IsFitDual p) (commodities p.size) cut.duals
brought_all p e t fs cut end long so_far = (
  so_far.is ∙ ap (brought_cut e) (take_all t fs (omega (arith, end, long))),
  subst (λ (cs : List (ℕ × ℕ)). AllZip (IsFitDual p) cs cut.duals) (take_all t (commodities p.size) (omega (arith, end, length_commodities p.size))) so_far.fit,
)
