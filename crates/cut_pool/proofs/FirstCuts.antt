-- What the first version of a certificate can state of a cut: where its part is 1, its amounts are within its sums.
use Rattle.std.proofs.Common.{◌≡◌, ℕ, ◌*◌, ◌<◌, ◌≤◌, List, [], ◌∷◌, length, get_or, All, Contains, arith}
use Rattle.std.specs.List.{AllZip}
use Rattle.std.proofs.lemmas.List.Elements.{All-cons, All-nil, All-contains}
use Rattle.std.proofs.lemmas.List.Sums.{get_or-le-sum_by}
use Rattle.hub_spec.specs.Limits.{most_cost}
use Rattle.hub_spec.specs.Problem.{Problem, commodities}
use Rattle.hub_spec.specs.Cuts.{Prices, value_at, IsDual, Cut, load, IsCut}
use Rattle.hub_spec.specs.Ranges.{IsShort, IsCutInRange, IsFirstCut}
use Rattle.search_spec.proofs.SetCosts.{listed_values}

-- the nodes of a feasible dual are candidates
candidates_of : (p : Problem) (part : ℕ) (cs : List (ℕ × ℕ)) (duals : List Prices) → AllZip (IsDual p part) cs duals
    → All (λ (d : Prices). All (λ (e : ℕ × ℕ). Contains p.candidates e.0) d.u) duals
candidates_of p part [] [] are = All-nil (λ (d : Prices). All (λ (e : ℕ × ℕ). Contains p.candidates e.0) d.u)
candidates_of p part [] (d ∷ duals) are = absurd are
candidates_of p part (c ∷ cs) [] are = absurd are
candidates_of p part (c ∷ cs) (d ∷ duals) are =
    All-cons (λ (x : Prices). All (λ (e : ℕ × ℕ). Contains p.candidates e.0) x.u) d duals are.0.are_candidates
    (candidates_of p part cs duals are.1)

pub whole_is_first : (p : Problem) (cut : Cut) → IsCut p cut → IsCutInRange p.size cut → cut.part ≡ 1 → IsFirstCut cut
whole_is_first p cut is_cut in_range whole = record {
  whole = whole;
  each = λ i d below. (price i d below, values i d below);
}
  where
    price : (i : ℕ) (d : Prices) → i < length cut.duals → IsShort (get_or cut.duals i d).a
    price i d below =
        omega (arith, get_or-le-sum_by (λ (x : Prices). x.a) cut.duals i d below, whole, is_cut.sums.total_limit)

    values : (i : ℕ) (d : Prices) → i < length cut.duals → All (λ (e : ℕ × ℕ). IsShort e.1) (get_or cut.duals i d).u
    values i d below = λ t x inside.
        let dual = get_or cut.duals i d in
        let e = get_or dual.u t x in
        let candidate = candidates_of p cut.part (commodities p.size) cut.duals is_cut.duals i d below t x inside in
        let within = All-contains (λ (k : ℕ). load cut k ≤ cut.part * most_cost) p.candidates e.0 is_cut.sums.load_limit candidate in
        omega (
          arith,
          get_or-le-sum_by (λ (y : Prices). value_at y.u e.0) cut.duals i d below,
          listed_values dual.u (in_range.each i d below).ascend t x inside,
          whole,
          within,
        )
