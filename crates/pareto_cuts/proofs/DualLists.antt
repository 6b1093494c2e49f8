-- A minimal dual by the list of its values.
use Rattle.std.proofs.Common.{◌≡◌, ℕ, ◌+◌, ◌<◌, ◌≤◌, ◌⊎◌, inl, inr, List, slice_index, All, Contains, ⊎_elim, subst, ◌∙◌, arith}
use Rattle.std.proofs.lemmas.List.Elements.{All-weaker, All-contains, All-from_get_or, Contains-get_or}
use Rattle.hub_spec.specs.Limits.{most_cost}
use Rattle.hub_spec.specs.Problem.{Problem, IsProblem}
use Rattle.hub_spec.specs.Edges.{IsLeastCost}
use Rattle.hub_spec.specs.Plans.{IsHubSet}
use Rattle.hub_spec.specs.Cuts.{Prices}
use Rattle.hub_spec.specs.Separation.{AreListedValues, IsMinimalDual, values_listed, minimal_dual}
use Rattle.hub_spec.proofs.Limits.{hubs_are_nodes, route_cost_limit}
use Rattle.hub_spec.proofs.SetCuts.{value_within}
use Rattle.hub_spec.proofs.SetCutFunction.{IsListed, all_listed, listed_ascends, value_at_listed, values_same}
use Rattle.pareto_cuts.specs.Separations.{SetSeparation, IsSeparation}
use Rattle.pareto_cuts.specs.UnitCosts.{AreValuesOf}
use Rattle.pareto_cuts.proofs.Columns.{in_or_out, none_outside, minimal_of}

pub price_limit : (p : Problem) (hubs : List ℕ) (i j a : ℕ) → IsProblem p → IsHubSet p hubs → i < p.size → j < p.size
    → IsLeastCost p hubs (i, j) a → a ≤ most_cost
price_limit p hubs i j a ok set from to least =
    let (k, m, first, last, is, allowed) = least.reached in
    let nodes = hubs_are_nodes p hubs ok.limits set in
    omega (
      arith,
      is,
      route_cost_limit p i j k m ok from to (All-contains (λ x. x < p.size) hubs k nodes first) (All-contains (λ x. x < p.size) hubs m nodes last),
    )

pub value_limit : (s : SetSeparation) (i j : ℕ) (values : List ℕ) → IsSeparation s → i < s.problem.size → j < s.legs.size
    → AreValuesOf s i j values → All (λ v. v ≤ most_cost) values
value_limit s i j values is from to are =
    let d = minimal_dual s.problem s.hubs s.order (i, s.start + j) in
    let minimal = minimal_of s i j is from to in
    All-from_get_or (λ v. v ≤ most_cost) values 0
    (λ k below. omega (
      arith,
      are.each k,
      value_within s.problem s.hubs s.order (i, s.start + j) d k minimal,
      price_limit s.problem s.hubs i (s.start + j) d.a is.problem is.set from (omega (arith, to, is.legs.destinations)) minimal.price,
    ))

listed : (v : ℕ → ℕ) (p : Problem) → IsProblem p → AreListedValues (values_listed v p.candidates)
listed v p ok = record {
  values = All-weaker (IsListed v p.candidates) (λ (e : ℕ × ℕ). 1 ≤ e.1) (λ e l. l.least) (values_listed v p.candidates) (all_listed v p.candidates);
  ascend = listed_ascends v p.candidates ok.candidates_ascend;
}

-- what lists the values by node is the dual's list
pub values_are_listed : (s : SetSeparation) (i j : ℕ) (values : List ℕ) → IsSeparation s → i < s.problem.size → j < s.legs.size → AreValuesOf s i j values
    → values_listed (slice_index values) s.problem.candidates ≡ (minimal_dual s.problem s.hubs s.order (i, s.start + j)).u
values_are_listed s i j values is from to are =
    values_same (values_listed v s.problem.candidates) d.u (listed v s.problem is.problem) minimal.listed
    (λ k. value_at_listed v s.problem.candidates k (known k) ∙ are.each k)
  where
    d : Prices
    d = minimal_dual s.problem s.hubs s.order (i, s.start + j)

    minimal : IsMinimalDual s.problem s.hubs s.order (i, s.start + j) d
    minimal = minimal_of s i j is from to

    v : ℕ → ℕ
    v = slice_index values

    outside : (k : ℕ) → (Contains s.problem.candidates k → ⊥) → Contains s.order k → ⊥
    outside k none there = none (All-contains (Contains s.problem.candidates) s.order k is.order.are_candidates there)

    known : (k : ℕ) → Contains s.problem.candidates k ⊎ (v k ≡ 0)
    known k = ⊎_elim
        (λ place. inl (subst (Contains s.problem.candidates) place.2 (Contains-get_or s.problem.candidates place.0 0 place.1)))
        (λ out. inr (are.each k ∙ none_outside s.problem s.hubs s.order (i, s.start + j) d k minimal (outside k out)))
        (in_or_out s.problem.candidates k)
