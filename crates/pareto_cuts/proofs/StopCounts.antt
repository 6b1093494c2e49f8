-- The hubs and the candidates of an order are different nodes: together they are no more than the nodes.
use Rattle.std.proofs.Common.{◌≡◌, ℕ, ◌+◌, ◌-◌, ◌<◌, ◌≤◌, nat_eq, List, ◌++◌, length, get_or, Contains, ⊎_elim, refl, sym, subst, ◌∙◌, ne_eqb, eqb-true, arith}
use Rattle.std.proofs.lemmas.Bool.{cases_lt}
use Rattle.std.proofs.lemmas.Grind.{get_or_default_zero}
use Rattle.std.proofs.lemmas.Map.Keys.{IsDistinct-from_apart}
use Rattle.std.proofs.lemmas.Map.Steps.{length-le_from_distinct_below}
use Rattle.std.proofs.lemmas.Map.Views.{Contains-from_any}
use Rattle.std.proofs.lemmas.List.{get_or_append_left, get_or-append_right, length-append}
use Rattle.std.proofs.lemmas.List.Elements.{All-append, All-contains, All-get_or, Contains-get_or}
use Rattle.std.proofs.lemmas.List.Kept.{AllPairs-from_increasing}
use Rattle.hub_spec.specs.Problem.{Problem, IsProblem}
use Rattle.hub_spec.specs.Plans.{IsHubSet}
use Rattle.hub_spec.specs.Separation.{IsOrder}
use Rattle.hub_spec.proofs.Limits.{hubs_are_nodes}
use Rattle.hub_model.proofs.Turns.{order_nodes}

-- two stops at different places are different nodes
apart : (p : Problem) (hubs order : List ℕ) (i j d : ℕ) → IsHubSet p hubs → IsOrder p hubs order → i < j → j < length (order ++ hubs)
    → get_or (order ++ hubs) i d ≡ get_or (order ++ hubs) j d → ⊥
apart p hubs order i j d set is less below same =
    ⊎_elim
    (λ (early : j < length order). is.once i j less early
    (sym (get_or_default_zero order i d (omega (arith, less, early))) ∙ sym (place i (omega (arith, less, early))) ∙ same ∙ place j early
    ∙ get_or_default_zero order j d early))
    (λ (late : length order ≤ j). ⊎_elim
    (λ (first : i < length order). All-get_or (λ k. Contains hubs k → ⊥) order i d first is.outside
    (subst (Contains hubs) (sym (hub j late) ∙ sym same ∙ place i first) (Contains-get_or hubs (j - length order) d (count j late below))))
    (λ (second : length order ≤ i). let up = AllPairs-from_increasing hubs set.ascend (i - length order) (j - length order) d
    (omega (arith, less, second)) (count j late below) in
    omega (arith, up, sym (hub i second) ∙ same ∙ hub j late))
    (cases_lt i (length order)))
    (cases_lt j (length order))
  where
    place : (k : ℕ) → k < length order → get_or (order ++ hubs) k d ≡ get_or order k d
    place k early = get_or_append_left order hubs d k early

    hub : (k : ℕ) → length order ≤ k → get_or (order ++ hubs) k d ≡ get_or hubs (k - length order) d
    hub k late = get_or-append_right order hubs (length order) k d refl late

    count : (k : ℕ) → length order ≤ k → k < length (order ++ hubs) → k - length order < length hubs
    count k late within = omega (arith, late, within, length-append order hubs)

pub stops_within : (p : Problem) (hubs order : List ℕ) → IsProblem p → IsHubSet p hubs → IsOrder p hubs order
    → length order + length hubs ≤ p.size
stops_within p hubs order ok set is =
    let all = order ++ hubs in
    let nodes = All-append (λ k. k < p.size) order hubs (order_nodes p hubs order ok is) (hubs_are_nodes p hubs ok.limits set) in
    let few = length-le_from_distinct_below all p.size
    (IsDistinct-from_apart nat_eq all (λ i j d less below. ne_eqb (get_or all i d) (get_or all j d) (apart p hubs order i j d set is less below)))
    (λ q found. All-contains (λ k. k < p.size) all q nodes (Contains-from_any {eq = nat_eq} (λ x y e. eqb-true x y e) q all found)) in
    omega (arith, few, length-append order hubs)
