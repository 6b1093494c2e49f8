use Rattle.std.proofs.Common.{ℕ, List, ◌+◌, ◌/◌, ◌<◌, ◌≤◌, ◌++◌, All, map, pos, ap, ap₂, ◌∙◌, sym, subst}
use Rattle.std.proofs.lemmas.List.Elements.{All-drop}
use Rattle.hub_spec.specs.Problem.{flow}
use Rattle.core_spec.specs.CoreCuts.{pair_cost}
use Rattle.core_cuts.specs.CoreTables.{core_edges, edge_right}
use Rattle.core_cuts.specs.Bodies.{most_unit}
use Rattle.core_cuts.proofs.NeededLists.{needed_from, singles_cost, rest_of, rest_of_map}
use Rattle.core_cuts.proofs.ProblemLimits.{singles_limit}
use Rattle.core_cuts.proofs.ways.RouteWays.of.Goals as goal

pub unit_costs-requires : goal.unit_costs-requires
unit_costs-requires c =
    let p = c.args.instance.now in
    let are = c.deref.ensures.value ∙ c.in_ok-costs.ensures ∙ ap (map (λ (k : ℕ). pair_cost p (c.args.i, c.args.j) k k)) c.candidates-candidates.ensures.value in
    subst (λ (n : ℕ). All (λ (cost : ℕ). cost / n ≤ most_unit) c.deref.result.now) (sym c.flow_between.ensures.value)
    (subst (λ (xs : List ℕ). All (λ (cost : ℕ). cost / flow p c.args.i c.args.j ≤ most_unit) xs) (sym are)
    (singles_limit p (c.args.i, c.args.j) c.candidates-candidates.ensures.problem c.requires.any_length c.requires.from c.requires.to))

pub loop-x-init : goal.loop-x-init
unfolding core_edges
loop-x-init c =
    let p = c.args.instance.now in
    let nodes = c.candidates-candidates.result.now in (
      ap (λ (es : List (ℕ × ℕ)). es ++ needed_from p (c.args.i, c.args.j) 0) (c.in_ok-edges.ensures ∙ ap (map (λ (k : ℕ). (k, k))) c.candidates-candidates.ensures.value),
      c.in_ok-rights.ensures
          ∙ ap₂ (λ (n : ℕ) (xs : List ℕ). map (λ (cost : ℕ). pos (cost / n)) xs) c.flow_between.ensures.value (c.deref.ensures.value ∙ c.in_ok-costs.ensures)
          ∙ singles_cost p (c.args.i, c.args.j) nodes
          ∙ ap (map (λ (e : ℕ × ℕ). pos (edge_right p (c.args.i, c.args.j) e))) (sym c.in_ok-edges.ensures),
    )

pub add_needed-requires-clause-later : goal.add_needed-requires-clause-later
add_needed-requires-clause-later c =
    let nodes = c.candidates-candidates.result.now in
    subst (λ (xs : List ℕ). All (λ (m : ℕ). m < c.args.instance.now.size) xs) (sym (rest_of (c.loop-x.x + 1) nodes))
    (All-drop (λ (m : ℕ). m < c.args.instance.now.size) (c.loop-x.x + 1) nodes
    (subst (λ (xs : List ℕ). All (λ (m : ℕ). m < c.args.instance.now.size) xs) (sym c.candidates-candidates.ensures.value) c.candidates-candidates.ensures.problem.candidates_are_nodes))

pub add_needed-requires-clause-at_later : goal.add_needed-requires-clause-at_later
add_needed-requires-clause-at_later c =
    rest_of_map (λ (m : ℕ). pair_cost c.args.instance.now (c.args.i, c.args.j) m m) (c.loop-x.x + 1) c.candidates-candidates.result.now c.deref-in-loop-x.result.now
    (c.deref-in-loop-x.ensures.value ∙ c.in_ok-costs.ensures)
