use Rattle.std.proofs.Common.{FitsSigned, rules, refl, ◌∙◌}
use Rattle.std.specs.Int.{w128}
use Rattle.std.proofs.lemmas.Int.{to_z-of_z}
use Rattle.search_steps.proofs.Weighed.{weighting_numbers, weighted_within, lent_for}
use Rattle.search_steps.proofs.rules.Rule.bound.Goals as goal

pub bound_by_number-requires-clause-numbers : goal.bound_by_number-requires-clause-numbers
bound_by_number-requires-clause-numbers g c = weighting_numbers c.args.weighed.now c.weighting.result c.weighting.ensures

pub bound_by_number-requires-clause-nodes : goal.bound_by_number-requires-clause-nodes
bound_by_number-requires-clause-nodes g c =
    weighted_within c.args.weighed.now c.weighting.result c.args.branch.now c.weighting.ensures c.requires.branch

pub returns-clause-value : goal.returns-clause-value
returns-clause-value g c =
    let w = c.args.weighed.now in
    let fits : FitsSigned w128 c.bound_by_number.result = search rules in
    λ hubs cost made stop. to_z-of_z w128 c.bound_by_number.result fits ∙ c.bound_by_number.ensures.value
    ∙ lent_for w.instance.now.wanted w c.weighting.result c.args.branch.now refl c.weighting.ensures c.requires.branch hubs cost made stop
