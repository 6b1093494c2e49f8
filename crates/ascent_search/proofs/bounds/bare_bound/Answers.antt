use Rattle.std.proofs.Common.{◌∙◌, FitsSigned, rules}
use Rattle.std.specs.Int.{w128}
use Rattle.std.proofs.lemmas.Int.{to_z-of_z}
use Rattle.ascent_search.proofs.SingleBounds.{none_numbers, none_within, none_bound_is}
use Rattle.ascent_search.proofs.bounds.bare_bound.Goals as goal

pub bound_by_number-requires-clause-numbers : goal.bound_by_number-requires-clause-numbers
bound_by_number-requires-clause-numbers c =
    none_numbers c.args.instance.now c.bare_weighting.result c.bare_weighting.ensures.problem c.bare_weighting.ensures.lent

pub bound_by_number-requires-clause-nodes : goal.bound_by_number-requires-clause-nodes
bound_by_number-requires-clause-nodes c =
    none_within c.args.instance.now c.bare_weighting.result c.args.branch.now c.bare_weighting.ensures.problem c.requires.branch
    c.bare_weighting.ensures.lent

pub returns-clause-bound : goal.returns-clause-bound
returns-clause-bound c =
    let fits : FitsSigned w128 c.bound_by_number.result = search rules in
    to_z-of_z w128 c.bound_by_number.result fits ∙ c.bound_by_number.ensures.value
    ∙ none_bound_is c.args.instance.now c.bare_weighting.result c.args.branch.now c.bare_weighting.ensures.problem
    c.requires.branch c.bare_weighting.ensures.lent
