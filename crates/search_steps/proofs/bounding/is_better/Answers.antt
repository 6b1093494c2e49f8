use Rattle.std.proofs.Common.{◌∙◌, FitsSigned, rules}
use Rattle.std.specs.Int.{w128}
use Rattle.std.proofs.lemmas.Int.{to_z-of_z}
use Rattle.search_steps.specs.Pools.{state_by}
use Rattle.search_steps.specs.Weights.{pairs_of}
use Rattle.search_steps.proofs.Weighed.{better_by}
use Rattle.search_steps.proofs.bounding.is_better.Goals as goal

pub returns-clause-better : goal.returns-clause-better
returns-clause-better g c =
    let p = c.args.present.now.instance.now in
    let fits : FitsSigned w128 c.bound.result = search rules in
    let fits_2 : FitsSigned w128 c.bound-2.result = search rules in
    λ hubs cost made stop. better_by p (state_by p c.args.present.now.pool.now.entries hubs cost made stop) c.args.branch.now
    (pairs_of c.args.present.now.weights.now) (pairs_of c.args.advised.now) _ _
    (to_z-of_z w128 c.bound.result fits ∙ c.bound.ensures.value hubs cost made stop)
    (to_z-of_z w128 c.bound-2.result fits_2 ∙ c.bound-2.ensures.value hubs cost made stop)
