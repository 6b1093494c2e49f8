use Rattle.std.proofs.Common.{FitsSigned, ◌∙◌, rules}
use Rattle.std.specs.Int.{w128}
use Rattle.std.proofs.lemmas.Int.{to_z-of_z}
use Rattle.search_steps.specs.Pools.{state_by}
use Rattle.search_steps.specs.Weights.{pairs_of}
use Rattle.search_steps.proofs.Weighed.{closes_by_bound}
use Rattle.search_steps.proofs.bounding.closes.Goals as goal

pub returns : goal.returns
returns g c =
    let p = c.args.weighed.now.instance.now in
    let fits : FitsSigned w128 c.bound.result = search rules in
    let low : FitsSigned w128 c.threshold.result = search rules in
    λ hubs made stop. closes_by_bound p (state_by p c.args.weighed.now.pool.now.entries hubs c.args.cost made stop) c.args.branch.now
    (pairs_of c.args.weighed.now.weights.now) _ _ (to_z-of_z w128 c.threshold.result low ∙ c.threshold.ensures)
    (to_z-of_z w128 c.bound.result fits ∙ c.bound.ensures.value hubs c.args.cost made stop)
