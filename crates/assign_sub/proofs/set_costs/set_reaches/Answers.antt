use Rattle.hub_spec.proofs.BestRoutes.{hub_is_node}
use Rattle.assign_sub.proofs.set_costs.set_reaches.Goals as goal

pub reach_of-requires-clause-last : goal.reach_of-requires-clause-last
reach_of-requires-clause-last c =
    hub_is_node c.args.instance.now c.args.hubs.now c.loop-y.y c.requires.problem c.requires.set c.loop-y-test.true
