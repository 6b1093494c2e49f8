use Rattle.search_steps.specs.Weights.{pairs_of}
use Rattle.branch_tree.proofs.NodeCases.{open_in_each}
use Rattle.branch_tree.proofs.walk.RuleWalk.fixings.Goals as goal

pub fixings-requires-clause-not_closed : goal.fixings-requires-clause-not_closed
fixings-requires-clause-not_closed g c =
    open_in_each c.args.self.now.task.now.instance.now c.args.self.now.progress c.args.branch.now (pairs_of c.args.weights.now) c.requires.not_closed
