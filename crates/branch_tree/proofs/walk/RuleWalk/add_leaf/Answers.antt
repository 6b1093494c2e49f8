use Rattle.search_steps.proofs.LeafPairs.{weights_fit}
use Rattle.branch_tree.proofs.walk.RuleWalk.add_leaf.Goals as goal

pub leaf_line-requires : goal.leaf_line-requires
leaf_line-requires g c = weights_fit c.args.weights.now c.requires.weights
