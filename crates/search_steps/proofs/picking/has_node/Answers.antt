use Rattle.std.proofs.Common.{◌∙◌}
use Rattle.search_steps.proofs.Points.{found_is}
use Rattle.search_steps.proofs.picking.has_node.Goals as goal

pub returns : goal.returns
returns c = c.is_ok.ensures.value ∙ found_is c.args.nodes.now c.args.k c.binary_search.result c.requires c.binary_search.ensures.position
