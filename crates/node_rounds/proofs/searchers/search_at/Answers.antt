use Rattle.std.proofs.Common.{◌∙◌}
use Rattle.node_rounds.proofs.Alike.{after_none}
use Rattle.node_rounds.proofs.searchers.search_at.Goals as goal

pub search_by-requires-clause-turner : goal.search_by-requires-clause-turner
search_by-requires-clause-turner g c = λ lifetimes live. record {
  partner = c.new-2.ensures ∙ c.requires.desk;
  stands = after_none c.args.task.now.instance.now c.args.task.now.nodes;
}
