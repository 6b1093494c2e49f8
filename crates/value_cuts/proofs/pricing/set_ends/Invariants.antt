use Rattle.std.proofs.Common.{slice_index}
use Rattle.cut_model.specs.ValueRows.{node_value}
use Rattle.value_cuts.proofs.Ends.{AreEndsSet}
use Rattle.value_cuts.proofs.pricing.set_ends.Given as goal

abbrev pub invariant-loop-x : goal.invariant-loop-x
invariant-loop-x l = AreEndsSet l.tables (slice_index l.legs) (node_value l.tables l.unit l.row) l.x l.ends
