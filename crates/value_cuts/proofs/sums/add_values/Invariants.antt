use Rattle.std.proofs.Common.{◌+◌, ◌*◌}
use Rattle.hub_spec.specs.Cuts.{value_at}
use Rattle.hub_spec.specs.Separation.{values_listed}
use Rattle.cut_model.specs.ValueRows.{node_value}
use Rattle.value_cuts.proofs.AddedValues.{AreAdded}
use Rattle.value_cuts.proofs.sums.add_values.Given as goal

abbrev pub invariant-loop-x : goal.invariant-loop-x
invariant-loop-x l =
    AreAdded l.tables l.x (value_at (values_listed (λ k. l.offset + l.flow * node_value l.tables l.unit l.row k) l.tables.candidates))
    l.fn.loads l.loads
