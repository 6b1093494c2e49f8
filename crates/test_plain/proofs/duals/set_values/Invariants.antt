use Rattle.std.proofs.Common.{take}
use Rattle.hub_model.specs.Values.{AreInTurn}
use Rattle.test_plain.proofs.duals.set_values.Given as goal

abbrev pub invariant-loop-t : goal.invariant-loop-t
invariant-loop-t l = AreInTurn l.instance l.hubs (take l.t l.order) (l.i, l.j) l.price l.values
