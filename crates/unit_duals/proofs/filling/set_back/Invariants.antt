use Rattle.unit_duals.specs.Lengths.{stops}
use Rattle.unit_duals.specs.Values.{back_leg}
use Rattle.unit_duals.proofs.TableColumns.{AreColumnsSet}
use Rattle.unit_duals.proofs.filling.set_back.Given as goal

abbrev pub invariant-loop-j : goal.invariant-loop-j
invariant-loop-j l = AreColumnsSet l.legs.size (stops l.legs) l.j (back_leg l.legs) l.back
