use Rattle.unit_duals.specs.Nearness.{IsFarForth, AreNearUpTo}
use Rattle.unit_duals.proofs.nearby.set_lists_forth.Given as goal

abbrev pub invariant-loop-t : goal.invariant-loop-t
invariant-loop-t l = AreNearUpTo l.legs.size l.legs.count (IsFarForth l.legs l.back) l.t l.end l.starts l.nodes
