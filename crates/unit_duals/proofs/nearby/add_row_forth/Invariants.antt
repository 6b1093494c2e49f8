use Rattle.unit_duals.specs.Nearness.{IsFarForth}
use Rattle.unit_duals.proofs.Listing.{IsNearRowAt}
use Rattle.unit_duals.proofs.nearby.add_row_forth.Given as goal

abbrev pub invariant-loop-e : goal.invariant-loop-e
invariant-loop-e l = IsNearRowAt l.legs.size l.legs.count (IsFarForth l.legs l.back) l.t l.e l.end l.starts l.nodes
