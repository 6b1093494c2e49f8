use Rattle.unit_duals.specs.Raised.{left_beside, IsRaised}
use Rattle.unit_duals.proofs.raising.raise_home.Given as goal

abbrev pub invariant-loop-nearby : goal.invariant-loop-nearby
invariant-loop-nearby l =
    IsRaised l.at l.near (left_beside l.rest l.last l.base) l.nearby-index l.fn.values l.values
