use Rattle.std.proofs.Common.{◌-◌, slice_index}
use Rattle.unit_duals.specs.Raised.{IsRaised}
use Rattle.unit_duals.proofs.raising.raise_forth.Given as goal

abbrev pub invariant-loop-nearby : goal.invariant-loop-nearby
invariant-loop-nearby l = IsRaised l.at l.near (λ j. slice_index l.slack j - l.base) l.nearby-index l.fn.values l.values
