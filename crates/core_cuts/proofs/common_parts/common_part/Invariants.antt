use Rattle.std.proofs.Common.{◌≤◌, ℕ}
use Rattle.core_cuts.specs.FoundCuts.{parts_of, IsCommonPart}
use Rattle.core_cuts.proofs.common_parts.common_part.Given as goal

abbrev pub invariant-loop-part : goal.invariant-loop-part
invariant-loop-part l = (e : ℕ) → IsCommonPart (parts_of l.founds) e → l.part ≤ e
