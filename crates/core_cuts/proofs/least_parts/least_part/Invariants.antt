use Rattle.std.proofs.Common.{◌≤◌, ℕ, All}
use Rattle.core_cuts.specs.BasicRatios.{IsWholeAt}
use Rattle.core_cuts.proofs.least_parts.least_part.Given as goal

abbrev pub invariant-loop-part : goal.invariant-loop-part
invariant-loop-part l = (f : ℕ) → 1 ≤ f → All (IsWholeAt f) l.ratios → l.part ≤ f
