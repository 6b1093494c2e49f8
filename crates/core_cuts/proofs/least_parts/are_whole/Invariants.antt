use Rattle.std.proofs.Common.{All, take}
use Rattle.core_cuts.specs.BasicRatios.{IsWholeAt}
use Rattle.core_cuts.proofs.least_parts.are_whole.Given as goal

abbrev pub invariant-loop-ratio : goal.invariant-loop-ratio
invariant-loop-ratio l = All (IsWholeAt l.part) (take l.ratio-index l.ratios)
