use Rattle.std.proofs.Common.{take}
use Rattle.std.specs.List.{AllZip}
use Rattle.leaf_bound.specs.Bounds.{loads_of}
use Rattle.leaf_bound.specs.Numbers.{rows_of, IsSumOf}
use Rattle.test_cuts.proofs.masters.weighing.is_within.Given as goal

abbrev pub invariant-loop-c : goal.invariant-loop-c
invariant-loop-c l =
    AllZip IsSumOf (take l.c l.weighting.parts.now) (take l.c (loads_of (rows_of l.weighting) l.k))
