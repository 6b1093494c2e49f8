use Rattle.std.proofs.Common.{ℕ, ◌<◌}
use Rattle.leaf_bound.specs.Numbers.{IsNodeWithin}
use Rattle.test_cuts.proofs.masters.weighing.are_within.Given as goal

abbrev pub invariant-loop-k : goal.invariant-loop-k
invariant-loop-k l = (i : ℕ) → i < l.k → IsNodeWithin l.weighting i
