use Rattle.std.proofs.Common.{◌≡◌, ◌≤◌, Vec, Global, ℕ, length, take, All}
use Rattle.std.specs.List.{AllZip}
use Rattle.hub_spec.specs.Limits.{most_part}
use Rattle.leaf_bound.specs.Numbers.{IsSumOf}
use Rattle.test_cuts.proofs.masters.weighing.are_cuts.Given as goal

abbrev pub invariant-loop-c : goal.invariant-loop-c
invariant-loop-c l = record {
  parts : All (λ part. (1 ≤ part) × (part ≤ most_part)) (take l.c l.weighting.parts.now);
  totals : AllZip IsSumOf (take l.c l.weighting.parts.now) (take l.c l.weighting.totals.now);
  wide : All (λ (v : Vec ℕ Global). length v.items ≡ length l.weighting.fixed.now) (take l.c l.weighting.loads.now);
}
