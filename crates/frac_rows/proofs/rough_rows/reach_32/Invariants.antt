use Rattle.std.proofs.Common.{◌≡◌, ◌-◌, ◌^◌, min, take}
use Rattle.frac_rows.specs.Stored.{reach}
use Rattle.frac_rows.proofs.rough_rows.reach_32.Given as goal

abbrev pub invariant-loop-k : goal.invariant-loop-k
invariant-loop-k l = l.sum ≡ min (2 ^ 128 - 1) (reach (take l.k l.rough) (take l.k l.tops))
