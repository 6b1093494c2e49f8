use Rattle.std.proofs.Common.{◌≡◌, ◌-◌, ◌^◌, min, sum, take}
use Rattle.frac_rows.proofs.rough_rows.sum_of.Given as goal

abbrev pub invariant-loop-top : goal.invariant-loop-top
invariant-loop-top l = l.total ≡ min (2 ^ 64 - 1) (sum (take l.top-index l.tops))
