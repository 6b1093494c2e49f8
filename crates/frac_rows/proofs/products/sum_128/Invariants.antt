use Rattle.std.proofs.Common.{◌≡◌, ◌-◌, length, take}
use Rattle.std.specs.Int.{w128, int_wrap}
use Rattle.frac_rows.specs.Stored.{dot, standing}
use Rattle.frac_rows.proofs.products.sum_128.Given as goal

abbrev pub invariant-loop-k : goal.invariant-loop-k
invariant-loop-k l = l.sum ≡ int_wrap w128 (dot (take l.k l.row) (take l.k (standing l.numbers l.variables (length l.row - 1) l.j)))
