use Rattle.std.proofs.Common.{◌≡◌, ◌-◌, ◌++◌, drop, replicate, get_or}
use Rattle.cert_format.specs.DualItems.{no_dual}
use Rattle.cert_format.proofs.rows.equal_duals.Given as goal

abbrev pub invariant-loop-end : goal.invariant-loop-end
invariant-loop-end l = drop l.j l.row ≡ replicate (l.end - l.j) (get_or l.row l.j no_dual) ++ drop l.end l.row
