use Rattle.std.proofs.Common.{◌≡◌, map, take}
use Rattle.frac_rows.specs.Rows.{right_side}
use Rattle.plain_rows.proofs.given.rights_of.Given as goal

abbrev pub invariant-loop-i : goal.invariant-loop-i
invariant-loop-i l = l.rights.items ≡ take l.i (map right_side (map (λ v. v.items) l.constraints))
