use Rattle.std.proofs.Common.{◌≤◌, map, max, take, All}
use Rattle.std.specs.List.{AllZip}
use Rattle.test_cuts.proofs.masters.masters.are_within.Given as goal

abbrev pub invariant-loop-i : goal.invariant-loop-i
invariant-loop-i l = AllZip (λ total row. All (λ x. x ≤ max total 0) row) (take l.i l.totals) (map (λ v. v.items) (take l.i l.loads))
