use Rattle.std.proofs.Common.{◌+◌, ◌*◌, take}
use Rattle.std.specs.List.{AllZip}
use Rattle.hub_spec.specs.Problem.{commodities}
use Rattle.hub_spec.specs.Separation.{IsMinimalDual}
use Rattle.test_plain.proofs.set_cuts.set_cut_rows.Given as goal

abbrev pub invariant-loop-j : goal.invariant-loop-j
invariant-loop-j l =
    AllZip (IsMinimalDual l.instance l.set l.order) (take (l.i * l.instance.size + l.j) (commodities l.instance.size)) l.rows.items

abbrev pub invariant-loop-i : goal.invariant-loop-i
invariant-loop-i l =
    AllZip (IsMinimalDual l.instance l.set l.order) (take (l.i * l.instance.size) (commodities l.instance.size)) l.rows.items
