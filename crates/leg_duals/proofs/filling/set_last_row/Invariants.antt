use Rattle.std.proofs.Common.{◌+◌, ◌*◌}
use Rattle.hub_spec.specs.Problem.{distance}
use Rattle.unit_duals.specs.Raised.{IsRowSet}
use Rattle.leg_duals.proofs.filling.set_last_row.Given as goal

abbrev pub invariant-loop-j : goal.invariant-loop-j
invariant-loop-j l =
    IsRowSet l.size l.t l.j (λ j. l.instance.deliver * distance l.instance l.from (l.start + j)) l.fn.table l.table
