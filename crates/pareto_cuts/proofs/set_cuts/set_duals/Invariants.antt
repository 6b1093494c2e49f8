use Rattle.std.proofs.Common.{◌+◌, ◌*◌, ◌≤◌, take}
use Rattle.std.specs.List.{AllZip}
use Rattle.hub_spec.specs.Problem.{commodities}
use Rattle.hub_spec.specs.Separation.{IsMinimalDual}
use Rattle.pareto_cuts.specs.Scratches.{IsReadyFor, HasDualsFrom}
use Rattle.pareto_cuts.proofs.set_cuts.set_duals.Given as goal

abbrev pub invariant-loop-j : goal.invariant-loop-j
invariant-loop-j l = record {
  rows : AllZip (IsMinimalDual l.instance l.set l.order) (take (l.i * l.instance.size + l.j) (commodities l.instance.size)) l.rows.items;
  duals : HasDualsFrom l.instance l.set l.order l.i l.scratch;
  room : l.instance.size ≤ l.scratch.room;
}

abbrev pub invariant-loop-i : goal.invariant-loop-i
invariant-loop-i l = record {
  rows : AllZip (IsMinimalDual l.instance l.set l.order) (take (l.i * l.instance.size) (commodities l.instance.size)) l.rows.items;
  ready : IsReadyFor l.instance l.set l.order l.scratch;
  room : l.instance.size ≤ l.scratch.room;
}
