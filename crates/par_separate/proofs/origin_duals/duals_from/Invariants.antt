use Rattle.std.proofs.Common.{◌≡◌, map}
use Rattle.std.specs.List.{range_with_len}
use Rattle.hub_spec.specs.Separation.{minimal_dual}
use Rattle.par_separate.proofs.origin_duals.duals_from.Given as goal

abbrev pub invariant-loop-j : goal.invariant-loop-j
invariant-loop-j l = record {
  duals : l.duals.items ≡ map (λ j. minimal_dual l.separation.problem l.separation.hubs l.separation.order (l.i, j)) (range_with_len 0 l.j);
  room : l.dual.room ≡ l.fn.dual.room;
}
