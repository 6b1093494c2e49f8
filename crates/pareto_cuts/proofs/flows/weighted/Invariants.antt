use Rattle.std.proofs.Common.{◌≡◌, ◌*◌, ◌^◌, ◌≤◌, slice_index}
use Rattle.pareto_cuts.specs.Separations.{sum_of}
use Rattle.pareto_cuts.proofs.flows.weighted.Given as goal

abbrev pub invariant-loop-j : goal.invariant-loop-j
invariant-loop-j l = record {
  value : l.sum ≡ sum_of l.j (λ k. slice_index l.flows k * slice_index l.lengths k);
  limit : l.sum ≤ l.j * 2 ^ 108;
}
