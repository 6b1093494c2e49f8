use Rattle.std.proofs.Common.{◌≡◌, ◌-◌, ◌*◌, ◌≤◌, sum_by, take, slice_index}
use Rattle.hub_spec.specs.Limits.{most_denominator, most_cost}
use Rattle.hub_spec.specs.Problem.{fixed_cost}
use Rattle.cert_lines.specs.Marks.{marked}
use Rattle.cert_lines.proofs.sums.losses.Given as goal

abbrev pub invariant-loop-k : goal.invariant-loop-k
invariant-loop-k l = record {
  value : l.sum ≡ sum_by (λ k. slice_index l.loads k - l.denom * fixed_cost l.instance k) (marked (take l.k l.marks));
  limit : l.sum ≤ l.k * (most_denominator * most_cost);
}
