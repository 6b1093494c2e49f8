use Rattle.std.proofs.Common.{◌≡◌, ℕ, ◌+◌, ◌*◌, ◌<◌, ◌≤◌, slice_index, length}
use Rattle.cert_lines.proofs.sums.add_loads.Given as goal

abbrev pub invariant-loop-k : goal.invariant-loop-k
invariant-loop-k l = record {
  done : (k : ℕ) → k < l.k → slice_index l.sums k ≡ slice_index l.fn.sums k + l.times * slice_index l.loads k;
  left : (k : ℕ) → l.k ≤ k → k < length l.fn.sums → slice_index l.sums k ≡ slice_index l.fn.sums k;
}
