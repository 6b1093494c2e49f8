use Rattle.std.proofs.Common.{◌≡◌, ℕ, ◌+◌, ◌*◌, length, take, get_or}
use Rattle.hub_spec.specs.Cuts.{value_at}
use Rattle.cert_conditions.proofs.sums.add_values.Given as goal

abbrev pub invariant-loop-e : goal.invariant-loop-e
invariant-loop-e l = record {
  long : length l.loads ≡ length l.fn.loads;
  each : (k : ℕ) → get_or l.loads k 0 ≡ get_or l.fn.loads k 0 + l.fn.run * value_at (take l.e l.values) k;
}
