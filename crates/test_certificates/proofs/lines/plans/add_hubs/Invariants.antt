use Rattle.std.proofs.Common.{◌≡◌, ℕ, ◌<◌, All}
use Rattle.test_certificates.proofs.lines.plans.add_hubs.Given as goal

abbrev pub invariant-loop-k : goal.invariant-loop-k
invariant-loop-k l = record {
  size : l.sums.size ≡ l.instance.size;
  none : l.sums.routed ≡ 0;
  below : All (λ (m : ℕ). m < l.least) l.sums.hubs;
}
