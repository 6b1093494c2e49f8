use Rattle.std.proofs.Common.{◌≡◌, length}
use Rattle.test_certificates.proofs.lines.leaves.sums_of.Given as goal

abbrev pub invariant-loop-cut : goal.invariant-loop-cut
invariant-loop-cut l = length l.sums.loads ≡ l.instance.size
