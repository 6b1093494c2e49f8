use Rattle.std.proofs.Common.{◌≡◌, ℕ, ◌≤◌, length, drop, get_or}
use Rattle.hub_spec.specs.Cuts.{value_at}
use Rattle.dual_lines.proofs.stated.set_amounts.Given as goal

abbrev pub invariant-loop-left : goal.invariant-loop-left
invariant-loop-left l = record {
  within : l.left ≤ length l.dual.u;
  long : length l.amounts ≡ length l.fn.amounts;
  are : (k : ℕ) → get_or l.amounts k 0 ≡ value_at (drop l.left l.dual.u) k;
}

abbrev pub decreases-loop-left : goal.decreases-loop-left
decreases-loop-left l = l.left
