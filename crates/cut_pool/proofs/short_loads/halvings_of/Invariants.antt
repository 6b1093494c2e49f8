use Rattle.std.proofs.Common.{ℕ, ◌<◌, ◌≤◌, ◌/◌, ◌^◌}
use Rattle.cut_pool.proofs.short_loads.halvings_of.Given as goal

abbrev pub invariant-loop-made : goal.invariant-loop-made
invariant-loop-made l = record {
  above : l.least ≤ l.made;
  first : (h : ℕ) → l.least ≤ h → h < l.made → 2 ^ 31 ≤ l.load / 2 ^ h;
}
