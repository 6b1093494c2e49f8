use Rattle.std.proofs.Common.{ℕ, ◌<◌, ◌≤◌, ◌/◌, ◌^◌, get_or}
use Rattle.cut_pool.proofs.short_loads.halvings_for.Given as goal

abbrev pub invariant-loop-load : goal.invariant-loop-load
invariant-loop-load l = record {
  few : l.halvings ≤ 97;
  least : l.least ≤ l.halvings;
  fit : (k : ℕ) → k < l.load-index → get_or l.loads k 0 / 2 ^ l.halvings < 2 ^ 31;
}
