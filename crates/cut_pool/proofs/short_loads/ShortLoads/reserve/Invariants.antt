use Rattle.std.proofs.Common.{◌≡◌, ◌≤◌, map}
use Rattle.cut_pool.proofs.short_loads.ShortLoads.reserve.Given as goal

abbrev pub invariant-loop-k : goal.invariant-loop-k
invariant-loop-k l = record {
  halvings : l.self-inside.halvings ≡ l.fn.self.halvings;
  rows : map (λ v. v.items) l.self-inside.rows.items ≡ l.fn.self.rows;
  few : l.self-inside.halvings ≤ 97;
}
