use Rattle.std.proofs.Common.{◌≡◌, ◌≤◌, ℕ, [], map, get_or}
use Rattle.cut_pool.proofs.short_loads.ShortLoads.start.Given as goal

abbrev pub invariant-loop : goal.invariant-loop
invariant-loop l = record {
  halvings : l.self-inside.halvings ≡ l.fn.self.halvings;
  rows : (k : ℕ) → get_or (map (λ v. v.items) l.self-inside.rows.items) k [] ≡ get_or l.fn.self.rows k [];
  few : l.self-inside.halvings ≤ 97;
}
