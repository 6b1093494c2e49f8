use Rattle.std.proofs.Common.{◌≡◌, ℕ, ◌^◌, ◌<◌, ◌≤◌, All, length, get_or, unsigned_abs}
use Rattle.frac_rows.specs.Stored.{piece}
use Rattle.frac_rows.proofs.starts.tops_of.Given as goal

abbrev pub invariant-loop-k : goal.invariant-loop-k
invariant-loop-k l = record {
  long : length l.tops.items ≡ l.k;
  under : (k : ℕ) → k < l.k → All (λ x. unsigned_abs x ≤ get_or l.tops.items k 0) (piece l.variables l.numbers k);
  limit : All (λ t. t ≤ 2 ^ 32) l.tops.items;
}
