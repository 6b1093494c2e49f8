use Rattle.std.proofs.Common.{◌≡◌, ℕ, ◌<◌, ◌≤◌, ◌/◌, ◌^◌, get_or}
use Rattle.cut_pool.proofs.short_loads.halve.Given as goal

abbrev pub invariant-loop-number : goal.invariant-loop-number
invariant-loop-number l = record {
  done : (i : ℕ) → i < l.number-index → get_or l.numbers i 0 ≡ get_or l.fn.numbers i 0 / 2 ^ l.halvings;
  rest : (i : ℕ) → l.number-index ≤ i → get_or l.numbers i 0 ≡ get_or l.fn.numbers i 0;
}
