use Rattle.std.proofs.Common.{◌≡◌, None, length, All}
use Rattle.core_cuts.proofs.ahead.nothing_ahead.Given as goal

abbrev pub invariant-loop : goal.invariant-loop
invariant-loop l = (length l.ahead.items ≡ l.counter) × All (λ place. place ≡ None) l.ahead.items
