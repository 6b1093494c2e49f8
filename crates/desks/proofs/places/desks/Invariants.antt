use Rattle.std.proofs.Common.{◌≡◌, length, All}
use Rattle.desks.proofs.places.desks.Given as goal

abbrev pub invariant-loop : goal.invariant-loop
invariant-loop g l = All (λ d. d ≡ l.key) l.desks.items × (length l.desks.items ≡ l.counter)

abbrev pub invariant-loop-at : goal.invariant-loop-at
invariant-loop-at g l = All (λ d. d ≡ l.key) l.desks.items × (length l.desks.items ≡ l.counter) × (l.desk ≡ l.key)
