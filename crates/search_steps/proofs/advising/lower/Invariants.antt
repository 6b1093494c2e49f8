use Rattle.std.proofs.Common.{◌≡◌, ℕ, ◌*◌, ◌/◌, ◌<◌, ◌≤◌, get_or}
use Rattle.search_steps.proofs.advising.lower.Given as goal

abbrev pub invariant-loop-c : goal.invariant-loop-c
invariant-loop-c l = record {
  done : (i : ℕ) → i < l.c → get_or l.weights i 0 ≡ get_or l.fn.weights i 0 / get_or l.parts i 0 * get_or l.parts i 0;
  rest : (i : ℕ) → l.c ≤ i → get_or l.weights i 0 ≡ get_or l.fn.weights i 0;
}
