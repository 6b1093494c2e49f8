use Rattle.std.proofs.Common.{◌≡◌, ℕ, ◌*◌, ◌/◌, ◌<◌, get_or}
use Rattle.test_cuts.proofs.masters.weighing.are_multiples.Given as goal

abbrev pub invariant-loop-c : goal.invariant-loop-c
invariant-loop-c l = (i : ℕ) → i < l.c → get_or l.weights i 0 / get_or l.parts i 0 * get_or l.parts i 0 ≡ get_or l.weights i 0
