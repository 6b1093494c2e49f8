use Rattle.std.proofs.Common.{◌≡◌, ℕ, ◌+◌, ◌<◌, length, take}
use Rattle.std.specs.Int.{w32, int_wrap}
use Rattle.frac_rows.specs.Rows.{number}
use Rattle.frac_rows.specs.Stored.{dot, standing}
use Rattle.frac_rows.proofs.rough_rows.rough_sums.Given as goal

abbrev pub invariant-loop-k : goal.invariant-loop-k
invariant-loop-k m = (l : ℕ) → l < length m.sums → number m.sums l
    ≡ int_wrap w32 (dot (take m.k m.rough) (take m.k (standing m.numbers m.variables (length m.rough) (m.first + l))))
