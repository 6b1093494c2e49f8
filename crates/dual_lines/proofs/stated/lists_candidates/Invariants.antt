use Rattle.std.proofs.Common.{ℕ, take, All, Contains}
use Rattle.dual_lines.proofs.stated.lists_candidates.Given as goal

abbrev pub invariant-loop-at : goal.invariant-loop-at
invariant-loop-at l = All (λ (e : ℕ × ℕ). Contains l.instance.candidates e.0) (take l.at l.dual.u)
