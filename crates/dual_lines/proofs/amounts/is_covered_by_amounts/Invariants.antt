use Rattle.std.proofs.Common.{take, All}
use Rattle.dual_lines.specs.Covers.{IsCoveredFirst}
use Rattle.dual_lines.proofs.amounts.is_covered_by_amounts.Given as goal

abbrev pub invariant-loop-k : goal.invariant-loop-k
invariant-loop-k l = All (IsCoveredFirst l.instance l.line.part (l.line.from, l.line.to) l.line.price l.amounts) (take l.k-index l.candidates)
