use Rattle.std.proofs.Common.{take, All}
use Rattle.dual_lines.specs.Covers.{IsCoveredBy}
use Rattle.dual_lines.proofs.amounts.is_covered_from.Given as goal

abbrev pub invariant-loop-m : goal.invariant-loop-m
invariant-loop-m l = All (IsCoveredBy l.instance l.line.part (l.line.from, l.line.to) l.line.price l.amounts l.k) (take l.m-index l.candidates)
