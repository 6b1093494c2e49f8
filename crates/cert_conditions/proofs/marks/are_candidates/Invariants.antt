use Rattle.std.proofs.Common.{take, All, Contains}
use Rattle.cert_conditions.proofs.marks.are_candidates.Given as goal

abbrev pub invariant-loop-k : goal.invariant-loop-k
invariant-loop-k l = All (Contains l.instance.candidates) (take l.k-index l.nodes)
