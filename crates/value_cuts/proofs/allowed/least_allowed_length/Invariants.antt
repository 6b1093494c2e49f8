use Rattle.std.proofs.Common.{length}
use Rattle.hub_model.specs.CandidateLengths.{length_ceiling}
use Rattle.value_cuts.proofs.LeastLengths.{IsLeastSoFar, one_or_ceiling, two_or_ceiling}
use Rattle.value_cuts.proofs.allowed.least_allowed_length.Given as goal

abbrev pub invariant-loop-x : goal.invariant-loop-x
invariant-loop-x l =
    IsLeastSoFar (length_ceiling l.tables) (length l.tables.candidates) l.x (one_or_ceiling l.tables (l.i, l.j) l.first)
    (two_or_ceiling l.tables (l.i, l.j) l.first l.last) l.least
