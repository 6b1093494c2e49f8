use Rattle.std.proofs.Common.{◌≡◌, ◌*◌, length}
use Rattle.unit_duals.specs.Cells.{IsTable}
use Rattle.leg_duals.specs.CandidateLegs.{collection_length}
use Rattle.leg_duals.proofs.candidate_filling.set_collect.Given as goal

abbrev pub invariant-loop-i : goal.invariant-loop-i
invariant-loop-i l = IsTable (length l.instance.candidates) (λ i x v. v ≡ collection_length l.instance i x) l.table (l.i * length l.instance.candidates)
