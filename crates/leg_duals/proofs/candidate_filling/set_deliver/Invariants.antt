use Rattle.std.proofs.Common.{◌≡◌, ◌+◌, ◌*◌, length}
use Rattle.unit_duals.specs.Cells.{IsTable}
use Rattle.leg_duals.specs.CandidateLegs.{delivery_length}
use Rattle.leg_duals.proofs.candidate_filling.set_deliver.Given as goal

abbrev pub invariant-loop-j : goal.invariant-loop-j
invariant-loop-j l = IsTable (length l.instance.candidates) (λ j x v. v ≡ delivery_length l.instance j x) l.table (l.j * length l.instance.candidates)

abbrev pub invariant-loop-x : goal.invariant-loop-x
invariant-loop-x l = IsTable (length l.instance.candidates) (λ j x v. v ≡ delivery_length l.instance j x) l.table (l.j * length l.instance.candidates + l.x)
