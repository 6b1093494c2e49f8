use Rattle.std.proofs.Common.{◌+◌, length, slice_index}
use Rattle.hub_model.specs.CandidateLengths.{length_ceiling}
use Rattle.leg_duals.specs.CandidateLegs.{trunk_length, delivery_length}
use Rattle.value_cuts.proofs.LeastLengths.{IsLeastSoFar}
use Rattle.value_cuts.proofs.pricing.least_length.Given as goal

abbrev pub invariant-loop-x : goal.invariant-loop-x
invariant-loop-x l =
    IsLeastSoFar (length_ceiling l.tables) (length l.tables.candidates) l.x (λ x. slice_index l.first x + delivery_length l.tables l.j x)
    (λ x y. slice_index l.first x + trunk_length l.tables x y + slice_index l.last y) l.least
