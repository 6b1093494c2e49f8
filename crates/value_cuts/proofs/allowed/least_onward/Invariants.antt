use Rattle.std.proofs.Common.{◌≡◌, ◌+◌, slice_index}
use Rattle.unit_duals.specs.Leasts.{least_of}
use Rattle.leg_duals.specs.CandidateLegs.{trunk_length}
use Rattle.cut_model.specs.ValueRows.{if_allowed}
use Rattle.value_cuts.proofs.allowed.least_onward.Given as goal

abbrev pub invariant-loop-y : goal.invariant-loop-y
invariant-loop-y l = l.least ≡ least_of l.most (λ y. if_allowed l.tables (l.i, l.j) l.x y (trunk_length l.tables l.x y + slice_index l.last y) l.most) l.y
