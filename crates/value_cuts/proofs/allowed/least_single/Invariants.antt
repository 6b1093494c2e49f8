use Rattle.std.proofs.Common.{◌≡◌, ◌+◌, slice_index}
use Rattle.unit_duals.specs.Leasts.{least_of}
use Rattle.hub_model.specs.CandidateLengths.{length_ceiling}
use Rattle.cut_model.specs.ValueRows.{if_allowed}
use Rattle.value_cuts.proofs.allowed.least_single.Given as goal

abbrev pub invariant-loop-x : goal.invariant-loop-x
invariant-loop-x l = l.least ≡ least_of (length_ceiling l.tables)
    (λ x. if_allowed l.tables (l.i, l.j) x x (slice_index l.first x + slice_index l.delivery x) (length_ceiling l.tables)) l.x
