use Rattle.std.proofs.Common.{◌≡◌, slice_index}
use Rattle.unit_duals.specs.Leasts.{least_of}
use Rattle.value_cuts.proofs.pricing.least_end.Given as goal

abbrev pub invariant-loop-x : goal.invariant-loop-x
invariant-loop-x l = l.least ≡ least_of l.most (slice_index l.ends) l.x
