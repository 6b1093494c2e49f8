use Rattle.std.proofs.Common.{◌≡◌, ◌+◌, slice_index}
use Rattle.unit_duals.specs.Leasts.{least_of}
use Rattle.value_cuts.proofs.pricing.least_sum.Given as goal

abbrev pub invariant-loop-x : goal.invariant-loop-x
invariant-loop-x l = l.least ≡ least_of l.most (λ x. slice_index l.legs x + slice_index l.ends x) l.x
