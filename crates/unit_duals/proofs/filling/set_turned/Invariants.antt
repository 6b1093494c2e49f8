use Rattle.std.proofs.Common.{◌≡◌, ◌+◌, ◌*◌}
use Rattle.unit_duals.specs.Cells.{IsTable}
use Rattle.unit_duals.specs.Lengths.{trunk_leg}
use Rattle.unit_duals.proofs.filling.set_turned.Given as goal

abbrev pub invariant-loop-k : goal.invariant-loop-k
invariant-loop-k l = IsTable l.stops (λ k m v. v ≡ trunk_leg l.legs m k) l.turned (l.k * l.stops)

abbrev pub invariant-loop-m : goal.invariant-loop-m
invariant-loop-m l = IsTable l.stops (λ k m v. v ≡ trunk_leg l.legs m k) l.turned (l.k * l.stops + l.m)
