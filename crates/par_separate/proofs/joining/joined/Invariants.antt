use Rattle.std.proofs.Common.{◌≡◌, flat_map}
use Rattle.par_separate.proofs.joining.joined.Given as goal

abbrev pub invariant-loop-duals : goal.invariant-loop-duals
invariant-loop-duals l = l.joined.items ≡ flat_map (λ duals. duals.items) l.yielded
