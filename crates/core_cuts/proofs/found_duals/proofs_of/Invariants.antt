use Rattle.std.proofs.Common.{◌≡◌}
use Rattle.core_cuts.specs.FoundCuts.{proofs_of}
use Rattle.core_cuts.proofs.found_duals.proofs_of.Given as goal

abbrev pub invariant-loop-found : goal.invariant-loop-found
invariant-loop-found l = l.proofs.items ≡ proofs_of l.yielded
