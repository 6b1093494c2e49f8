use Rattle.std.proofs.Common.{All, take}
use Rattle.std.specs.Int.{◌∣◌}
use Rattle.core_cuts.proofs.common_parts.divide.Given as goal

abbrev pub invariant-loop-found : goal.invariant-loop-found
invariant-loop-found l = All (λ f. f.part ∣ l.number) (take l.found-index l.founds)
