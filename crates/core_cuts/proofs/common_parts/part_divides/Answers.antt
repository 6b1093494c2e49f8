use Rattle.std.proofs.Common.{◌↔◌, IsTrue, subst}
use Rattle.std.specs.Int.{◌∣◌}
use Rattle.core_cuts.specs.Readings.{FoundDual}
use Rattle.core_cuts.proofs.common_parts.part_divides.Goals as goal

pub returns : goal.returns
returns c = subst (λ (f : FoundDual). IsTrue c.divides.result ↔ (f.part ∣ c.args.number)) c.found.view_is c.divides.ensures
