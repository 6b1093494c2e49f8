use Rattle.std.proofs.Common.{◌↔◌, IsTrue, get_or, subst}
use Rattle.std.specs.Int.{◌∣◌}
use Rattle.hub_spec.proofs.AllLoops.{all_ended, all_broken, all_goes_on}
use Rattle.core_cuts.specs.Readings.{FoundDual}
use Rattle.core_cuts.proofs.common_parts.divide.Goals as goal
use Rattle.core_cuts.proofs.common_parts.divide.Goals.{After-part_divides}

tells : (c : After-part_divides) → IsTrue c.part_divides.result ↔ ((get_or c.args.founds.now c.loop-found.found-index c.found-item.result).part ∣ c.args.number)
tells c = subst (λ (f : FoundDual). IsTrue c.part_divides.result ↔ (f.part ∣ c.args.number)) c.found-item.is c.part_divides.ensures

pub loop-found-preserved : goal.loop-found-preserved
loop-found-preserved c =
    all_goes_on (λ (f : FoundDual). f.part ∣ c.args.number) c.args.founds.now c.loop-found.found-index c.found-item.result c.part_divides.result
    c.loop-found-test.true (tells (goal.at.loop-found-preserved c).After-part_divides) c.if-not-part_divides.false c.loop-found.invariant

pub returns-then-not-part_divides : goal.returns-then-not-part_divides
returns-then-not-part_divides c =
    all_broken (λ (f : FoundDual). f.part ∣ c.args.number) c.args.founds.now c.loop-found.found-index c.found-item.result c.part_divides.result
    c.loop-found-test.true (tells (goal.at.returns-then-not-part_divides c).After-part_divides) c.if-not-part_divides.true

pub returns : goal.returns
returns c =
    all_ended (λ (f : FoundDual). f.part ∣ c.args.number) c.args.founds.now c.loop-found.found-index c.loop-found-test.false c.loop-found.invariant
