use Rattle.std.proofs.Common.{◌≡◌, map, take}
use Rattle.core_cuts.specs.BasicRatios.{whole_at}
use Rattle.core_cuts.proofs.unit_prices.values_of.Given as goal

abbrev pub invariant-loop-ratio : goal.invariant-loop-ratio
invariant-loop-ratio l = l.values.items ≡ map (whole_at l.part) (take l.ratio-index l.ratios)
