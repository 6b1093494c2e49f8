-- What a separation holds.
use Rattle.std.specs.Prelude.{◌≡◌}
use Rattle.pareto_cuts.specs.Separations.{SetSeparation, IsSeparation}
use Rattle.pareto_cuts.specs.declared.separations.Separation.TheInside.{Inside}

-- its parts as they are seen
abbrev pub held_separation : Inside → SetSeparation
held_separation s = record {
  problem = s.instance.now;
  hubs = s.hubs.now;
  order = s.order.now;
  start = s.start;
  legs = s.tables.now.legs;
}

-- they are a separation, and the candidates are the instance's
pub record AreSeparationParts (s : Inside) : Type 0 where
  pub separation : IsSeparation (held_separation s)
  pub candidates : s.candidates.now ≡ s.instance.now.candidates
