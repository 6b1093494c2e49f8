-- What the parts of the workspace stand for.
use Rattle.std.specs.Prelude.{◌≤◌}
use Rattle.ascent_search.specs.Benches.{BenchState, IsPricingFor}
use Rattle.ascent_search.specs.declared.bench.Bench.TheInside.{Inside}

abbrev pub state_of : Inside → BenchState
state_of s = record { problem = s.tables; loads = s.pricing.loads.items }

-- all parts are of one instance
pub record AreParts (s : Inside) : Type 0 where
  pub pricing : IsPricingFor s.tables s.pricing
  pub sets : s.tables.size ≤ s.sets.room
