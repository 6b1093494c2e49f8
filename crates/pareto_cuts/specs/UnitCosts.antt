-- The duals of one origin's commodities by unit of flow: the flow times them are the minimal duals.
use Rattle.std.specs.Prelude.{◌≡◌, ℕ, ◌+◌, List, slice_index}
use Rattle.hub_spec.specs.Cuts.{value_at}
use Rattle.hub_spec.specs.Separation.{minimal_dual}
use Rattle.leg_duals.specs.UnitDuals.{AreUnitDuals}
use Rattle.pareto_cuts.specs.Separations.{SetSeparation}

-- prices and values by unit of flow are of the separation's hubs, order and destinations
abbrev pub AreDualsFrom : SetSeparation → ℕ → List ℕ → List ℕ → Type 0
AreDualsFrom s i prices values = AreUnitDuals s.problem s.hubs s.order i s.start s.legs.size prices values

-- the values by node of the minimal dual of the commodity from i to the destination number j
pub record AreValuesOf (s : SetSeparation) (i j : ℕ) (values : List ℕ) : Type 0 where
  pub each : (k : ℕ) → slice_index values k ≡ value_at (minimal_dual s.problem s.hubs s.order (i, s.start + j)).u k
