-- What a scratch for a single thread holds.
use Rattle.std.specs.Prelude.{ℕ, List}
use Rattle.hub_spec.specs.Problem.{Problem}
use Rattle.hub_spec.specs.Cuts.{Prices}
use Rattle.unit_duals.specs.Lengths.{UnitLegs}
use Rattle.pareto_cuts.specs.Separations.{AreTablesOf}
use Rattle.leg_duals.specs.UnitDuals.{AreUnitDuals}

-- the room for nodes, the legs of the tables, the duals of an origin by unit of flow, and the dual that was made last
pub record ScratchParts : Type 0 where
  pub room : ℕ
  pub legs : UnitLegs
  pub prices : List ℕ
  pub values : List ℕ
  pub dual : Prices

-- its tables are those of the hubs and the order, for all destinations
pub record IsReadyFor (p : Problem) (hubs order : List ℕ) (s : ScratchParts) : Type 0 where
  pub tables : AreTablesOf p hubs order 0 p.size s.legs

-- and it has the duals of all commodities from i
pub record HasDualsFrom (p : Problem) (hubs order : List ℕ) (i : ℕ) (s : ScratchParts) : Type 0 where
  pub ready : IsReadyFor p hubs order s
  pub duals : AreUnitDuals p hubs order i 0 p.size s.prices s.values
