-- The dual in a buffer, and the room that was allocated for it.
use Rattle.std.specs.Prelude.{ℕ, ◌≤◌, vec_capacity}
use Rattle.hub_spec.specs.Cuts.{Prices}
use Rattle.hub_model.specs.Amounts.{natural}
use Rattle.hub_model.specs.Prices.{natural_values, AreSignedPrices}
use Rattle.pareto_cuts.specs.declared.buffers.DualBuffer.TheInside.{Inside}

-- a dual, and how many nodes there may be
pub record RoomedDual : Type 0 where
  pub room : ℕ
  pub dual : Prices

-- the price and the values that are held
abbrev pub held_dual : Inside → Prices
held_dual s = record { a = natural s.a; u = natural_values s.u.items }

-- there is room for a value of each node, and what is held is a dual's
pub record IsBuffer (s : Inside) : Type 0 where
  pub values_room : s.room ≤ vec_capacity s.by_node
  pub pairs_room : s.room ≤ vec_capacity s.u
  pub prices : AreSignedPrices s.a s.u.items
