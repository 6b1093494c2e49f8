-- The borrowed dual, and the memory that is reserved for it.
use Rattle.std.specs.Prelude.{ℕ, ◌≤◌, vec_capacity}
use Rattle.hub_spec.specs.Cuts.{Prices}
use Rattle.hub_model.specs.Amounts.{natural}
use Rattle.hub_model.specs.Prices.{natural_values, AreSignedPrices}
use Rattle.value_cuts.specs.declared.duals.DualScratch.TheInside.{Inside}

-- a dual, and for how many values there is room
pub record RoomyDual : Type 0 where
  pub room : ℕ
  pub dual : Prices

-- the price and the values that are held
abbrev pub kept_dual : Inside → Prices
kept_dual s = record { a = natural s.a; u = natural_values s.u.items }

-- there is the room, and what is held is a dual's
pub record IsKeptDual (s : Inside) : Type 0 where
  pub room : s.room ≤ vec_capacity s.u
  pub prices : AreSignedPrices s.a s.u.items
