-- The parts of a copy of a dual.
use Rattle.std.specs.Prelude.{◌≤◌, vec_capacity}
use Rattle.hub_spec.specs.Cuts.{Prices}
use Rattle.hub_model.specs.Amounts.{natural}
use Rattle.hub_model.specs.Prices.{natural_values, AreSignedPrices}
use Rattle.dual_lender.specs.declared.held_duals.HeldDual.TheInside.{Inside}

-- its price and its values
abbrev pub copied_dual : Inside → Prices
copied_dual s = record { a = natural s.a; u = natural_values s.u.items }

-- there is room for the values, and what stands in it is a dual's
pub record IsCopy (s : Inside) : Type 0 where
  pub room : s.room ≤ vec_capacity s.u
  pub prices : AreSignedPrices s.a s.u.items
