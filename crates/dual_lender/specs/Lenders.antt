-- The duals of stored cuts, and the workspace that makes them.
use Rattle.std.specs.Prelude.{◌≡◌, ℕ, ◌+◌, ◌*◌, List, [], slice_index_or}
use Rattle.hub_spec.specs.Problem.{Problem}
use Rattle.hub_spec.specs.Cuts.{Prices, Cut}
use Rattle.hub_spec.specs.Separation.{minimal_dual}
use Rattle.cut_model.specs.ValueRows.{ValueRows, commodity_dual}
use Rattle.value_cuts.specs.Prices.{ArePricesFrom}
use Rattle.pareto_cuts.specs.Scratches.{ScratchParts, IsReadyFor, HasDualsFrom}
use Rattle.cut_pool.specs.Kept.{Kept, by_values, by_set, cored, given}
use Rattle.cut_pool.specs.Packed.{AreRowsFrom}

-- a dual of price 0 without values
abbrev pub no_dual : Prices
no_dual = record { a = 0; u = [] }

-- the dual that a cut states for the commodity of this number, counted from 0
abbrev pub stated_dual : Cut → ℕ → Prices
stated_dual cut t = slice_index_or cut.duals t no_dual

-- the dual of the commodity in a stored cut
abbrev pub kept_dual : Problem → Kept → ℕ × ℕ → Prices
kept_dual p (by_values rows) c = commodity_dual p rows c
kept_dual p (by_set hubs order) c = minimal_dual p hubs order c
kept_dual p (cored x) c = stated_dual x.cut (c.0 * p.size + c.1)
kept_dual p (given cut) c = stated_dual cut (c.0 * p.size + c.1)

-- ---- duals by values

-- the problem that there is room for, the rows and the prices that were worked out last, an origin's, and the dual that
-- was made last
pub record RoomState : Type 0 where
  pub problem : Problem
  pub rows : List ℕ
  pub prices : List ℕ
  pub dual : Prices

-- the rows and the prices are those of the commodities from i
pub record HasPricesFrom (p : Problem) (w : ValueRows) (i : ℕ) (s : RoomState) : Type 0 where
  pub rows : AreRowsFrom w i s.rows
  pub prices : ArePricesFrom p w i s.prices p.size

-- ---- duals of any stored cut

-- Workspaces for duals by values and for those of a hub set. `stated` is the dual that was made last of a cut stored
-- with its duals. `held` is a dual that is held beside the one made last.
pub record LenderState : Type 0 where
  pub values : RoomState
  pub sets : ScratchParts
  pub stated : Prices
  pub held : Prices

-- the workspace is for this problem
abbrev pub IsLenderFor : Problem → LenderState → Type 0
IsLenderFor p s = s.values.problem ≡ p

-- what has to be worked out of a cut before its duals is: the legs of its hub set
abbrev pub HasLegsOf : Problem → Kept → LenderState → Type 0
HasLegsOf p (by_values rows) s = Unit {0}
HasLegsOf p (by_set hubs order) s = IsReadyFor p hubs order s.sets
HasLegsOf p (cored x) s = Unit {0}
HasLegsOf p (given cut) s = Unit {0}

-- the workspace is for the problem, and ready for the cut
pub record IsReady (p : Problem) (kept : Kept) (s : LenderState) : Type 0 where
  pub lender : IsLenderFor p s
  pub legs : HasLegsOf p kept s

-- what has to be worked out before the duals of the commodities from i is
abbrev pub HasRowOf : Problem → Kept → ℕ → LenderState → Type 0
HasRowOf p (by_values rows) i s = HasPricesFrom p rows i s.values
HasRowOf p (by_set hubs order) i s = HasDualsFrom p hubs order i s.sets
HasRowOf p (cored x) i s = Unit {0}
HasRowOf p (given cut) i s = Unit {0}

-- the workspace is for the problem, and ready for the duals of the cut from i
pub record HasDuals (p : Problem) (kept : Kept) (i : ℕ) (s : LenderState) : Type 0 where
  pub lender : IsLenderFor p s
  pub row : HasRowOf p kept i s

-- the dual that was made last of a cut like this
abbrev pub made_dual : Kept → LenderState → Prices
made_dual (by_values rows) s = s.values.dual
made_dual (by_set hubs order) s = s.sets.dual
made_dual (cored x) s = s.stated
made_dual (given cut) s = s.stated
