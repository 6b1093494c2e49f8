-- The prices of all commodities by their values.
use Rattle.std.specs.Prelude.{◌≡◌, ℕ, ◌*◌, ◌<◌, List, length, slice_index}
use Rattle.hub_spec.specs.Problem.{Problem}
use Rattle.unit_duals.specs.Cells.{IsTable}
use Rattle.cut_model.specs.ValueRows.{ValueRows, row_for, node_value, allowed_price}

-- the price of the commodity by unit of flow, by its row
abbrev pub row_price : Problem → ValueRows → ℕ × ℕ → ℕ
row_price p w c = allowed_price p c (node_value p w.unit (row_for w c))

-- a price for each commodity, row by row, an origin's in each
pub record AreRowPrices (p : Problem) (w : ValueRows) (prices : List ℕ) : Type 0 where
  pub long : length prices ≡ p.size * p.size
  pub each : IsTable p.size (λ i j a. a ≡ row_price p w (i, j)) prices (length prices)

-- the prices of the commodities from i to the first n destinations
pub record ArePricesFrom (p : Problem) (w : ValueRows) (i : ℕ) (prices : List ℕ) (n : ℕ) : Type 0 where
  pub from : (j : ℕ) → j < n → slice_index prices j ≡ row_price p w (i, j)
