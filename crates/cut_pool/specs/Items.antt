-- The items of packed values.
use Rattle.std.specs.Prelude.{ℕ}

-- a number, and the place where it stands
pub record PackedItem : Type 0 where
  pub at : ℕ
  pub number : ℕ
