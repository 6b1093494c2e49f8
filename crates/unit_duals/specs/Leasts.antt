-- The least of some numbers, and which of them it is.
use Rattle.std.specs.Prelude.{ℕ, zero, suc, ◌<◌, ◌≤◌, min}

-- the least of start and of the first k numbers of f
unfoldable pub least_of : ℕ → (ℕ → ℕ) → ℕ → ℕ
least_of start f zero = start
least_of start f (suc k) = min (least_of start f k) (f k)

-- x is the first of the least among the first y numbers of f
pub record IsFirstLeast (f : ℕ → ℕ) (y x : ℕ) : Type 0 where
  pub within : x < y
  pub least : (z : ℕ) → z < y → f x ≤ f z
  pub first : (z : ℕ) → z < x → f x < f z
