-- The least of some numbers.
use Rattle.std.proofs.Common.{◌≡◌, ℕ, zero, suc, ◌+◌, ◌<◌, ◌≤◌, ◌⊎◌, min, inl, inr, refl, subst, ⊎_elim, add-one, arith}
use Rattle.std.proofs.lemmas.Bool.{cases_lt}
use Rattle.unit_duals.specs.Leasts.{least_of}

pub least_of-none : (start : ℕ) (f : ℕ → ℕ) → least_of start f 0 ≡ start
unfolding least_of
least_of-none start f = refl

pub least_of-more : (start : ℕ) (f : ℕ → ℕ) (k : ℕ) → least_of start f (k + 1) ≡ min (least_of start f k) (f k)
unfolding least_of
least_of-more start f k = rw (add-one k) refl

-- it is not above the start
pub least_of_le_start : (start : ℕ) (f : ℕ → ℕ) (k : ℕ) → least_of start f k ≤ start
unfolding least_of
least_of_le_start start f zero = omega arith
least_of_le_start start f (suc k) = omega (arith, least_of_le_start start f k)

-- it is above none of the numbers
pub least_of_le : (start : ℕ) (f : ℕ → ℕ) (k m : ℕ) → m < k → least_of start f k ≤ f m
unfolding least_of
least_of_le start f zero m below = absurd (omega arith)
least_of_le start f (suc k) m below = ⊎_elim
    (λ (early : m < k). omega (arith, least_of_le start f k m early))
    (λ (late : k ≤ m). let same : k ≡ m = omega arith in subst (λ (n : ℕ). min (least_of start f k) (f k) ≤ f n) same (omega arith))
    (cases_lt m k)

-- it is one of them
pub least_of_is : (start : ℕ) (f : ℕ → ℕ) (k : ℕ) → (least_of start f k ≡ start) ⊎ ((m : ℕ) × (m < k) × (least_of start f k ≡ f m))
unfolding least_of
least_of_is start f zero = inl refl
least_of_is start f (suc k) = ⊎_elim
    (λ (less : f k < least_of start f k). inr (k, omega arith, omega (arith, less)))
    (λ (no_less : least_of start f k ≤ f k). ⊎_elim
    (λ e. inl (omega (arith, e, no_less)))
    (λ p. inr (p.0, omega (arith, p.1), omega (arith, p.2, no_less)))
    (least_of_is start f k))
    (cases_lt (f k) (least_of start f k))

-- a loop that keeps the least so far takes the next number
pub least_step : (start : ℕ) (f : ℕ → ℕ) (x least v next : ℕ) → least ≡ least_of start f x → v ≡ f x → next ≡ min least v
    → next ≡ least_of start f (x + 1)
least_step start f x least v next so_far is taken = omega (arith, least_of-more start f x, so_far, is, taken)

-- .. and at its end has all
pub least_all : (start : ℕ) (f : ℕ → ℕ) (x k least : ℕ) → least ≡ least_of start f x → x ≡ k → least ≡ least_of start f k
least_all start f x k least so_far same = subst (λ (n : ℕ). least ≡ least_of start f n) same so_far

-- the same numbers have the same least
pub least_same : (start other : ℕ) (f g : ℕ → ℕ) (k : ℕ) → start ≡ other → ((x : ℕ) → x < k → f x ≡ g x)
    → least_of start f k ≡ least_of other g k
unfolding least_of
least_same start other f g zero same each = same
least_same start other f g (suc k) same each =
    omega (arith, least_same start other f g k same (λ x below. each x (omega (arith, below))), each k (omega arith))
