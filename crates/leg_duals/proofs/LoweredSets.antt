-- Numbers lowered to one set of ways after another.
use Rattle.std.proofs.Common.{◌≡◌, ℕ, ◌+◌, ◌<◌, ◌≤◌, ◌⊎◌, inl, inr, List, slice_index, ⊎_elim, refl, sym, subst, ◌∙◌, arith}
use Rattle.std.proofs.lemmas.Bool.{cases_lt}
use Rattle.leg_duals.specs.Lowered.{IsLowered, AnyOf, AreLowered, IsLoweredOrSpared}

-- the number y is below, or the last
last_or : (y count : ℕ) (P : ℕ → Type 0) → y < count + 1 → (y < count → P y) → P count → P y
last_or y count P less early last = ⊎_elim early (λ (late : count ≤ y). subst P (omega (arith, late, less)) last) (cases_lt y count)

any_wider : (count j v : ℕ) (lengths : ℕ → ℕ → ℕ → Type 0) → AnyOf count lengths j v → AnyOf (count + 1) lengths j v
any_wider count j v lengths is = (is.0, omega (arith, is.1), is.2)

pub lowered_none : (n : ℕ) (spared : ℕ → Type 0) (lengths : ℕ → ℕ → ℕ → Type 0) (items : ℕ → ℕ) → AreLowered n 0 spared lengths items items
lowered_none n spared lengths items = record {
  below = λ j less. omega arith;
  met = λ y less. absurd (omega (arith, less));
  is = λ j less. inl refl;
}

-- lowered to the next set, or left as they are where it is spared
pub lowered_more : (n count : ℕ) (spared : ℕ → Type 0) (lengths : ℕ → ℕ → ℕ → Type 0) (old : ℕ → ℕ) (mid new : List ℕ)
    → AreLowered n count spared lengths old (slice_index mid) → IsLoweredOrSpared n (spared count) (lengths count) mid new
    → AreLowered n (count + 1) spared lengths old (slice_index new)
lowered_more n count spared lengths old mid new so_far next = ⊎_elim
    (λ left. subst (λ (items : List ℕ). AreLowered n (count + 1) spared lengths old (slice_index items)) (sym left.1) (record {
      below = so_far.below;
      met = λ y less. last_or y count (λ z. spared z ⊎ ((j v : ℕ) → j < n → lengths z j v → slice_index mid j ≤ v)) less (λ early. so_far.met y early) (inl left.0);
      is = λ j less. ⊎_elim inl (λ some. inr (any_wider count j (slice_index mid j) lengths some)) (so_far.is j less);
    }))
    (λ lowered. record {
      below = λ j less. omega (arith, so_far.below j less, lowered.below j less);
      met = λ y less. last_or y count (λ z. spared z ⊎ ((j v : ℕ) → j < n → lengths z j v → slice_index new j ≤ v)) less
          (λ early. ⊎_elim inl (λ (met : (j v : ℕ) → j < n → lengths y j v → slice_index mid j ≤ v).
          inr (λ j v low is. omega (arith, lowered.below j low, met j v low is))) (so_far.met y early))
          (inr (λ j v low is. lowered.met j v low is));
      is = λ j less. ⊎_elim
          (λ (same : slice_index new j ≡ slice_index mid j). ⊎_elim (λ (first : slice_index mid j ≡ old j). inl (same ∙ first))
          (λ some. inr (subst (AnyOf (count + 1) lengths j) (sym same) (any_wider count j (slice_index mid j) lengths some))) (so_far.is j less))
          (λ here. inr (count, omega arith, here)) (lowered.is j less);
    }) next

-- where what is spared is met too, they are lowered to all
pub lowered_all : (n count : ℕ) (spared : ℕ → Type 0) (lengths : ℕ → ℕ → ℕ → Type 0) (old new : ℕ → ℕ) → AreLowered n count spared lengths old new
    → ((y j v : ℕ) → y < count → spared y → j < n → lengths y j v → new j ≤ v) → IsLowered n (AnyOf count lengths) old new
lowered_all n count spared lengths old new so_far met = record {
  below = so_far.below;
  met = λ j v low some. ⊎_elim (λ is_spared. met some.0 j v some.1 is_spared low some.2) (λ (direct : (j v : ℕ) → j < n → lengths some.0 j v → new j ≤ v).
      direct j v low some.2) (so_far.met some.0 some.1);
  is = so_far.is;
}

-- ---- with nothing spared

pub any_more : (n count : ℕ) (lengths : ℕ → ℕ → ℕ → Type 0) (old mid new : ℕ → ℕ) → IsLowered n (AnyOf count lengths) old mid
    → IsLowered n (lengths count) mid new → IsLowered n (AnyOf (count + 1) lengths) old new
any_more n count lengths old mid new so_far next = record {
  below = λ j low. omega (arith, so_far.below j low, next.below j low);
  met = λ j v low some. last_or some.0 count (λ z. lengths z j v → new j ≤ v) some.1
      (λ early is. omega (arith, next.below j low, so_far.met j v low (some.0, early, is))) (λ is. next.met j v low is) some.2;
  is = λ j low. ⊎_elim
      (λ (same : new j ≡ mid j). ⊎_elim (λ (first : mid j ≡ old j). inl (same ∙ first))
      (λ some. inr (subst (AnyOf (count + 1) lengths j) (sym same) (any_wider count j (mid j) lengths some))) (so_far.is j low))
      (λ here. inr (count, omega arith, here)) (next.is j low);
}

-- ---- sets that have the same lengths

pub lowered_as : (n : ℕ) (lengths also : ℕ → ℕ → Type 0) (old new : ℕ → ℕ) → ((j v : ℕ) → j < n → lengths j v → also j v)
    → ((j v : ℕ) → j < n → also j v → lengths j v) → IsLowered n lengths old new → IsLowered n also old new
lowered_as n lengths also old new forth back is = record {
  below = is.below;
  met = λ j v low a. is.met j v low (back j v low a);
  is = λ j low. ⊎_elim inl (λ l. inr (forth j (new j) low l)) (is.is j low);
}

-- lengths beside which stands the same
pub or_spared_as : (n : ℕ) (spared : Type 0) (lengths also : ℕ → ℕ → Type 0) (old new : List ℕ) → ((j v : ℕ) → j < n → lengths j v → also j v)
    → ((j v : ℕ) → j < n → also j v → lengths j v) → IsLoweredOrSpared n spared lengths old new → IsLoweredOrSpared n spared also old new
or_spared_as n spared lengths also old new forth back = λ h. ⊎_elim inl
    (λ lowered. inr (lowered_as n lengths also (slice_index old) (slice_index new) forth back lowered)) h
