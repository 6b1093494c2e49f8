-- A stretch of a list that is set number by number, and a row of a table that is such a stretch.
use Rattle.std.proofs.Common.{◌≡◌, ◌≢◌, ℕ, ◌+◌, ◌*◌, ◌<◌, ◌≤◌, ◌⊎◌, inl, inr, List, set, slice_index, ⊎_elim, sym, subst, ap, ◌∙◌, arith}
use Rattle.std.proofs.lemmas.Bool.{cases_lt}
use Rattle.std.proofs.lemmas.Nat.{mul-le, mul-add-lt}
use Rattle.unit_duals.specs.Cells.{cell, IsTable}
use Rattle.unit_duals.specs.Raised.{IsStretchSet, IsRowSet}

-- ---- rows

outside : (n s t j : ℕ) → s ≢ t → j < n → (s * n + j < t * n) ⊎ (t * n + n ≤ s * n + j)
outside n s t j other column = ⊎_elim
    (λ (before : s < t). inl (omega (arith, mul-add-lt s n j t before column)))
    (λ (after : t ≤ s). let later : t + 1 ≤ s = ⊎_elim (λ (more : t < s). omega (arith, more)) (λ (least : s ≤ t). absurd (other (omega (arith, after, least)))) (cases_lt t s) in
    inr (omega (arith, mul-le (t + 1) n s n later (omega arith))))
    (cases_lt s t)

-- the next row of a table is set
pub table_row : (n t z : ℕ) (R : ℕ → ℕ → ℕ → Type 0) (value : ℕ → ℕ) (old new : List ℕ) → z ≡ t * n + n
    → ((j : ℕ) → j < n → R t j (value j)) → IsRowSet n t n value old new → IsTable n R old (t * n) → IsTable n R new z
table_row n t z R value old new next is set so_far = record {
  each = λ s j column below. ⊎_elim
      (λ (early : s < t). let place : s * n + j < t * n = omega (arith, mul-add-lt s n j t early column) in
      subst (R s j) (sym (set.others s j (λ e. omega (arith, e, early)) column)) (so_far.each s j column place))
      (λ (late : t ≤ s). let same : t ≡ s = here s j late below in
      subst (λ (r : ℕ). R r j (cell n new r j)) same (subst (R t j) (sym (set.here j column)) (is j column)))
      (cases_lt s t);
}
  where
    here : (s j : ℕ) → t ≤ s → s * n + j < z → t ≡ s
    here s j late below = ⊎_elim (λ (more : t < s). absurd (omega (arith, mul-le (t + 1) n s n (omega (arith, more)) (omega arith), below, next)))
        (λ (least : s ≤ t). omega (arith, late, least)) (cases_lt t s)

-- ---- a stretch from the start of a list

pub from_start : (n : ℕ) (by : ℕ → ℕ) (old new : List ℕ) (j : ℕ) → j < n → IsStretchSet 0 n by old new → slice_index new j ≡ by j
from_start n by old new j below set = (let e : 0 + j ≡ j = omega arith in ap (slice_index new) (sym e) ∙ set.here j below)
