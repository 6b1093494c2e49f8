-- The prices of the commodities of an origin, set one by one, and put into a table of all.
use Rattle.std.proofs.Common.{◌≡◌, ℕ, ◌+◌, ◌-◌, ◌*◌, ◌<◌, ◌≤◌, List, length, set, slice_index, ⊎_elim, ap, sym, subst, ◌∙◌, arith, rules}
use borrow.Rule.Slice.PartMut.{put_mid}
use Rattle.std.proofs.lemmas.Bool.{cases_lt}
use Rattle.std.proofs.lemmas.List.{get_or-set_same, get_or-set_other, places}
use Rattle.std.proofs.lemmas.Nat.{same_from_place}
use Rattle.hub_spec.specs.Problem.{Problem}
use Rattle.unit_duals.specs.Cells.{cell, IsTable}
use Rattle.cut_model.specs.ValueRows.{ValueRows}
use Rattle.value_cuts.specs.Prices.{row_price, ArePricesFrom}

pub no_prices : (p : Problem) (w : ValueRows) (i : ℕ) (prices : List ℕ) → ArePricesFrom p w i prices 0
no_prices p w i prices = record { from = λ j none. absurd (omega (arith, none)) }

pub price_more_from : (p : Problem) (w : ValueRows) (i j v : ℕ) (prices : List ℕ) → j < length prices → v ≡ row_price p w (i, j)
    → ArePricesFrom p w i prices j → ArePricesFrom p w i (set prices j v) (j + 1)
price_more_from p w i j v prices within is so_far = record {
  from = λ m below. ⊎_elim
      (λ early. get_or-set_other prices j m v 0 (λ e. omega (arith, e, early)) ∙ so_far.from m early)
      (λ late. (let same : j ≡ m = omega (arith, below, late) in
      subst (λ x. slice_index (set prices j v) x ≡ row_price p w (i, x)) same (get_or-set_same prices j v 0 within ∙ is)))
      (cases_lt m j);
}

-- ---- a row of a table, written as a whole

before_part : (a k z : ℕ) (xs ys : List ℕ) → z < a → a ≤ length xs → slice_index (put_mid a k xs ys) z ≡ slice_index xs z
before_part a k z xs ys less within = search (rules, places)

in_part : (a k z : ℕ) (xs ys : List ℕ) → z < length ys → a ≤ length xs → slice_index (put_mid a k xs ys) (a + z) ≡ slice_index ys z
in_part a k z xs ys less within = search (rules, places)

pub row_put : (n i at k next : ℕ) (R : ℕ → ℕ → ℕ → Type 0) (table part : List ℕ) → at ≡ i * n → next ≡ i * n + n → at ≤ length table
    → length part ≡ n → IsTable n R table (i * n) → ((j : ℕ) → j < n → R i j (slice_index part j))
    → IsTable n R (put_mid at k table part) next
row_put n i at k next R table part start end within long before here = record {
  each = λ t j column below. ⊎_elim
      (λ early. subst (R t j) (sym (before_part at k (t * n + j) table part (omega (arith, early, start)) within)) (before.each t j column early))
      (λ late. row t j (t * n + j - i * n) column (omega (arith, below, end, late)) (omega (arith, late)))
      (cases_lt (t * n + j) (i * n));
}
  where
    row : (t j z : ℕ) → j < n → z < n → t * n + j ≡ i * n + z → R t j (cell n (put_mid at k table part) t j)
    row t j z column short place =
        let same = same_from_place t j i z n column short place in
        let value : cell n (put_mid at k table part) t j ≡ slice_index part z =
        ap (slice_index (put_mid at k table part)) (let e : t * n + j ≡ at + z = omega (arith, place, start) in e)
        ∙ in_part at k z table part (omega (arith, short, long)) within in
        subst (λ (r : ℕ). R r j (cell n (put_mid at k table part) t j)) (sym same.0)
        (subst (λ (m : ℕ). R i m (cell n (put_mid at k table part) t j)) (sym same.1)
        (subst (R i z) (sym value) (here z short)))
