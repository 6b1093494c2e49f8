-- One row of a table, set or raised.
use Rattle.std.proofs.Common.{◌≡◌, ℕ, ◌+◌, ◌*◌, ◌<◌, ◌≤◌, List, length, set, slice_index, inl, inr, subst, ap, ◌∙◌, ⊎_elim, arith}
use Rattle.std.proofs.lemmas.Bool.{cases_lt}
use Rattle.std.proofs.lemmas.List.{get_or-set_same, get_or-set_other}
use Rattle.std.proofs.lemmas.List.Elements.{All-get_or}
use Rattle.std.proofs.lemmas.Nat.{same_from_place}
use Rattle.unit_duals.specs.Cells.{cell}
use Rattle.unit_duals.specs.Nearness.{HoldsNear}
use Rattle.unit_duals.specs.Raised.{IsRaised, IsRowRaised, IsRowSet}

-- the next cell of the row is set
pub row_set_more : (n t upto v : ℕ) (value : ℕ → ℕ) (old new : List ℕ) → upto < n → t * n + upto < length new → v ≡ value upto
    → IsRowSet n t upto value old new → IsRowSet n t (upto + 1) value old (set new (t * n + upto) v)
row_set_more n t upto v value old new column within is so_far = record {
  here = λ j below. ⊎_elim
      (λ (early : j < upto). get_or-set_other new (t * n + upto) (t * n + j) v 0 (λ e. omega (arith, e, early)) ∙ so_far.here j early)
      (λ (late : upto ≤ j). let same : upto ≡ j = omega (arith, below, late) in
      subst (λ (x : ℕ). cell n (set new (t * n + upto) v) t x ≡ value x) same (get_or-set_same new (t * n + upto) v 0 within ∙ is))
      (cases_lt j upto);
  others = λ s j other in_row. get_or-set_other new (t * n + upto) (s * n + j) v 0
      (λ e. other (same_from_place s j t upto n in_row column e).0) ∙ so_far.others s j other in_row;
}

-- raised along a list that has at least all that are not spared
pub row_raised : (n t at : ℕ) (nodes : List ℕ) (asked by : ℕ → ℕ) (far spared : ℕ → Type 0) (old new : List ℕ) → at ≡ t * n
    → ((j : ℕ) → j < n → by j ≡ asked j) → ((j : ℕ) → far j → spared j) → HoldsNear n far nodes
    → IsRaised at nodes by (length nodes) old new → IsRowRaised n t asked spared old new
row_raised n t at nodes asked by far spared old new start same sparing near raised = record {
  others = λ s j other column. ⊎_elim (λ e. e)
      (λ p. absurd (other (same_from_place s j t (slice_index nodes p.0) n column (node p.0 p.1) (p.2 ∙ placed (slice_index nodes p.0))).0))
      (raised.tight (s * n + j));
  grown = λ j column. raised.grown (t * n + j);
  met = λ j column. ⊎_elim
      (λ (less : cell n new t j < asked j). inr (sparing j (near.left_out j column (λ y below e. unmet j y column below e less))))
      (λ (met : asked j ≤ cell n new t j). inl met) (cases_lt (cell n new t j) (asked j));
  tight = λ j column. ⊎_elim inl
      (λ p. inr (p.3 ∙ here j p.0 column p.1 p.2)) (raised.tight (t * n + j));
}
  where
    node : (y : ℕ) → y < length nodes → slice_index nodes y < n
    node y below = All-get_or (λ j. j < n) nodes y 0 below near.are_nodes

    placed : (j : ℕ) → at + j ≡ t * n + j
    placed j = ap (λ (x : ℕ). x + j) start

    unmet : (j y : ℕ) → j < n → y < length nodes → slice_index nodes y ≡ j → cell n new t j < asked j → ⊥
    unmet j y column below e less =
        let m = raised.met y below in
        let met : by j ≤ slice_index new (at + j) = subst (λ (x : ℕ). by x ≤ slice_index new (at + x)) e m in
        let place = ap (λ (x : ℕ). slice_index new x) (placed j) in
        let value = same j column in
        omega (arith, met, place, value, less)

    here : (j y : ℕ) → j < n → y < length nodes → t * n + j ≡ at + slice_index nodes y → by (slice_index nodes y) ≡ asked j
    here j y column below e =
        let is : slice_index nodes y ≡ j = omega (arith, e, start) in
        ap by is ∙ same j column
