-- What the rows of a table say of the variables, row by row.
use Rattle.std.proofs.Common.{◌≡◌, ◌≢◌, ℕ, ◌+◌, ◌<◌, ◌≤◌, List, length, set, get_or, pos, refl, sym, ap, subst, ◌∙◌, ⊎_elim, arith}
use Rattle.std.proofs.lemmas.Bool.{cases_eq}
use Rattle.std.proofs.lemmas.List.{length-set, get_or-set_same, get_or-set_other}
use Rattle.frac_rows.specs.Rows.{Table, number, row_at, right_side}
use Rattle.frac_rows.specs.Theorems.{IsBasic}
use Rattle.frac_rows.proofs.LeavingRows.{once_basic}
use Rattle.core_cuts.proofs.UnitBalances.{basic_or_not}
use Rattle.core_cuts.specs.BasicRatios.{IsRatio, AreRatios, AreNoted}
use Rattle.core_cuts.specs.declared.ratios.Ratio.{Ratio}

abbrev none : Ratio
none = record { right = 0; over = 1 }

-- a row that is one of a variable
pub noted_more : (t : Table) (n : ℕ) (rs : List Ratio) (r : Ratio) → IsBasic t → n < length t.basis → AreNoted t n rs → get_or t.basis n 0 < length rs
    → 1 ≤ r.over → number (row_at t n) (get_or t.basis n 0) ≡ pos r.over → right_side (row_at t n) ≡ pos r.right
    → AreNoted t (n + 1) (set rs (get_or t.basis n 0) r)
noted_more t n rs r basic within noted low some over right =
    let b = get_or t.basis n 0 in
    let new = set rs b r in
    let long : length new ≡ length rs = length-set rs b r in
    let once = once_basic t basic in
    let apart : (i : ℕ) → i < n + 1 → i ≢ n → get_or t.basis i 0 ≢ b =
    (λ i l other e. other (once i n (omega (arith, l, other, within)) within e)) in
    record {
      some =
          λ i d l less. ⊎_elim
          (λ (here : i ≡ n).
          subst (λ (x : Ratio). 1 ≤ x.over) (sym (ap (λ j. get_or new (get_or t.basis j 0) d) here ∙ get_or-set_same rs b r d low)) some)
          (λ (other : i ≢ n).
          subst (λ (x : Ratio). 1 ≤ x.over) (sym (get_or-set_other rs b (get_or t.basis i 0) r d (apart i l other)))
          (noted.some i d (omega (arith, l, other)) (omega (arith, less, long))))
          (cases_eq i n);
      over =
          λ i d l less. ⊎_elim
          (λ (here : i ≡ n).
          ap (λ j. number (row_at t j) (get_or t.basis j 0)) here ∙ over
          ∙ ap (λ (x : Ratio). pos x.over) (sym (ap (λ j. get_or new (get_or t.basis j 0) d) here ∙ get_or-set_same rs b r d low)))
          (λ (other : i ≢ n).
          noted.over i d (omega (arith, l, other)) (omega (arith, less, long))
          ∙ ap (λ (x : Ratio). pos x.over) (sym (get_or-set_other rs b (get_or t.basis i 0) r d (apart i l other))))
          (cases_eq i n);
      right =
          λ i d l less. ⊎_elim
          (λ (here : i ≡ n).
          ap (λ j. right_side (row_at t j)) here ∙ right
          ∙ ap (λ (x : Ratio). pos x.right) (sym (ap (λ j. get_or new (get_or t.basis j 0) d) here ∙ get_or-set_same rs b r d low)))
          (λ (other : i ≢ n).
          noted.right i d (omega (arith, l, other)) (omega (arith, less, long))
          ∙ ap (λ (x : Ratio). pos x.right) (sym (get_or-set_other rs b (get_or t.basis i 0) r d (apart i l other))))
          (cases_eq i n);
      others =
          λ j d less away.
          get_or-set_other rs b j r d (λ e. away n (omega arith) (sym e))
          ∙ noted.others j d (omega (arith, less, long)) (λ i l e. away i (omega (arith, l)) e);
    }

-- no row has been seen
pub noted_none : (t : Table) (rs : List Ratio) → ((j : ℕ) (d : Ratio) → j < length rs → get_or rs j d ≡ none) → AreNoted t 0 rs
noted_none t rs each = record {
  some = λ i d l low. absurd (omega (arith, l));
  over = λ i d l low. absurd (omega (arith, l));
  right = λ i d l low. absurd (omega (arith, l));
  others = λ j d low away. each j d low;
}

-- all rows have been seen
pub noted_all : (t : Table) (n : ℕ) (rs : List Ratio) → length rs ≡ n → AreNoted t (length t.basis) rs → AreRatios t n rs
noted_all t n rs long noted = record {
  one_each = long;
  each = λ j d low.
      let within : j < length rs = omega (arith, low, long) in
      ⊎_elim
      (λ (found : (i : ℕ) × (i < length t.basis) × (get_or t.basis i 0 ≡ j)).
      let at = found.2 in
      subst (λ k. IsRatio t k (get_or rs k d)) at
      (let column : get_or t.basis found.0 0 < length rs = omega (arith, at, within) in
      record {
        some = noted.some found.0 d found.1 column;
        basic = λ i l e. (
          ap (λ k. number (row_at t i) k) (sym e) ∙ noted.over i d l (omega (arith, e, column)) ∙ ap (λ k. pos (get_or rs k d).over) e,
          noted.right i d l (omega (arith, e, column)) ∙ ap (λ k. pos (get_or rs k d).right) e,
        );
        others = λ away. absurd (away found.0 found.1 refl);
      }))
      (λ (away : (i : ℕ) → i < length t.basis → get_or t.basis i 0 ≡ j → ⊥).
      let is = noted.others j d within away in
      record {
        some = subst (λ (x : Ratio). 1 ≤ x.over) (sym is) (omega arith);
        basic = λ i l e. absurd (away i l e);
        others = λ _. ap (λ (x : Ratio). x.right) is;
      })
      (basic_or_not t.basis j (length t.basis));
}
