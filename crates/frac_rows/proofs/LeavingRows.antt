-- The row that leaves: of the rows that may, it has the least ratio of right side over number, and then the least basic column.
use Rattle.std.proofs.Common.{◌≡◌, ℕ, zero, suc, ◌<◌, ◌≤◌, true, false, not, ◌&&◌, nat_lt, length, get_or, ℤ, pos, ◌*ℤ◌, ◌<ℤ◌, ◌≤ℤ◌, Option, Some, None, refl, sym, ap, subst, ◌∙◌, ⊎_elim, arith}
use Rattle.std.specs.Int.{is_positive}
use Rattle.std.proofs.Math.IntN.{*ℤ_comm}
use Rattle.std.proofs.lemmas.Int.{ints, by_lt_z}
use Rattle.std.proofs.lemmas.Bool.{cases_Bool, cases_eq, cond-true, cond-false, and_parts, and_cases, or_cases, or_parts, not-true, not-false, ltb-true, ltb-false}
use Rattle.frac_rows.specs.Rows.{Table, number, right_side, row_at, leaves_before, sooner, leaving_of, leaving}
use Rattle.frac_rows.specs.Theorems.{MayLeave, IsLeastRatio, LeavingIsLeast, IsBasic, LeastLeaves}
use Rattle.frac_rows.proofs.Integers.{times-le, times-lt, *ℤ_left_comm}
use Rattle.frac_rows.proofs.Ratios.{is_less_ratio}
use Rattle.frac_rows.proofs.Solutions.{positive_size}
use Rattle.frac_rows.proofs.Places.{IsOnce}

-- ---- ratios

exchanged : (a x b : ℤ) → a *ℤ (x *ℤ b) ≡ b *ℤ (x *ℤ a)
exchanged a x b = *ℤ_left_comm a x b ∙ ap (λ y. x *ℤ y) (*ℤ_comm a b) ∙ *ℤ_left_comm x b a

pub le_cancel : (k : ℕ) (x y : ℤ) → 1 ≤ k → (pos k *ℤ x) ≤ℤ (pos k *ℤ y) → x ≤ℤ y
le_cancel k x y low h = by_lt_z {P = x ≤ℤ y} y x (λ less. let more = times-lt k y x low less in absurd (omega (arith, ints))) (λ le. le)

-- ratios of a and b by those of b and c
ratio_trans : (ra rb rc na nb nc : ℤ) → pos 0 <ℤ na → pos 0 <ℤ nb → pos 0 <ℤ nc
    → (ra *ℤ nb) ≤ℤ (rb *ℤ na) → (rb *ℤ nc) ≤ℤ (rc *ℤ nb) → (ra *ℤ nc) ≤ℤ (rc *ℤ na)
ratio_trans ra rb rc na nb nc pa pb pc first second =
    let a = positive_size na pa in
    let b = positive_size nb pb in
    let c = positive_size nc pc in
    let one : (nc *ℤ (ra *ℤ nb)) ≤ℤ (nc *ℤ (rb *ℤ na)) = rw c.2 (times-le c.0 (ra *ℤ nb) (rb *ℤ na) first) in
    let two : (na *ℤ (rb *ℤ nc)) ≤ℤ (na *ℤ (rc *ℤ nb)) = rw a.2 (times-le a.0 (rb *ℤ nc) (rc *ℤ nb) second) in
    let whole : (nb *ℤ (ra *ℤ nc)) ≤ℤ (nb *ℤ (rc *ℤ na)) =
    omega (arith, ints, one, two, exchanged nc ra nb, exchanged nc rb na, exchanged na rc nb) in
    le_cancel b.0 (ra *ℤ nc) (rc *ℤ na) b.1 (rw b.2 at whole)

-- the row r may leave, and among the first n rows none has a lesser ratio, nor the same and a lesser basic column
pub record IsFirst (t : Table) (c n r : ℕ) : Type 0 where
  pub within : r < n
  pub above : pos 0 <ℤ number (row_at t r) c
  pub least : (i : ℕ) → i < n → pos 0 <ℤ number (row_at t i) c
      → (right_side (row_at t r) *ℤ number (row_at t i) c) ≤ℤ (right_side (row_at t i) *ℤ number (row_at t r) c)
  pub tie : (i : ℕ) → i < n → pos 0 <ℤ number (row_at t i) c
      → right_side (row_at t r) *ℤ number (row_at t i) c ≡ right_side (row_at t i) *ℤ number (row_at t r) c
      → get_or t.basis r 0 ≤ get_or t.basis i 0

positive_from : (z : ℤ) → is_positive z ≡ true → pos 0 <ℤ z
positive_from z e = omega (arith, ints, e)

not_positive : {G : Type 0} (z : ℤ) → is_positive z ≡ false → pos 0 <ℤ z → G
not_positive z e h = absurd (omega (arith, ints, e, h))

-- a row that leaves before another has no greater ratio, and one that does not has no lesser
ratio_before : (t : Table) (c i j : ℕ) → leaves_before t c i j ≡ true
    → (right_side (row_at t i) *ℤ number (row_at t j) c) ≤ℤ (right_side (row_at t j) *ℤ number (row_at t i) c)
unfolding leaves_before
ratio_before t c i j e =
    let less = is_less_ratio c (row_at t i) (row_at t j) in
    let more = is_less_ratio c (row_at t j) (row_at t i) in
    ⊎_elim
    (λ h. omega (arith, ints, h))
    (λ h.
    let tie = not-true more (and_parts (not more) (nat_lt (get_or t.basis i 0) (get_or t.basis j 0)) h).0 in
    omega (arith, ints, tie))
    (or_cases less (not more && nat_lt (get_or t.basis i 0) (get_or t.basis j 0)) e)

ratio_after : (t : Table) (c i j : ℕ) → leaves_before t c i j ≡ false
    → (right_side (row_at t j) *ℤ number (row_at t i) c) ≤ℤ (right_side (row_at t i) *ℤ number (row_at t j) c)
unfolding leaves_before
ratio_after t c i j e =
    let less = is_less_ratio c (row_at t i) (row_at t j) in
    let more = is_less_ratio c (row_at t j) (row_at t i) in
    let parts = or_parts less (not more && nat_lt (get_or t.basis i 0) (get_or t.basis j 0)) e in
    let none : less ≡ false = parts.0 in
    omega (arith, ints, none)

-- where the ratio of the other is no less, a row that leaves before it has the lesser basic column, and one that does not
-- has no lesser where the ratios are the same
tie_before : (t : Table) (c i j : ℕ) → leaves_before t c i j ≡ true
    → (right_side (row_at t j) *ℤ number (row_at t i) c) ≤ℤ (right_side (row_at t i) *ℤ number (row_at t j) c)
    → get_or t.basis i 0 < get_or t.basis j 0
unfolding leaves_before
tie_before t c i j e no_less =
    let less = is_less_ratio c (row_at t i) (row_at t j) in
    let more = is_less_ratio c (row_at t j) (row_at t i) in
    let lower = nat_lt (get_or t.basis i 0) (get_or t.basis j 0) in
    ⊎_elim
    (λ h. absurd (omega (arith, ints, h, no_less)))
    (λ h. ltb-true (get_or t.basis i 0) (get_or t.basis j 0) (and_parts (not more) lower h).1)
    (or_cases less (not more && lower) e)

tie_after : (t : Table) (c i j : ℕ) → leaves_before t c i j ≡ false
    → right_side (row_at t j) *ℤ number (row_at t i) c ≡ right_side (row_at t i) *ℤ number (row_at t j) c
    → get_or t.basis j 0 ≤ get_or t.basis i 0
unfolding leaves_before
tie_after t c i j e same =
    let less = is_less_ratio c (row_at t i) (row_at t j) in
    let more = is_less_ratio c (row_at t j) (row_at t i) in
    let lower = nat_lt (get_or t.basis i 0) (get_or t.basis j 0) in
    let parts = or_parts less (not more && lower) e in
    ⊎_elim
    (λ h. let above = not-false more h in absurd (omega (arith, ints, above, same)))
    (λ h. ltb-false (get_or t.basis i 0) (get_or t.basis j 0) h)
    (and_cases (not more) lower parts.1)

-- where none of the first rows may leave, and where one leaves
abbrev Chosen : Table → ℕ → ℕ → Option ℕ → Type 0
Chosen t c n None = (i : ℕ) → i < n → is_positive (number (row_at t i) c) ≡ false
Chosen t c n (Some r) = IsFirst t c n r

chosen_first : (t : Table) (c n : ℕ) → Chosen t c n None → is_positive (number (row_at t n) c) ≡ true → IsFirst t c (suc n) n
chosen_first t c n none above = record {
  within = omega arith;
  above = positive_from (number (row_at t n) c) above;
  least =
      λ i l h.
      ⊎_elim
      (λ e. subst (λ k. (right_side (row_at t n) *ℤ number (row_at t k) c) ≤ℤ (right_side (row_at t k) *ℤ number (row_at t n) c)) (sym e) (omega (arith, ints)))
      (λ n'. not_positive (number (row_at t i) c) (none i (omega arith)) h)
      (cases_eq i n);
  tie =
      λ i l h same.
      ⊎_elim
      (λ e. subst (λ k. get_or t.basis n 0 ≤ get_or t.basis k 0) (sym e) (omega arith))
      (λ n'. not_positive (number (row_at t i) c) (none i (omega arith)) h)
      (cases_eq i n);
}

-- the row n leaves before the row j, and has the ratio of a row i
tie_taken : (t : Table) (c n j i : ℕ) → IsFirst t c n j → pos 0 <ℤ number (row_at t n) c → pos 0 <ℤ number (row_at t i) c
    → leaves_before t c n j ≡ true → i < n
    → right_side (row_at t n) *ℤ number (row_at t i) c ≡ right_side (row_at t i) *ℤ number (row_at t n) c
    → get_or t.basis n 0 ≤ get_or t.basis i 0
tie_taken t c n j i best here above before low same =
    let rn = right_side (row_at t n) in
    let rj = right_side (row_at t j) in
    let ri = right_side (row_at t i) in
    let nn = number (row_at t n) c in
    let nj = number (row_at t j) c in
    let ni = number (row_at t i) c in
    let first : (rj *ℤ ni) ≤ℤ (ri *ℤ nj) = best.least i low above in
    let back : (ri *ℤ nn) ≤ℤ (rn *ℤ ni) = omega (arith, ints, same) in
    let from_j : (rj *ℤ nn) ≤ℤ (rn *ℤ nj) = ratio_trans rj ri rn nj ni nn best.above above here first back in
    let to_j : (ri *ℤ nj) ≤ℤ (rj *ℤ ni) = ratio_trans ri rn rj ni nn nj above here best.above back (ratio_before t c n j before) in
    let lower = tie_before t c n j before from_j in
    let rest = best.tie i low above (omega (arith, ints, first, to_j)) in
    omega (arith, lower, rest)

chosen_taken : (t : Table) (c n j : ℕ) → IsFirst t c n j → is_positive (number (row_at t n) c) ≡ true → leaves_before t c n j ≡ true → IsFirst t c (suc n) n
chosen_taken t c n j best above before =
    let here = positive_from (number (row_at t n) c) above in
    record {
      within = omega arith;
      above = here;
      least =
          λ i l h.
          ⊎_elim
          (λ e. subst (λ k. (right_side (row_at t n) *ℤ number (row_at t k) c) ≤ℤ (right_side (row_at t k) *ℤ number (row_at t n) c)) (sym e) (omega (arith, ints)))
          (λ n'.
          ratio_trans (right_side (row_at t n)) (right_side (row_at t j)) (right_side (row_at t i)) (number (row_at t n) c) (number (row_at t j) c)
          (number (row_at t i) c) here best.above h (ratio_before t c n j before) (best.least i (omega arith) h))
          (cases_eq i n);
      tie =
          λ i l h same.
          ⊎_elim
          (λ e. subst (λ k. get_or t.basis n 0 ≤ get_or t.basis k 0) (sym e) (omega arith))
          (λ n'. tie_taken t c n j i best here h before (omega arith) same)
          (cases_eq i n);
    }

-- the row n does not leave before the row j, and has its ratio
tie_kept : (t : Table) (c n j : ℕ) → leaves_before t c n j ≡ false → (i : ℕ) → i ≡ n
    → right_side (row_at t j) *ℤ number (row_at t i) c ≡ right_side (row_at t i) *ℤ number (row_at t j) c
    → get_or t.basis j 0 ≤ get_or t.basis i 0
tie_kept t c n j after i e same =
    subst (λ k. get_or t.basis j 0 ≤ get_or t.basis k 0) (sym e)
    (tie_after t c n j after
    (subst (λ k. right_side (row_at t j) *ℤ number (row_at t k) c ≡ right_side (row_at t k) *ℤ number (row_at t j) c) e same))

chosen_kept : (t : Table) (c n j : ℕ) → IsFirst t c n j → (pos 0 <ℤ number (row_at t n) c → leaves_before t c n j ≡ false) → IsFirst t c (suc n) j
chosen_kept t c n j best after = record {
  within = omega (arith, best.within);
  above = best.above;
  least =
      λ i l h.
      ⊎_elim
      (λ e.
      subst (λ k. (right_side (row_at t j) *ℤ number (row_at t k) c) ≤ℤ (right_side (row_at t k) *ℤ number (row_at t j) c)) (sym e)
      (ratio_after t c n j (after (subst (λ k. pos 0 <ℤ number (row_at t k) c) e h))))
      (λ n'. best.least i (omega arith) h)
      (cases_eq i n);
  tie =
      λ i l h same.
      ⊎_elim
      (λ e. tie_kept t c n j (after (subst (λ k. pos 0 <ℤ number (row_at t k) c) e h)) i e same)
      (λ n'. best.tie i (omega arith) h same)
      (cases_eq i n);
}

chosen_more : (t : Table) (c n : ℕ) (best : Option ℕ) → Chosen t c n best → Chosen t c (suc n) (sooner t c n best)
chosen_more t c n None none =
    ⊎_elim
    (λ above. subst (Chosen t c (suc n)) (sym (cond-true (is_positive (number (row_at t n) c)) (Some n) None above)) (chosen_first t c n none above))
    (λ fails.
    subst (Chosen t c (suc n)) (sym (cond-false (is_positive (number (row_at t n) c)) (Some n) None fails))
    (λ i l. ⊎_elim (λ e. subst (λ k. is_positive (number (row_at t k) c) ≡ false) (sym e) fails) (λ n'. none i (omega arith)) (cases_eq i n)))
    (cases_Bool (is_positive (number (row_at t n) c)))
chosen_more t c n (Some j) best =
    let above = is_positive (number (row_at t n) c) in
    let before = leaves_before t c n j in
    ⊎_elim
    (λ both.
    let parts = and_parts above before both in
    subst (Chosen t c (suc n)) (sym (cond-true (above && before) (Some n) (Some j) both)) (chosen_taken t c n j best parts.0 parts.1))
    (λ fails.
    subst (Chosen t c (suc n)) (sym (cond-false (above && before) (Some n) (Some j) fails))
    (chosen_kept t c n j best
    (λ h. ⊎_elim (λ e. not_positive (number (row_at t n) c) e h) (λ e. e) (and_cases above before fails))))
    (cases_Bool (above && before))

chosen : (t : Table) (c n : ℕ) → Chosen t c n (leaving_of t c n)
chosen t c zero = λ i l. absurd (omega arith)
chosen t c (suc n) = chosen_more t c n (leaving_of t c n) (chosen t c n)

pub leaving_first : (t : Table) (c r : ℕ) → leaving t c ≡ Some r → IsFirst t c (length t.basis) r
unfolding leaving
leaving_first t c r e = subst (Chosen t c (length t.basis)) e (chosen t c (length t.basis))

-- ---- of all constraint rows

least_from : (t : Table) (c r : ℕ) → IsFirst t c (length t.basis) r → IsLeastRatio t c r
least_from t c r first = record {
  may_leave = record { constraint = first.within; above = first.above };
  ratio = λ i may. first.least i may.constraint may.above;
  tie = λ i may same. first.tie i may.constraint may.above same;
}

none_may : (t : Table) (c : ℕ) → leaving t c ≡ None → (i : ℕ) → MayLeave t c i → ⊥
unfolding leaving
none_may t c e i may =
    let none : (j : ℕ) → j < length t.basis → is_positive (number (row_at t j) c) ≡ false =
    subst (Chosen t c (length t.basis)) e (chosen t c (length t.basis)) in
    not_positive (number (row_at t i) c) (none i may.constraint) may.above

none_leaves : (t : Table) (c : ℕ) (o : Option ℕ) → leaving t c ≡ o → ((i : ℕ) → MayLeave t c i → ⊥) → leaving t c ≡ None
none_leaves t c None e none = e
none_leaves t c (Some r) e none = absurd (none r (least_from t c r (leaving_first t c r e)).may_leave)

pub leaving_is_least : LeavingIsLeast
leaving_is_least t c =
    ((λ r e. least_from t c r (leaving_first t c r e)), ((λ e. none_may t c e), (λ none. none_leaves t c (leaving t c) refl none)))

-- ---- where each row has its basic column to itself

pub once_basic : (t : Table) → IsBasic t → IsOnce t.basis
once_basic t basic r s low_r low_s e =
    ⊎_elim (λ same. sym same)
    (λ other.
    let none = basic.others r s low_r (omega arith) other in
    let own = basic.own s low_s in
    let more : pos 0 <ℤ number (row_at t s) (get_or t.basis r 0) = subst (λ c. pos 0 <ℤ number (row_at t s) c) (sym e) own in
    absurd (omega (arith, ints, none, more)))
    (cases_eq s r)

least_by : (t : Table) (c r : ℕ) (o : Option ℕ) → IsBasic t → IsLeastRatio t c r → leaving t c ≡ o → leaving t c ≡ Some r
least_by t c r None basic least e = absurd (none_may t c e r least.may_leave)
least_by t c r (Some s) basic least e =
    let first = least_from t c s (leaving_first t c s e) in
    let on = first.ratio r least.may_leave in
    let back = least.ratio s first.may_leave in
    let low = first.tie r least.may_leave (omega (arith, ints, on, back)) in
    let high = least.tie s first.may_leave (omega (arith, ints, on, back)) in
    let same : get_or t.basis s 0 ≡ get_or t.basis r 0 = omega (arith, low, high) in
    e ∙ ap Some (once_basic t basic s r first.may_leave.constraint least.may_leave.constraint same)

pub least_leaves : LeastLeaves
least_leaves t c r basic least = least_by t c r (leaving t c) basic least refl
