-- The solutions of a table and of the table after a pivot are the same.
use Rattle.std.proofs.Common.{◌≡◌, ℕ, ◌+◌, ◌*◌, ◌<◌, ◌≤◌, List, [], ◌∷◌, ◌++◌, length, ℤ, pos, negsuc, ◌+ℤ◌, ◌-ℤ◌, ◌*ℤ◌, neg_ℤ, ◌<ℤ◌, unsigned_abs, refl, sym, ap, ap₂, ◌∙◌, ⊎_elim, arith}
use Rattle.std.proofs.Math.IntN.{*ℤ-zero, *ℤ_comm}
use Rattle.std.proofs.Math.Nat.{eq_of_mul-eq-mul_left, mul-zero}
use Rattle.std.proofs.lemmas.Int.{ints, unsigned_abs-mul}
use Rattle.std.proofs.lemmas.Bool.{cases_eq}
use Rattle.std.proofs.lemmas.List.{length-set}
use Rattle.std.proofs.lemmas.List.Elements.{All-get_or, All-from_get_or}
use Rattle.frac_rows.specs.Divisors.{reduced}
use Rattle.frac_rows.specs.Rows.{Table, number, right_side, row_at, objective, eliminated, pivoted, after_pivot, IsTable}
use Rattle.frac_rows.specs.Stored.{dot}
use Rattle.frac_rows.specs.Theorems.{Solves, IsSolution, IsPlace, SameSolutions}
use Rattle.frac_rows.proofs.Integers.{*ℤ-neg_ℤ}
use Rattle.frac_rows.proofs.Quotients.{scale, scale_low, times-reduced, length-reduced}
use Rattle.frac_rows.proofs.Linear.{dot-times, dot-eliminated, length-eliminated}
use Rattle.frac_rows.proofs.Pivots.{length_after, base_after, other_after}

-- ---- a row as a form that is 0

dot_push : (row values : List ℤ) (z : ℤ) → length row ≡ length values + 1
    → dot row (values ++ z ∷ []) ≡ dot row values +ℤ number row (length values) *ℤ z
dot_push [] values z long = absurd (omega arith)
dot_push (x ∷ []) [] z long = omega (arith, ints)
dot_push (x ∷ y ∷ row) [] z long = absurd (omega arith)
dot_push (x ∷ row) (y ∷ values) z long = omega (arith, ints, dot_push row values z (omega arith))

-- the values and, behind them, the denominator with a minus
abbrev form : List ℤ → ℕ → List ℤ
form values denom = values ++ neg_ℤ (pos denom) ∷ []

form_is : (row values : List ℤ) (denom : ℕ) → length row ≡ length values + 1
    → dot row (form values denom) ≡ dot row values -ℤ pos denom *ℤ right_side row
form_is row values denom long =
    let last : number row (length values) ≡ right_side row = ap (number row) (omega arith) in
    dot_push row values (neg_ℤ (pos denom)) long ∙ ap (λ x. dot row values +ℤ x *ℤ neg_ℤ (pos denom)) last
    ∙ ap (λ z. dot row values +ℤ z) (*ℤ-neg_ℤ (right_side row) (pos denom) ∙ ap neg_ℤ (*ℤ_comm (right_side row) (pos denom)))

vanishes : (row values : List ℤ) (denom : ℕ) → length row ≡ length values + 1 → Solves values denom row → dot row (form values denom) ≡ pos 0
vanishes row values denom long solves = form_is row values denom long ∙ omega (arith, ints, solves)

solved : (row values : List ℤ) (denom : ℕ) → length row ≡ length values + 1 → dot row (form values denom) ≡ pos 0 → Solves values denom row
solved row values denom long none = omega (arith, ints, form_is row values denom long, none)

-- ---- factors that are not 0

none_from_product : (g : ℕ) (x : ℤ) → 1 ≤ g → pos g *ℤ x ≡ pos 0 → x ≡ pos 0
none_from_product g x low e =
    let sizes : g * unsigned_abs x ≡ 0 = sym (unsigned_abs-mul (pos g) x) ∙ ap unsigned_abs e in
    let none : unsigned_abs x ≡ 0 = eq_of_mul-eq-mul_left g low (unsigned_abs x) 0 (sizes ∙ sym (mul-zero g)) in
    omega (arith, ints, none)

pub positive_size : (p : ℤ) → pos 0 <ℤ p → (k : ℕ) × (1 ≤ k) × (p ≡ pos k)
positive_size (pos k) h = (k, omega (arith, ints), refl)
positive_size (negsuc k) h = absurd (omega (arith, ints))

dot_of_reduced : (z y : List ℤ) → dot z y ≡ pos (scale z) *ℤ dot (reduced z) y
dot_of_reduced z y = ap (λ r. dot r y) (sym (times-reduced z)) ∙ dot-times (pos (scale z)) (reduced z) y

-- ---- one row

vanishes_after : (base row y : List ℤ) (c : ℕ) → length row ≡ length base → dot base y ≡ pos 0 → dot row y ≡ pos 0 → dot (pivoted base c row) y ≡ pos 0
unfolding pivoted
vanishes_after base row y c long of_base of_row =
    let p = number base c in
    let e = number row c in
    let z = eliminated p row e base in
    let whole : dot z y ≡ pos 0 =
    dot-eliminated p row e base y long ∙ ap₂ (λ a b. p *ℤ a -ℤ e *ℤ b) of_row of_base ∙ omega (arith, ints, *ℤ-zero p, *ℤ-zero e) in
    none_from_product (scale z) (dot (reduced z) y) (scale_low z) (sym (dot_of_reduced z y) ∙ whole)

vanishes_before : (base row y : List ℤ) (c : ℕ) → length row ≡ length base → pos 0 <ℤ number base c → dot base y ≡ pos 0
    → dot (pivoted base c row) y ≡ pos 0 → dot row y ≡ pos 0
unfolding pivoted
vanishes_before base row y c long above of_base after =
    let p = number base c in
    let e = number row c in
    let z = eliminated p row e base in
    let k = positive_size p above in
    let whole : dot z y ≡ pos 0 = dot_of_reduced z y ∙ ap (λ x. pos (scale z) *ℤ x) after ∙ *ℤ-zero (pos (scale z)) in
    let parts : p *ℤ dot row y -ℤ e *ℤ pos 0 ≡ pos 0 = ap (λ b. p *ℤ dot row y -ℤ e *ℤ b) (sym of_base) ∙ sym (dot-eliminated p row e base y long) ∙ whole in
    none_from_product k.0 (dot row y) k.1 (ap (λ x. x *ℤ dot row y) (sym k.2) ∙ omega (arith, ints, parts, *ℤ-zero e))

-- ---- all rows

pub length_at : (t : Table) (i : ℕ) → IsTable t → i ≤ length t.basis → length (row_at t i) ≡ length (objective t)
length_at t i table low =
    All-get_or (λ row. length row ≡ length (objective t)) t.rows i [] (omega (arith, table.one_objective)) table.as_long

-- each row of the table after a pivot is as long
length_pivoted : (base row : List ℤ) (c : ℕ) → length row ≡ length base → length (pivoted base c row) ≡ length row
unfolding pivoted
length_pivoted base row c long =
    length-reduced (eliminated (number base c) row (number row c) base) ∙ length-eliminated (number base c) row (number row c) base long

pub length_after_at : (t : Table) (r c i : ℕ) → IsTable t → r < length t.basis → i ≤ length t.basis
    → length (row_at (after_pivot t r c) i) ≡ length (objective t)
length_after_at t r c i table base low =
    ⊎_elim
    (λ e. ap (λ k. length (row_at (after_pivot t r c) k)) e ∙ ap length (base_after t r c (omega (arith, table.one_objective))) ∙ length_at t r table (omega arith))
    (λ n.
    let long = length_at t i table low in
    let of_base = length_at t r table (omega arith) in
    ap length (other_after t r c i (omega (arith, table.one_objective)) n) ∙ length_pivoted (row_at t r) (row_at t i) c (long ∙ sym of_base) ∙ long)
    (cases_eq i r)

pub constraints_after : (t : Table) (r c : ℕ) → length (after_pivot t r c).basis ≡ length t.basis
unfolding after_pivot
constraints_after t r c = length-set t.basis r c

pub width_after : (t : Table) (r c : ℕ) → IsTable t → r < length t.basis → length (objective (after_pivot t r c)) ≡ length (objective t)
width_after t r c table base =
    ap (λ n. length (row_at (after_pivot t r c) n)) (constraints_after t r c) ∙ length_after_at t r c (length t.basis) table base (omega arith)

pub solves_after : (t : Table) (r c : ℕ) (values : List ℤ) (denom : ℕ) → IsTable t → IsPlace t r c → IsSolution t values denom
    → IsSolution (after_pivot t r c) values denom
solves_after t r c values denom table place solution =
    let u = after_pivot t r c in
    let at : (i : ℕ) → i ≤ length t.basis → Solves values denom (row_at t i) =
    λ i low. All-get_or (Solves values denom) t.rows i [] (omega (arith, table.one_objective)) solution.solves in
    let long : (i : ℕ) → i ≤ length t.basis → length (row_at t i) ≡ length values + 1 = λ i low. length_at t i table low ∙ sym solution.one_each in
    let none : (i : ℕ) → i ≤ length t.basis → dot (row_at t i) (form values denom) ≡ pos 0 =
    λ i low. vanishes (row_at t i) values denom (long i low) (at i low) in
    let base : r ≤ length t.basis = omega (arith, place.constraint) in
    record {
      one_each = solution.one_each ∙ sym (width_after t r c table place.constraint);
      solves =
          All-from_get_or (Solves values denom) u.rows []
          (λ i l.
          let low : i ≤ length t.basis = omega (arith, length_after t r c, table.one_objective) in
          let new_long : length (row_at u i) ≡ length values + 1 = length_after_at t r c i table place.constraint low ∙ sym solution.one_each in
          solved (row_at u i) values denom new_long
          (⊎_elim
          (λ e. ap (λ k. dot (row_at u k) (form values denom)) e
          ∙ ap (λ b. dot b (form values denom)) (base_after t r c (omega (arith, table.one_objective, place.constraint))) ∙ none r base)
          (λ n.
          ap (λ b. dot b (form values denom)) (other_after t r c i (omega (arith, table.one_objective)) n)
          ∙ vanishes_after (row_at t r) (row_at t i) (form values denom) c (long i low ∙ sym (long r base)) (none r base) (none i low))
          (cases_eq i r)));
    }

solves_before : (t : Table) (r c : ℕ) (values : List ℤ) (denom : ℕ) → IsTable t → IsPlace t r c → IsSolution (after_pivot t r c) values denom
    → IsSolution t values denom
solves_before t r c values denom table place solution =
    let u = after_pivot t r c in
    let width : length values + 1 ≡ length (objective t) = solution.one_each ∙ width_after t r c table place.constraint in
    let long : (i : ℕ) → i ≤ length t.basis → length (row_at t i) ≡ length values + 1 = λ i low. length_at t i table low ∙ sym width in
    let new_long : (i : ℕ) → i ≤ length t.basis → length (row_at u i) ≡ length values + 1 =
    λ i low. length_after_at t r c i table place.constraint low ∙ sym width in
    let none : (i : ℕ) → i ≤ length t.basis → dot (row_at u i) (form values denom) ≡ pos 0 =
    λ i low.
    vanishes (row_at u i) values denom (new_long i low)
    (All-get_or (Solves values denom) u.rows i [] (omega (arith, length_after t r c, table.one_objective)) solution.solves) in
    let base : r ≤ length t.basis = omega (arith, place.constraint) in
    let of_base : dot (row_at t r) (form values denom) ≡ pos 0 =
    ap (λ b. dot b (form values denom)) (sym (base_after t r c (omega (arith, table.one_objective, place.constraint)))) ∙ none r base in
    record {
      one_each = width;
      solves =
          All-from_get_or (Solves values denom) t.rows []
          (λ i l.
          let low : i ≤ length t.basis = omega (arith, table.one_objective) in
          solved (row_at t i) values denom (long i low)
          (⊎_elim
          (λ e. ap (λ k. dot (row_at t k) (form values denom)) e ∙ of_base)
          (λ n.
          vanishes_before (row_at t r) (row_at t i) (form values denom) c (long i low ∙ sym (long r base)) place.above of_base
          (ap (λ b. dot b (form values denom)) (sym (other_after t r c i l n)) ∙ none i low))
          (cases_eq i r)));
    }

pub pivot_keeps_solutions : SameSolutions
pivot_keeps_solutions t r c values denom table place =
    (solves_after t r c values denom table place, solves_before t r c values denom table place)
