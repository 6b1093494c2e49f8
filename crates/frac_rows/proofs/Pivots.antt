-- The tables that kept numbers stand for, before and after a pivot.
use Rattle.std.proofs.Common.{◌≡◌, ℕ, ◌+◌, ◌*◌, ◌<◌, ◌≤◌, ◌≢◌, true, false, List, [], map, length, set, ℤ, unsigned_abs, refl, sym, ap, ap₂, subst, ◌∙◌, ⊎_elim, arith, le_trans}
use borrow.Author.Count.{below_more}
use borrow.Rule.Slice.PartMut.{put_mid}
use Rattle.std.proofs.lemmas.Bool.{cases_eq}
use Rattle.std.proofs.lemmas.List.{length-map, length-set, get_or-map, get_or-set_same, get_or-set_other, ext_get_or}
use Rattle.std.proofs.lemmas.List.Elements.{All-from_get_or, All-map, All-set}
use Rattle.std.proofs.lemmas.List.Folds.{list_any_none, list_any_at}
use Rattle.std.proofs.lemmas.List.FromFn.{length-map-range_with_len, get_or-map-range_with_len}
use Rattle.frac_rows.specs.Divisors.{divisor_of, quotient, reduced}
use Rattle.frac_rows.specs.Rows.{widest, Table, row_at, pivoted, after_pivot, is_wide_row, is_wide, AreNarrow}
use Rattle.frac_rows.specs.Stored.{Matrix, extended, piece, whole_row, table_of, AreKept, IsStored}
use Rattle.frac_rows.specs.Steps.{IsAfter, AreAfter, IsWideAfter}
use Rattle.frac_rows.proofs.Quotients.{quotient_le}
use Rattle.frac_rows.proofs.Divided.{not_wide}
use Rattle.frac_rows.proofs.Pieces.{piece_put, piece_kept}

pub length_rows : (m : Matrix) (numbers : List ℤ) (basis : List ℕ) → length (table_of m numbers basis).rows ≡ m.height
unfolding table_of
length_rows m numbers basis = length-map-range_with_len (λ i. reduced (whole_row m numbers i)) 0 m.height

pub row_at-table_of : (m : Matrix) (numbers : List ℤ) (basis : List ℕ) (i : ℕ) → i < m.height
    → row_at (table_of m numbers basis) i ≡ reduced (whole_row m numbers i)
unfolding table_of
row_at-table_of m numbers basis i low = get_or-map-range_with_len (λ i. reduced (whole_row m numbers i)) 0 m.height i i [] low (omega arith)

pub basis_of : (m : Matrix) (numbers : List ℤ) (basis : List ℕ) → (table_of m numbers basis).basis ≡ basis
unfolding table_of
basis_of m numbers basis = refl

-- ---- the table after a pivot, row by row

pub length_after : (t : Table) (r c : ℕ) → length (after_pivot t r c).rows ≡ length t.rows
unfolding after_pivot
length_after t r c = length-set (map (pivoted (row_at t r) c) t.rows) r (row_at t r) ∙ length-map t.rows (pivoted (row_at t r) c)

pub base_after : (t : Table) (r c : ℕ) → r < length t.rows → row_at (after_pivot t r c) r ≡ row_at t r
unfolding after_pivot
base_after t r c low = get_or-set_same (map (pivoted (row_at t r) c) t.rows) r (row_at t r) [] (omega (arith, length-map t.rows (pivoted (row_at t r) c)))

pub other_after : (t : Table) (r c i : ℕ) → i < length t.rows → i ≢ r → row_at (after_pivot t r c) i ≡ pivoted (row_at t r) c (row_at t i)
unfolding after_pivot
other_after t r c i low other =
    get_or-set_other (map (pivoted (row_at t r) c) t.rows) r i (row_at t r) [] other ∙ get_or-map (pivoted (row_at t r) c) t.rows i [] [] low

pub basis_after : (t : Table) (r c : ℕ) → (after_pivot t r c).basis ≡ set t.basis r c
unfolding after_pivot
basis_after t r c = refl

same_table : (t u : Table) → t.rows ≡ u.rows → t.basis ≡ u.basis → t ≡ u
same_table t u rows basis = ap₂ (λ (rs : List (List ℤ)) (bs : List ℕ). record { rows = rs; basis = bs }) rows basis

-- the numbers that are kept after a pivot stand for the table after it
pub after_is : (m : Matrix) (numbers new : List ℤ) (basis : List ℕ) (r c : ℕ) → r < m.height → AreAfter m numbers r c m.height new
    → table_of m new (set basis r c) ≡ after_pivot (table_of m numbers basis) r c
after_is m numbers new basis r c low after =
    let t = table_of m numbers basis in
    let rows = length_rows m numbers basis in
    let base : r < length t.rows = omega (arith, rows) in
    let of_new = length_rows m new (set basis r c) in
    same_table (table_of m new (set basis r c)) (after_pivot t r c)
    (ext_get_or [] (table_of m new (set basis r c)).rows (after_pivot t r c).rows (of_new ∙ sym (length_after t r c ∙ rows))
    (λ i l.
    let within : i < m.height = omega (arith, of_new) in
    let here = (after.each i within) in
    row_at-table_of m new (set basis r c) i within
    ∙ ⊎_elim
    (λ e.
    ap (λ p. reduced (extended m.columns p)) (here.stays e) ∙ sym (row_at-table_of m numbers basis i within)
    ∙ ap (row_at t) e ∙ sym (base_after t r c base) ∙ ap (row_at (after_pivot t r c)) (sym e))
    (λ n.
    (here.follows n).next
    ∙ ap₂ (λ b x. pivoted b c x) (sym (row_at-table_of m numbers basis r low)) (sym (row_at-table_of m numbers basis i within))
    ∙ sym (other_after t r c i (omega (arith, rows)) n))
    (cases_eq i r)))
    (basis_of m new (set basis r c) ∙ ap (λ b. set b r c) (sym (basis_of m numbers basis)) ∙ sym (basis_after t r c))

pub kept_after : (m : Matrix) (numbers new : List ℤ) (r c : ℕ) → AreKept m numbers → length new ≡ length numbers → AreAfter m numbers r c m.height new
    → AreKept m new
kept_after m numbers new r c kept long after = record {
  long = long ∙ kept.long;
  narrow =
      λ i low.
      let here = after.each i low in
      ⊎_elim
      (λ e. subst (λ p. AreNarrow (extended m.columns p)) (sym (here.stays e)) (kept.narrow i low))
      (λ n. (here.follows n).narrow)
      (cases_eq i r);
}

-- ---- whether a table is wide

narrow_reduced : (row : List ℤ) → AreNarrow row → AreNarrow (reduced row)
unfolding reduced
narrow_reduced row narrow =
    All-map (λ x. unsigned_abs x ≤ widest) (λ x. quotient x (divisor_of row)) row
    (λ k d low. le_trans (quotient_le _ (divisor_of row)) (narrow k d low))

pub not_wide_table : (m : Matrix) (numbers : List ℤ) (basis : List ℕ) → AreKept m numbers → is_wide (table_of m numbers basis) ≡ false
not_wide_table m numbers basis kept =
    let t = table_of m numbers basis in
    list_any_none is_wide_row t.rows
    (All-from_get_or (λ row. is_wide_row row ≡ false) t.rows []
    (λ i low.
    let within : i < m.height = omega (arith, length_rows m numbers basis) in
    ap is_wide_row (row_at-table_of m numbers basis i within)
    ∙ not_wide (reduced (whole_row m numbers i)) (narrow_reduced (whole_row m numbers i) (kept.narrow i within))))

pub wide_after : (m : Matrix) (numbers : List ℤ) (basis : List ℕ) (r c : ℕ) → r < m.height → IsWideAfter m numbers r c
    → is_wide (after_pivot (table_of m numbers basis) r c) ≡ true
wide_after m numbers basis r c low wide =
    let t = table_of m numbers basis in
    let rows = length_rows m numbers basis in
    let within : wide.i < length t.rows = omega (arith, rows, wide.within) in
    list_any_at is_wide_row (after_pivot t r c).rows wide.i [] (omega (arith, length_after t r c, within))
    (ap is_wide_row (other_after t r c wide.i within wide.other
    ∙ ap₂ (λ b x. pivoted b c x) (row_at-table_of m numbers basis r low) (row_at-table_of m numbers basis wide.i wide.within))
    ∙ wide.wide)

-- ---- the rows that are written one after the other

pub after_more : (m : Matrix) (numbers : List ℤ) (r c i h s : ℕ) (spare out : List ℤ) → h ≡ m.height → i * (h + 1) ≤ length spare → length out ≡ h + 1
    → AreAfter m numbers r c i spare → IsAfter m numbers r c i out
    → AreAfter m numbers r c (i + 1) (put_mid (i * (h + 1)) s spare out)
after_more m numbers r c i h s spare out e within size before here =
    let w = m.height + 1 in
    let there : i * w ≤ length spare = subst (λ n. i * (n + 1) ≤ length spare) e within in
    let P : ℕ → Type 0 = λ k. IsAfter m numbers r c k (piece w (put_mid (i * w) s spare out) k) in
    let each : (k : ℕ) → k < i + 1 → P k =
    below_more P i
    (λ k l. subst (λ p. IsAfter m numbers r c k p) (sym (piece_kept w i k s spare out there l)) (before.each k l))
    (subst (λ p. IsAfter m numbers r c i p) (sym (piece_put w i s spare out there (size ∙ ap (λ n. n + 1) e))) here) in
    rw e (record { each = each })

pub stored_after : (m : Matrix) (numbers new : List ℤ) (basis : List ℕ) (r c : ℕ) → IsStored m numbers basis → r < length basis
    → c + 1 < length m.columns + m.height → length new ≡ length numbers → AreAfter m numbers r c m.height new
    → IsStored m new (set basis r c)
stored_after m numbers new basis r c stored low within long after = record {
  kept = kept_after m numbers new r c stored.kept long after;
  one_each = omega (arith, length-set basis r c, stored.one_each);
  before_v = All-set (λ k. k + 1 < length m.columns + m.height) basis r c within stored.before_v;
}
