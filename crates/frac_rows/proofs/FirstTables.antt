-- What the table before the first pivot is.
use Rattle.std.proofs.Common.{◌≡◌, ℕ, zero, suc, ◌+◌, ◌-◌, ◌<◌, ◌≤◌, false, List, [], ◌∷◌, map, length, get_or, All, ℤ, pos, ◌≤ℤ◌, unsigned_abs, refl, sym, ap, ap₂, ◌∙◌, arith}
use Rattle.std.proofs.lemmas.Int.{ints}
use Rattle.std.proofs.lemmas.List.{length-map, length-append, get_or-append_right}
use Rattle.std.proofs.lemmas.List.Elements.{All-append, All-map, All-from_get_or}
use Rattle.std.proofs.lemmas.List.Folds.{list_any_none}
use Rattle.std.proofs.lemmas.List.FromFn.{length-map-range_with_len, get_or-map-range_with_len, length-range_with_len, get_or-range_with_len}
use Rattle.frac_rows.specs.Rows.{widest, number, right_side, row_at, objective, is_wide_row, AreNarrow, IsTable}
use Rattle.frac_rows.specs.Starts.{own_numbers, start_row, start}
use Rattle.frac_rows.specs.Theorems.{IsBasic, IsOfObjective, AreRightsLow, FirstIsTable}
use Rattle.frac_rows.proofs.Divided.{narrow_at, not_wide}
use Rattle.frac_rows.proofs.FirstRows.{length-own_numbers, own_one, own_zero, own_right, own_narrow}

module _ (columns : List (List ℤ)) (rights : List ℤ) where
  first_rows : length (start columns rights).rows ≡ length rights + 1
  unfolding start
  first_rows = length-map-range_with_len (start_row columns rights) 0 (length rights + 1)

  pub first_row : (i : ℕ) → i < length rights + 1 → row_at (start columns rights) i ≡ start_row columns rights i
  unfolding start
  first_row i low = get_or-map-range_with_len (start_row columns rights) 0 (length rights + 1) i i [] low (omega arith)

  pub first_basis : length (start columns rights).basis ≡ length rights
  unfolding start
  first_basis = length-range_with_len (length columns) (length rights)

  first_basic : (i d : ℕ) → i < length rights → get_or (start columns rights).basis i d ≡ length columns + i
  unfolding start
  first_basic i d low = get_or-range_with_len (length columns) (length rights) i d low

  first_length : (i : ℕ) → length (start_row columns rights i) ≡ length columns + (length rights + 2)
  unfolding start_row
  first_length i =
      length-append (map (λ (column : List ℤ). number column i) columns) (own_numbers rights i)
      ∙ ap₂ ◌+◌ (length-map columns (λ (column : List ℤ). number column i)) (length-own_numbers rights i)

  first_number : (i k : ℕ) → number (start_row columns rights i) (length columns + k) ≡ number (own_numbers rights i) k
  unfolding start_row
  first_number i k =
      get_or-append_right (map (λ (column : List ℤ). number column i) columns) (own_numbers rights i) (length columns) (length columns + k) (pos 0)
      (length-map columns (λ (column : List ℤ). number column i)) (omega arith)
      ∙ ap (number (own_numbers rights i)) (omega arith)

  pub first_right : (i : ℕ) → right_side (start_row columns rights i) ≡ number rights i
  first_right i =
      ap (number (start_row columns rights i)) (omega (arith, first_length i)) ∙ first_number i (length rights + 1) ∙ own_right rights i (length rights + 1) refl

  pub first_width : length (objective (start columns rights)) ≡ length columns + (length rights + 2)
  first_width =
      ap length (ap (row_at (start columns rights)) first_basis ∙ first_row (length rights) (omega arith)) ∙ first_length (length rights)

  first_narrow : All AreNarrow columns → AreNarrow rights → (i : ℕ) → AreNarrow (start_row columns rights i)
  unfolding start_row
  first_narrow narrow limit i =
      All-append (λ x. unsigned_abs x ≤ widest) (map (λ (column : List ℤ). number column i) columns) (own_numbers rights i)
      (All-map (λ x. unsigned_abs x ≤ widest) (λ (column : List ℤ). number column i) columns (λ k d l. narrow_at _ i (narrow k d l)))
      (own_narrow rights i limit)

  pub first_table : All AreNarrow columns → AreNarrow rights → IsTable (start columns rights)
  first_table narrow limit =
      let t = start columns rights in
      record {
        one_objective = first_rows ∙ ap (λ n. n + 1) (sym first_basis);
        as_long =
            All-from_get_or (λ row. length row ≡ length (objective t)) t.rows []
            (λ i l. ap length (first_row i (omega (arith, first_rows))) ∙ first_length i ∙ sym first_width);
        one_slack_each = omega (arith, first_basis, first_width);
        before_v =
            All-from_get_or (λ c. c + 2 < length (objective t)) t.basis 0
            (λ i l. omega (arith, first_basic i 0 (omega (arith, first_basis)), first_width, first_basis));
        narrow =
            list_any_none is_wide_row t.rows
            (All-from_get_or (λ row. is_wide_row row ≡ false) t.rows []
            (λ i l.
            ap is_wide_row (first_row i (omega (arith, first_rows)))
            ∙ not_wide (start_row columns rights i) (first_narrow narrow limit i)));
      }

  pub first_basis_is : IsBasic (start columns rights)
  first_basis_is = record {
    own =
        λ i l.
        let low : i < length rights = omega (arith, first_basis) in
        let at = first_number i i ∙ own_one rights i i (omega arith) refl in
        rw (first_row i (omega arith), first_basic i 0 low) (omega (arith, ints, at));
    others =
        λ i j l within other.
        let low : i < length rights = omega (arith, first_basis) in
        rw (first_row j (omega (arith, first_basis)), first_basic i 0 low)
        (first_number j i ∙ own_zero rights j i (omega arith) (λ e. other (sym e)));
  }

  pub first_objective : IsOfObjective (start columns rights)
  first_objective =
      let t = start columns rights in
      let n = length rights in
      let v : length (objective t) - 2 ≡ length columns + n = omega (arith, first_width) in
      record {
        own =
            let last : objective t ≡ start_row columns rights n = ap (row_at t) first_basis ∙ first_row n (omega arith) in
            let at = first_number n n ∙ own_one rights n n (omega arith) refl in
            rw (v, last) (omega (arith, ints, at));
        others =
            λ i l.
            let low : i < n = omega (arith, first_basis) in
            rw (v, first_row i (omega arith)) (first_number i n ∙ own_zero rights i n (omega arith) (λ e. omega arith));
      }

  pub first_rights : All (λ x. pos 0 ≤ℤ x) rights → AreRightsLow (start columns rights)
  first_rights low =
      All-from_get_or (λ row. pos 0 ≤ℤ right_side row) (start columns rights).rows []
      (λ i l.
      let at = ap right_side (first_row i (omega (arith, first_rows))) ∙ first_right i in
      omega (arith, ints, at, low_at rights i low))
    where
      low_at : (xs : List ℤ) (i : ℕ) → All (λ x. pos 0 ≤ℤ x) xs → pos 0 ≤ℤ number xs i
      low_at [] i h = omega (arith, ints)
      low_at (x ∷ xs) zero h = h 0 (pos 0) (omega arith)
      low_at (x ∷ xs) (suc i) h = low_at xs i (λ k d l. h (suc k) d (omega arith))

pub first_is_table : FirstIsTable
first_is_table columns rights narrow limit = record {
  table = first_table columns rights narrow limit;
  basic = first_basis_is columns rights;
  of_objective = first_objective columns rights;
  rights_low = first_rights columns rights;
}
