-- The tables whose rows are kept one after the other, before and after a pivot.
use Rattle.std.proofs.Common.{◌≡◌, ℕ, ◌+◌, ◌-◌, ◌*◌, ◌<◌, ◌≤◌, ◌≢◌, true, false, List, [], All, length, set, get_or, ℤ, refl, sym, ap, ap₂, subst, ◌∙◌, ⊎_elim, arith}
use borrow.Author.Count.{below_more}
use borrow.Rule.Slice.PartMut.{put_mid}
use Rattle.std.proofs.lemmas.Bool.{cases_eq}
use Rattle.std.proofs.lemmas.List.{length-set, ext_get_or}
use Rattle.std.proofs.lemmas.List.Elements.{All-from_get_or}
use Rattle.std.proofs.lemmas.List.Folds.{list_any_none, list_any_at}
use Rattle.std.proofs.lemmas.List.FromFn.{length-map-range_with_len, get_or-map-range_with_len}
use Rattle.frac_rows.specs.Rows.{Table, number, right_side, row_at, objective, pivoted, after_pivot, is_wide_row, is_wide, IsTable}
use Rattle.frac_rows.specs.Stored.{piece}
use Rattle.frac_rows.proofs.Divided.{not_wide}
use Rattle.frac_rows.proofs.Pieces.{piece_put, piece_kept}
use Rattle.frac_rows.proofs.Pivots.{length_after, base_after, other_after, basis_after}
use Rattle.frac_rows.proofs.WholeRows.{piece_within, length-piece}
use Rattle.plain_rows.specs.Flat.{IsSpread, spread, stays_of, follows_of, owners, v_of, width_of, whole_row, table_of, IsReduced, AreRows, AreApart, IsStored, IsAfter, AreAfter, IsWideAfter}
use Rattle.plain_rows.proofs.Spread.{number_at, length-spread, number-spread, right-spread}
use Rattle.plain_rows.proofs.Swapped.{at_same, at_other}
use Rattle.plain_rows.proofs.WholeRows.{narrow_spread, stays_whole, follows_whole, wide_whole}
use Rattle.plain_rows.proofs.Columns.{length-owners, owner_basic, owner_low, spread_of, swap_of, apart_after, v_after, owners_after}

-- ---- one table

pub length_rows : (os : List ℕ) (numbers : List ℤ) (basis : List ℕ) → length (table_of os numbers basis).rows ≡ length basis + 1
unfolding table_of
length_rows os numbers basis = length-map-range_with_len (whole_row os numbers basis) 0 (length basis + 1)

pub row_at-table_of : (os : List ℕ) (numbers : List ℤ) (basis : List ℕ) (i : ℕ) → i < length basis + 1
    → row_at (table_of os numbers basis) i ≡ whole_row os numbers basis i
unfolding table_of
row_at-table_of os numbers basis i low = get_or-map-range_with_len (whole_row os numbers basis) 0 (length basis + 1) i i [] low (omega arith)

pub basis_of : (os : List ℕ) (numbers : List ℤ) (basis : List ℕ) → (table_of os numbers basis).basis ≡ basis
unfolding table_of
basis_of os numbers basis = refl

pub row_within : (w h i : ℕ) (numbers : List ℤ) → AreRows w h numbers → i < h → i * w + w ≤ length numbers
row_within w h i numbers rows low = piece_within w h i numbers rows.long low

pub length_row : (w h i : ℕ) (numbers : List ℤ) → AreRows w h numbers → i < h → length (piece w numbers i) ≡ w
length_row w h i numbers rows low = length-piece w numbers i (row_within w h i numbers rows low)

pub objective-table_of : (os : List ℕ) (numbers : List ℤ) (basis : List ℕ)
    → objective (table_of os numbers basis) ≡ whole_row os numbers basis (length basis)
objective-table_of os numbers basis =
    let last : length (table_of os numbers basis).basis ≡ length basis = ap length (basis_of os numbers basis) in
    ap (row_at (table_of os numbers basis)) last ∙ row_at-table_of os numbers basis (length basis) (omega arith)

pub length-whole_row : (os : List ℕ) (numbers : List ℤ) (basis : List ℕ) (i : ℕ) → length (whole_row os numbers basis i) ≡ v_of os basis + 2
length-whole_row os numbers basis i =
    length-spread os (get_or (owners (v_of os basis) basis) i 0) (v_of os basis) (piece (width_of os) numbers i)

pub width_is : (os : List ℕ) (numbers : List ℤ) (basis : List ℕ) → length (objective (table_of os numbers basis)) ≡ v_of os basis + 2
width_is os numbers basis = ap length (objective-table_of os numbers basis) ∙ length-whole_row os numbers basis (length basis)

pub not_wide_table : (os : List ℕ) (numbers : List ℤ) (basis : List ℕ) → AreRows (width_of os) (length basis + 1) numbers
    → is_wide (table_of os numbers basis) ≡ false
not_wide_table os numbers basis rows =
    let t = table_of os numbers basis in
    list_any_none is_wide_row t.rows
    (All-from_get_or (λ row. is_wide_row row ≡ false) t.rows []
    (λ i low.
    let within : i < length basis + 1 = omega (arith, length_rows os numbers basis) in
    ap is_wide_row (row_at-table_of os numbers basis i within)
    ∙ not_wide (whole_row os numbers basis i)
    (narrow_spread os (get_or (owners (v_of os basis) basis) i 0) (v_of os basis) (piece (width_of os) numbers i)
    (length_row (width_of os) (length basis + 1) i numbers rows within) (rows.each i within).narrow)))

pub is_table : (os : List ℕ) (numbers : List ℤ) (basis : List ℕ) → IsStored os numbers basis → IsTable (table_of os numbers basis)
is_table os numbers basis stored =
    let t = table_of os numbers basis in
    let width = width_is os numbers basis in
    let constraints : length t.basis ≡ length basis = ap length (basis_of os numbers basis) in
    record {
      one_objective = omega (arith, length_rows os numbers basis, constraints);
      as_long =
          All-from_get_or (λ row. length row ≡ length (objective t)) t.rows []
          (λ i low.
          let within : i < length basis + 1 = omega (arith, length_rows os numbers basis) in
          ap length (row_at-table_of os numbers basis i within) ∙ length-whole_row os numbers basis i ∙ sym width);
      one_slack_each = omega (arith, width, constraints);
      before_v =
          subst (λ b. All (λ c. c + 2 < length (objective t)) b) (sym (basis_of os numbers basis))
          (All-from_get_or (λ c. c + 2 < length (objective t)) basis 0
          (λ i low. let below = owner_low (v_of os basis) os basis i stored.columns low in omega (arith, width, below)));
      narrow = not_wide_table os numbers basis stored.rows;
    }

-- ---- the number at a place, and the right side

pub number_at_place : (os : List ℕ) (numbers : List ℤ) (basis : List ℕ) (i c : ℕ) → IsStored os numbers basis → i < length basis + 1 → c < length os
    → number (row_at (table_of os numbers basis) i) (get_or os c 0) ≡ number (piece (width_of os) numbers i) c
number_at_place os numbers basis i c stored low place =
    let v = v_of os basis in
    let owner = get_or (owners v basis) i 0 in
    let row = piece (width_of os) numbers i in
    let below = stored.columns.outside_low c place in
    ap (λ r. number r (get_or os c 0)) (row_at-table_of os numbers basis i low)
    ∙ number-spread os owner v (get_or os c 0) row (omega (arith, below))
    ∙ number_at os row owner c (length_row (width_of os) (length basis + 1) i numbers stored.rows low) place stored.columns.once

pub right_is : (os : List ℕ) (numbers : List ℤ) (basis : List ℕ) (i : ℕ) → i < length basis + 1
    → right_side (row_at (table_of os numbers basis) i) ≡ number (piece (width_of os) numbers i) (length os)
right_is os numbers basis i low =
    let v = v_of os basis in
    let owner = get_or (owners v basis) i 0 in
    ap right_side (row_at-table_of os numbers basis i low)
    ∙ right-spread os owner v (length (whole_row os numbers basis i) - 1) (piece (width_of os) numbers i)
    (omega (arith, length-whole_row os numbers basis i))

-- ---- the table after a pivot

same_table : (t u : Table) → t.rows ≡ u.rows → t.basis ≡ u.basis → t ≡ u
same_table t u rows basis = ap₂ (λ (rs : List (List ℤ)) (bs : List ℕ). record { rows = rs; basis = bs }) rows basis

module _ (os : List ℕ) (numbers : List ℤ) (basis : List ℕ) (r c : ℕ) (stored : IsStored os numbers basis) (low : r < length basis) (place : c < length os) where
  abbrev v : ℕ
  v = v_of os basis

  abbrev own : List ℕ
  own = owners v basis

  abbrev b : ℕ
  b = get_or own r 0

  abbrev column : ℕ
  column = get_or os c 0

  abbrev os_new : List ℕ
  os_new = set os c (get_or basis r 0)

  abbrev basis_new : List ℕ
  basis_new = set basis r column

  abbrev base : List ℤ
  base = piece (width_of os) numbers r

  own_long : length own ≡ length basis + 1
  own_long = length-owners v basis

  base_is : b ≡ get_or basis r 0
  base_is = owner_basic v basis r low

  base_long : length base ≡ length os + 2
  base_long = length_row (width_of os) (length basis + 1) r numbers stored.rows (omega (arith, low))

  new_width : width_of os_new ≡ width_of os
  new_width = ap (λ n. n + 2) (length-set os c (get_or basis r 0))

  new_height : length basis_new ≡ length basis
  new_height = length-set basis r column

  columns_after : AreApart v (set os c b) (set own r column)
  columns_after =
      apart_after v os own r c stored.columns (omega (arith, low, own_long)) place
      (subst (λ z. z < v) (sym base_is) (owner_low v os basis r stored.columns low))

  own_after : owners (v_of os_new basis_new) basis_new ≡ set own r column
  own_after = ap (λ n. owners n basis_new) (v_after os basis r c (get_or basis r 0) column) ∙ owners_after v basis r column low

  -- the whole row of the new table
  whole_new : (new : List ℤ) (i : ℕ) → whole_row os_new new basis_new i ≡ spread (set os c b) (get_or (set own r column) i 0) v (piece (width_of os) new i)
  whole_new new i =
      ap₂ (λ (w : ℕ) (o : List ℕ). spread os_new (get_or o i 0) (v_of os_new basis_new) (piece w new i)) new_width own_after
      ∙ ap₂ (λ (x n : ℕ). spread (set os c x) (get_or (set own r column) i 0) n (piece (width_of os) new i)) (sym base_is)
      (v_after os basis r c (get_or basis r 0) column)

  -- the row r, and another one
  stays_row : (new : List ℤ) (i : ℕ) → i ≡ r → IsAfter (length os) numbers r c i (piece (width_of os) new i)
      → whole_row os_new new basis_new i ≡ whole_row os numbers basis r
  stays_row new i e after =
      whole_new new i
      ∙ ap₂ (λ (o : ℕ) row. spread (set os c b) o v row) (ap (λ j. get_or (set own r column) j 0) e ∙ at_same own column r (omega (arith, low, own_long)))
      (after.stays e ∙ ap (λ j. stays_of (length os) (piece (width_of os) numbers j) c) e)
      ∙ stays_whole os b c v (swap_of v os own r c stored.columns (omega (arith, low, own_long)) place)
      (spread_of v os own r stored.columns (omega (arith, low, own_long))) base base_long

  module _ (i : ℕ) (within : i < length basis + 1) (other : i ≢ r) where
    abbrev owner : ℕ
    owner = get_or own i 0

    abbrev row : List ℤ
    row = piece (width_of os) numbers i

    owner_other : owner ≢ b
    owner_other e = other (stored.columns.own_once i r (omega (arith, within, own_long)) (omega (arith, low, own_long)) e)

    of_new : IsSpread (set os c b) owner v
    of_new =
        subst (λ o. IsSpread (set os c b) o v) (at_other own column r i other)
        (spread_of v (set os c b) (set own r column) i columns_after (omega (arith, within, own_long, length-set own r column)))

    follows_row : (new : List ℤ) → IsAfter (length os) numbers r c i (piece (width_of os) new i)
        → whole_row os_new new basis_new i ≡ pivoted (whole_row os numbers basis r) column (whole_row os numbers basis i)
    follows_row new after =
        whole_new new i
        ∙ ap₂ (λ (o : ℕ) z. spread (set os c b) o v z) (at_other own column r i other) (after.follows other)
        ∙ follows_whole os b c v (swap_of v os own r c stored.columns (omega (arith, low, own_long)) place)
        (spread_of v os own r stored.columns (omega (arith, low, own_long))) base base_long owner owner_other
        (spread_of v os own i stored.columns (omega (arith, within, own_long))) of_new row
        (length_row (width_of os) (length basis + 1) i numbers stored.rows within)

    wide_row : is_wide_row (follows_of (length os) base c row) ≡ true
        → is_wide_row (pivoted (whole_row os numbers basis r) column (whole_row os numbers basis i)) ≡ true
    wide_row =
        wide_whole os b c v (swap_of v os own r c stored.columns (omega (arith, low, own_long)) place)
        (spread_of v os own r stored.columns (omega (arith, low, own_long))) base base_long owner owner_other
        (spread_of v os own i stored.columns (omega (arith, within, own_long))) of_new row
        (length_row (width_of os) (length basis + 1) i numbers stored.rows within)

  pub after_is : (new : List ℤ) → AreAfter (length os) numbers r c (length basis + 1) new
      → table_of os_new new basis_new ≡ after_pivot (table_of os numbers basis) r column
  after_is new after =
      let t = table_of os numbers basis in
      let u = table_of os_new new basis_new in
      let rows = length_rows os numbers basis in
      let of_new_rows : length u.rows ≡ length basis + 1 = length_rows os_new new basis_new ∙ ap (λ n. n + 1) new_height in
      let first : r < length t.rows = omega (arith, rows, low) in
      same_table u (after_pivot t r column)
      (ext_get_or [] u.rows (after_pivot t r column).rows (of_new_rows ∙ sym (length_after t r column ∙ rows))
      (λ i l.
      let within : i < length basis + 1 = omega (arith, of_new_rows, l) in
      let here = after.each i within in
      row_at-table_of os_new new basis_new i (omega (arith, within, new_height))
      ∙ ⊎_elim
      (λ (e : i ≡ r).
      stays_row new i e here ∙ sym (row_at-table_of os numbers basis r (omega (arith, low))) ∙ sym (base_after t r column first)
      ∙ ap (row_at (after_pivot t r column)) (sym e))
      (λ (n : i ≢ r).
      follows_row i within n new here
      ∙ ap₂ (λ x y. pivoted x column y) (sym (row_at-table_of os numbers basis r (omega (arith, low)))) (sym (row_at-table_of os numbers basis i within))
      ∙ sym (other_after t r column i (omega (arith, within, rows)) n))
      (cases_eq i r)))
      (basis_of os_new new basis_new ∙ ap (λ x. set x r column) (sym (basis_of os numbers basis)) ∙ sym (basis_after t r column))

  pub stored_after : (new : List ℤ) → length new ≡ length numbers → AreAfter (length os) numbers r c (length basis + 1) new
      → IsStored os_new new basis_new
  stored_after new long after = record {
    rows = record {
      long = long ∙ stored.rows.long ∙ ap₂ (λ h w. (h + 1) * w) (sym new_height) (sym new_width);
      each = λ i l.
          subst (λ w. IsReduced (piece w new i)) (sym new_width) (after.each i (omega (arith, l, new_height))).kept;
    };
    columns =
        subst (λ n. AreApart n os_new (owners n basis_new)) (sym (v_after os basis r c (get_or basis r 0) column))
        (subst (λ x. AreApart v (set os c x) (owners v basis_new)) base_is
        (subst (λ o. AreApart v (set os c b) o) (sym (owners_after v basis r column low)) columns_after));
    few = omega (arith, stored.few, v_after os basis r c (get_or basis r 0) column);
  }

  -- where a row after the pivot is too wide, the table is
  pub wide_after : IsWideAfter (length os) (length basis + 1) numbers r c → is_wide (after_pivot (table_of os numbers basis) r column) ≡ true
  wide_after wide =
      let t = table_of os numbers basis in
      let within : wide.i < length t.rows = omega (arith, wide.within, length_rows os numbers basis) in
      list_any_at is_wide_row (after_pivot t r column).rows wide.i [] (omega (arith, length_after t r column, within))
      (ap is_wide_row (other_after t r column wide.i within wide.other
      ∙ ap₂ (λ x y. pivoted x column y) (row_at-table_of os numbers basis r (omega (arith, low))) (row_at-table_of os numbers basis wide.i wide.within))
      ∙ wide_row wide.i wide.within wide.other wide.wide)

-- ---- the rows that are written one after the other

pub after_more : (places : ℕ) (numbers : List ℤ) (r c i s : ℕ) (spare out : List ℤ) → i * (places + 2) ≤ length spare → length out ≡ places + 2
    → AreAfter places numbers r c i spare → IsAfter places numbers r c i out → AreAfter places numbers r c (i + 1) (put_mid (i * (places + 2)) s spare out)
after_more places numbers r c i s spare out within size before here =
    let w = places + 2 in
    let P : ℕ → Type 0 = λ k. IsAfter places numbers r c k (piece w (put_mid (i * w) s spare out) k) in
    record {
      each =
          below_more P i
          (λ k l. subst (λ p. IsAfter places numbers r c k p) (sym (piece_kept w i k s spare out within l)) (before.each k l))
          (subst (λ p. IsAfter places numbers r c i p) (sym (piece_put w i s spare out within size)) here);
    }
