-- The rows before the first pivot, as they are kept.
use Rattle.std.proofs.Common.{◌≡◌, ◌≢◌, ℕ, ◌+◌, ◌-◌, ◌*◌, ◌^◌, ◌<◌, ◌≤◌, List, [], ◌∷◌, ◌++◌, length, map, set, get_or, ℤ, pos, unsigned_abs, refl, sym, ap, ap₂, subst, ◌∙◌, ⊎_elim, arith}
use borrow.Author.Count.{below_more}
use borrow.Rule.Slice.PartMut.{put_mid}
use Rattle.std.specs.List.{range_with_len}
use Rattle.std.proofs.lemmas.Bool.{cases_eq, cases_lt}
use Rattle.std.proofs.lemmas.List.{length-append, length-map, length-set, get_or-map, get_or_append_left, get_or-append_right, get_or-set_same, get_or-set_other, ext_get_or}
use Rattle.std.proofs.lemmas.List.Elements.{All-from_get_or}
use Rattle.std.proofs.lemmas.List.FromFn.{length-map-range_with_len, length-range_with_len, get_or-range_with_len}
use Rattle.frac_rows.specs.Rows.{widest, Table, number, AreNarrow}
use Rattle.frac_rows.specs.Starts.{own_numbers, start_row, start}
use Rattle.frac_rows.specs.Stored.{piece, columns_of}
use Rattle.frac_rows.proofs.Divided.{narrow_at}
use Rattle.frac_rows.proofs.Gcds.{divisor_of_one}
use Rattle.frac_rows.proofs.FirstRows.{length-own_numbers, own_one, own_zero, own_right}
use Rattle.frac_rows.proofs.FirstTables.{first_row}
use Rattle.frac_rows.proofs.Pieces.{piece_put, piece_kept}
use Rattle.frac_rows.proofs.WholeRows.{piece_within, length-piece, standing_at, length-columns_of, get_or-columns_of}
use Rattle.plain_rows.specs.Flat.{spread, spread_number, owners, v_of, whole_row, table_of, IsReduced, AreApart, IsStored, AreFirst}
use Rattle.plain_rows.proofs.Spread.{number_of_piece, place_or_none, number_at, number_of_owner, number_of_none, number-spread, right-spread, length-spread, same_row}
use Rattle.plain_rows.proofs.Columns.{length-owners, owner_basic, owner_last}
use Rattle.plain_rows.proofs.FlatTables.{length_rows, row_at-table_of, basis_of}

-- a row with two numbers behind it
abbrev pub first_kept : List ℤ → ℤ → List ℤ
first_kept row right = row ++ right ∷ pos 1 ∷ []

pub length-first_kept : (row : List ℤ) (right : ℤ) → length (first_kept row right) ≡ length row + 2
length-first_kept row right = length-append row (right ∷ pos 1 ∷ []) ∙ omega arith

first_front : (row : List ℤ) (right : ℤ) (k : ℕ) → k < length row → number (first_kept row right) k ≡ number row k
first_front row right k low = get_or_append_left row (right ∷ pos 1 ∷ []) (pos 0) k low

first_right : (row : List ℤ) (right : ℤ) (n k : ℕ) → length row ≡ n → k ≡ n → number (first_kept row right) k ≡ right
first_right row right n k long e =
    get_or-append_right row (right ∷ pos 1 ∷ []) n k (pos 0) long (omega (arith, e)) ∙ ap (number (right ∷ pos 1 ∷ [])) (zero_from k n e)
  where
    zero_from : (k n : ℕ) → k ≡ n → k - n ≡ 0
    zero_from k n e = omega (arith, e)

first_own : (row : List ℤ) (right : ℤ) (n k : ℕ) → length row ≡ n → k ≡ n + 1 → number (first_kept row right) k ≡ pos 1
first_own row right n k long e =
    get_or-append_right row (right ∷ pos 1 ∷ []) n k (pos 0) long (omega (arith, e)) ∙ ap (number (right ∷ pos 1 ∷ [])) (one_from k n e)
  where
    one_from : (k n : ℕ) → k ≡ n + 1 → k - n ≡ 1
    one_from k n e = omega (arith, e)

-- what is written of a row
pub written_is : (row out : List ℤ) (right : ℤ) (n : ℕ) → n ≡ length row → length out ≡ n + 2 → ((j : ℕ) → j < n → number out j ≡ number row j)
    → set (set out n right) (n + 1) (pos 1) ≡ first_kept row right
written_is row out right n size long front =
    let first = set out n right in
    let all = set first (n + 1) (pos 1) in
    let first_long : length first ≡ n + 2 = length-set out n right ∙ long in
    ext_get_or (pos 0) all (first_kept row right)
    (length-set first (n + 1) (pos 1) ∙ first_long ∙ sym (length-first_kept row right ∙ ap (λ m. m + 2) (sym size)))
    (λ k low.
    ⊎_elim
    (λ (e : k ≡ n + 1).
    ap (number all) e ∙ get_or-set_same first (n + 1) (pos 1) (pos 0) (omega (arith, first_long)) ∙ sym (first_own row right n k (sym size) e))
    (λ (other : k ≢ n + 1).
    get_or-set_other first (n + 1) k (pos 1) (pos 0) other
    ∙ ⊎_elim
    (λ (e : k ≡ n). ap (number first) e ∙ get_or-set_same out n right (pos 0) (omega (arith, long)) ∙ sym (first_right row right n k (sym size) e))
    (λ (away : k ≢ n).
    let before : k < n = omega (arith, low, length-set first (n + 1) (pos 1), first_long, other, away) in
    get_or-set_other out n k right (pos 0) away ∙ front k before ∙ sym (first_front row right k (omega (arith, before, size))))
    (cases_eq k n))
    (cases_eq k (n + 1)))

-- the rows that are written one after the other
pub first_more : (variables : ℕ) (given rights : List ℤ) (i s : ℕ) (numbers out : List ℤ) → i * (variables + 2) ≤ length numbers
    → length out ≡ variables + 2 → AreFirst variables given rights i numbers
    → out ≡ first_kept (piece variables given i) (number rights i)
    → AreFirst variables given rights (i + 1) (put_mid (i * (variables + 2)) s numbers out)
first_more variables given rights i s numbers out within size before here =
    let w = variables + 2 in
    record {
      each =
          below_more
          (λ k. piece w (put_mid (i * w) s numbers out) k ≡ first_kept (piece variables given k) (number rights k)) i
          (λ k l. piece_kept w i k s numbers out within l ∙ before.each k l) (piece_put w i s numbers out within size ∙ here);
    }

-- ---- the table

module _ (variables : ℕ) (given rights numbers : List ℤ) (long : length given ≡ (length rights + 1) * variables)
    (first : AreFirst variables given rights (length rights + 1) numbers) where
  abbrev m : ℕ
  m = length rights

  abbrev os : List ℕ
  os = range_with_len 0 variables

  abbrev basis : List ℕ
  basis = range_with_len variables m

  abbrev columns : List (List ℤ)
  columns = columns_of (m + 1) variables given

  os_long : length os ≡ variables
  os_long = length-range_with_len 0 variables

  basis_long : length basis ≡ m
  basis_long = length-range_with_len variables m

  os_at : (a : ℕ) → a < variables → get_or os a 0 ≡ a
  os_at a low = get_or-range_with_len 0 variables a 0 low ∙ omega arith

  basis_at : (i : ℕ) → i < m → get_or basis i 0 ≡ variables + i
  basis_at i low = get_or-range_with_len variables m i 0 low

  v_is : v_of os basis ≡ variables + m
  v_is = omega (arith, os_long, basis_long)

  owner_at : (i : ℕ) → i < m + 1 → get_or (owners (v_of os basis) basis) i 0 ≡ variables + i
  owner_at i low =
      ⊎_elim
      (λ (e : i ≡ m). owner_last (v_of os basis) basis i (e ∙ sym basis_long) ∙ v_is ∙ ap (λ n. variables + n) (sym e))
      (λ (n : i ≢ m). owner_basic (v_of os basis) basis i (omega (arith, low, n, basis_long)) ∙ basis_at i (omega (arith, low, n)))
      (cases_eq i m)

  apart : AreApart (v_of os basis) os (owners (v_of os basis) basis)
  apart =
      let count = length-owners (v_of os basis) basis in
      record {
        outside_low = λ a l. omega (arith, l, os_long, v_is, os_at a (omega (arith, l, os_long)));
        own_low = λ i l. omega (arith, l, count, basis_long, v_is, owner_at i (omega (arith, l, count, basis_long)));
        once =
            λ x y l k e. omega (arith, e, os_at x (omega (arith, l, os_long)), os_at y (omega (arith, k, os_long)));
        own_once =
            λ i j l k e.
            omega (arith, e, owner_at i (omega (arith, l, count, basis_long)), owner_at j (omega (arith, k, count, basis_long)));
        apart =
            λ a i l k e.
            omega (arith, e, l, os_long, os_at a (omega (arith, l, os_long)), owner_at i (omega (arith, k, count, basis_long)));
      }

  -- ---- one row

  abbrev given_row : ℕ → List ℤ
  given_row i = piece variables given i

  abbrev kept : ℕ → List ℤ
  kept i = first_kept (given_row i) (number rights i)

  row_long : (i : ℕ) → i < m + 1 → length (given_row i) ≡ variables
  row_long i low = length-piece variables given i (piece_within variables (m + 1) i given long low)

  kept_long : (i : ℕ) → i < m + 1 → length (kept i) ≡ length os + 2
  kept_long i low = length-first_kept (given_row i) (number rights i) ∙ omega (arith, row_long i low, os_long)

  pub first_reduced : AreNarrow given → AreNarrow rights → (i : ℕ) → i < m + 1 → IsReduced (kept i)
  first_reduced narrow rights_narrow i low =
      let size = row_long i low in
      let all = kept_long i low in
      let one = divisor_of_one (kept i) (variables + 1) (omega (arith, all, os_long)) (first_own (given_row i) (number rights i) variables (variables + 1) size refl) in
      record {
        narrow =
            All-from_get_or (λ x. unsigned_abs x ≤ widest) (kept i) (pos 0)
            (λ k less.
            ⊎_elim
            (λ (e : k ≡ variables + 1). subst (λ z. unsigned_abs z ≤ widest) (sym (first_own (given_row i) (number rights i) variables k size e)) (omega arith))
            (λ (other : k ≢ variables + 1).
            ⊎_elim
            (λ (e : k ≡ variables).
            subst (λ z. unsigned_abs z ≤ widest) (sym (first_right (given_row i) (number rights i) variables k size e)) (narrow_at rights i rights_narrow))
            (λ (away : k ≢ variables).
            let before : k < variables = omega (arith, less, all, os_long, other, away) in
            subst (λ z. unsigned_abs z ≤ widest)
            (sym (first_front (given_row i) (number rights i) k (omega (arith, before, size)) ∙ number_of_piece variables given i k before))
            (narrow_at given (i * variables + k) narrow))
            (cases_eq k variables))
            (cases_eq k (variables + 1)));
        one = omega (arith, one);
      }

  start_long : (i : ℕ) → length (start_row columns rights i) ≡ variables + m + 2
  unfolding start_row
  start_long i =
      length-append (map (λ column. number column i) columns) (own_numbers rights i)
      ∙ omega (
        arith,
        length-map columns (λ column. number column i),
        length-columns_of (m + 1) variables given,
        length-own_numbers rights i,
      )

  start_front : (i k : ℕ) → i < m + 1 → k < variables → number (start_row columns rights i) k ≡ number (given_row i) k
  unfolding start_row
  start_front i k low column =
      get_or_append_left (map (λ column. number column i) columns) (own_numbers rights i) (pos 0) k
      (omega (arith, column, length-map columns (λ column. number column i), length-columns_of (m + 1) variables given))
      ∙ get_or-map (λ column. number column i) columns k [] (pos 0) (omega (arith, column, length-columns_of (m + 1) variables given))
      ∙ ap (λ column. number column i) (get_or-columns_of (m + 1) variables given k column)
      ∙ standing_at given variables (m + 1) k i low

  start_behind : (i k : ℕ) → variables ≤ k → number (start_row columns rights i) k ≡ number (own_numbers rights i) (k - variables)
  unfolding start_row
  start_behind i k past =
      get_or-append_right (map (λ column. number column i) columns) (own_numbers rights i) variables k (pos 0)
      (length-map columns (λ column. number column i) ∙ length-columns_of (m + 1) variables given) past

  first_number : (i k : ℕ) → i < m + 1 → k ≤ variables + m → spread_number os (kept i) (variables + i) k ≡ number (start_row columns rights i) k
  first_number i k low most =
      let size = kept_long i low in
      ⊎_elim
      (λ (found : (a : ℕ) × (a < length os) × (get_or os a 0 ≡ k)).
      let a = found.0 in
      let within : a < variables = omega (arith, found.1, os_long) in
      let at : a ≡ k = sym (os_at a within) ∙ found.2 in
      ap (spread_number os (kept i) (variables + i)) (sym found.2)
      ∙ number_at os (kept i) (variables + i) a size found.1 apart.once
      ∙ first_front (given_row i) (number rights i) a (omega (arith, within, row_long i low))
      ∙ sym (start_front i a low within) ∙ ap (number (start_row columns rights i)) at)
      (λ (none : (a : ℕ) → a < length os → get_or os a 0 ≢ k).
      let past : variables ≤ k =
      ⊎_elim (λ (e : k < variables). absurd (none k (omega (arith, e, os_long)) (os_at k e))) (λ (le : variables ≤ k). le) (cases_lt k variables) in
      ⊎_elim
      (λ (e : k ≡ variables + i).
      number_of_owner os (kept i) (variables + i) k size none e
      ∙ first_own (given_row i) (number rights i) variables (length os + 1) (row_long i low) (ap (λ n. n + 1) os_long)
      ∙ sym (start_behind i k past ∙ own_one rights i (k - variables) (omega (arith, e, low)) (omega (arith, e))))
      (λ (n : k ≢ variables + i).
      number_of_none os (kept i) (variables + i) k size none n
      ∙ sym (start_behind i k past ∙ own_zero rights i (k - variables) (omega (arith, past, most)) (λ e. n (omega (arith, e, past)))))
      (cases_eq k (variables + i)))
      (place_or_none os k (length os))

  first_whole : (i : ℕ) → i < m + 1 → spread os (variables + i) (variables + m) (kept i) ≡ start_row columns rights i
  first_whole i low =
      same_row (variables + m) (spread os (variables + i) (variables + m) (kept i)) (start_row columns rights i)
      (length-spread os (variables + i) (variables + m) (kept i)) (start_long i)
      (λ k most. number-spread os (variables + i) (variables + m) k (kept i) most ∙ first_number i k low most)
      (right-spread os (variables + i) (variables + m) (variables + m + 1) (kept i) refl
      ∙ first_right (given_row i) (number rights i) variables (length os) (row_long i low) os_long
      ∙ sym (start_behind i (variables + m + 1) (omega arith) ∙ own_right rights i (variables + m + 1 - variables) (omega arith)))

  first_row_is : (i : ℕ) → i < m + 1 → whole_row os numbers basis i ≡ start_row columns rights i
  first_row_is i low =
      ap₂ (λ (w n : ℕ). spread os (get_or (owners (v_of os basis) basis) i 0) n (piece w numbers i)) (ap (λ n. n + 2) os_long) v_is
      ∙ ap₂ (λ o row. spread os o (variables + m) row) (owner_at i low) (first.each i low)
      ∙ first_whole i low

  length_start_rows : length (start columns rights).rows ≡ m + 1
  unfolding start
  length_start_rows = length-map-range_with_len (start_row columns rights) 0 (m + 1)

  start_basis : (start columns rights).basis ≡ basis
  unfolding start
  start_basis = ap (λ n. range_with_len n m) (length-columns_of (m + 1) variables given)

  pub first_is : table_of os numbers basis ≡ start columns rights
  first_is =
      let t = table_of os numbers basis in
      let u = start columns rights in
      let size : length t.rows ≡ m + 1 = length_rows os numbers basis ∙ ap (λ n. n + 1) basis_long in
      ap₂ (λ (rs : List (List ℤ)) (bs : List ℕ). let u : Table = record { rows = rs; basis = bs } in u)
      (ext_get_or [] t.rows u.rows (size ∙ sym length_start_rows)
      (λ i l.
      let low : i < m + 1 = omega (arith, l, size) in
      row_at-table_of os numbers basis i (omega (arith, low, basis_long)) ∙ first_row_is i low ∙ sym (first_row columns rights i low)))
      (basis_of os numbers basis ∙ sym start_basis)

  pub first_stored : AreNarrow given → AreNarrow rights → variables + m + 2 < 2 ^ 32 → length numbers ≡ (m + 1) * (variables + 2)
      → IsStored os numbers basis
  first_stored narrow rights_narrow few size = record {
    rows = record {
      long = size ∙ ap₂ (λ h w. (h + 1) * (w + 2)) (sym basis_long) (sym os_long);
      each = λ i low.
          let within : i < m + 1 = omega (arith, low, basis_long) in
          subst IsReduced (sym (ap (λ n. piece (n + 2) numbers i) os_long ∙ first.each i within)) (first_reduced narrow rights_narrow i within);
    };
    columns = apart;
    few = omega (arith, v_is, few);
  }
