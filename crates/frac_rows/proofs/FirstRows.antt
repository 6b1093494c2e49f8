-- The rows before the first pivot: what is kept of them, and that it stands for the table of the textbook.
use Rattle.std.proofs.Common.{◌≡◌, ℕ, zero, suc, ◌+◌, ◌-◌, ◌*◌, ◌^◌, ◌<◌, ◌≤◌, ◌≢◌, List, [], ◌∷◌, ◌++◌, map, length, get_or, All, eqb, cond, ℤ, pos, ◌+ℤ◌, ◌*ℤ◌, unsigned_abs, refl, sym, ap, ap₂, subst, ◌∙◌, ⊎_elim, arith}
use Rattle.std.specs.List.{range_with_len}
use borrow.Author.Count.{below_more}
use borrow.Rule.Slice.PartMut.{put_mid}
use Rattle.std.proofs.lemmas.Int.{ints}
use Rattle.std.proofs.lemmas.Bool.{cond-true, cond-false, eq-eqb, ne_eqb, cases_eq}
use Rattle.std.proofs.Math.Nat.{mul-le-mul_right}
use Rattle.std.proofs.lemmas.List.Sums.{sum_by-le}
use Rattle.std.proofs.lemmas.List.{map-id, length-append, get_or_append_left, get_or_push}
use Rattle.std.proofs.lemmas.List.Elements.{All-head, All-tail, All-from_get_or}
use Rattle.std.proofs.lemmas.List.FromFn.{length-map-range_with_len, get_or-map-range_with_len, map-range_with_len_more, length-range_with_len, get_or-range_with_len}
use Rattle.frac_rows.specs.Divisors.{divisor_of, reduced}
use Rattle.frac_rows.specs.Rows.{widest, number, AreNarrow}
use Rattle.frac_rows.specs.Starts.{unit, own_numbers, start_row, start}
use Rattle.frac_rows.specs.Stored.{dot, times, extended, piece, standing, columns_of, Matrix, whole_row, table_of, IsStored, AreFirst, AreTops}
use Rattle.frac_rows.proofs.Gcds.{divisor_of_one}
use Rattle.frac_rows.proofs.Quotients.{scale, times-reduced}
use Rattle.frac_rows.proofs.Refined.{divisor_of-extended, times_one}
use Rattle.frac_rows.proofs.WholeRows.{length-piece, piece_within, length-standing, standing_at, length-columns_of, get_or-columns_of, narrow_whole, variables_narrow}
use Rattle.frac_rows.proofs.Pieces.{piece_put, piece_kept}

-- ---- the numbers of one row

length-unit : (n i : ℕ) → length (unit n i) ≡ n
unfolding unit
length-unit n i = length-map-range_with_len (λ k. cond (eqb k i) (pos 1) (pos 0)) 0 n

number-unit : (n i k : ℕ) → k < n → number (unit n i) k ≡ cond (eqb k i) (pos 1) (pos 0)
unfolding unit
number-unit n i k low = get_or-map-range_with_len (λ k. cond (eqb k i) (pos 1) (pos 0)) 0 n k k (pos 0) low (omega arith)

pub length-own_numbers : (rights : List ℤ) (i : ℕ) → length (own_numbers rights i) ≡ length rights + 2
unfolding own_numbers
length-own_numbers rights i =
    omega (arith, length-append (unit (length rights + 1) i) (number rights i ∷ []), length-unit (length rights + 1) i)

own_front : (rights : List ℤ) (i k : ℕ) → k < length rights + 1 → number (own_numbers rights i) k ≡ cond (eqb k i) (pos 1) (pos 0)
unfolding own_numbers
own_front rights i k low =
    get_or_append_left (unit (length rights + 1) i) (number rights i ∷ []) (pos 0) k (omega (arith, length-unit (length rights + 1) i))
    ∙ number-unit (length rights + 1) i k low

pub own_one : (rights : List ℤ) (i k : ℕ) → k < length rights + 1 → k ≡ i → number (own_numbers rights i) k ≡ pos 1
own_one rights i k low e = own_front rights i k low ∙ cond-true (eqb k i) (pos 1) (pos 0) (eq-eqb k i e)

pub own_zero : (rights : List ℤ) (i k : ℕ) → k < length rights + 1 → k ≢ i → number (own_numbers rights i) k ≡ pos 0
own_zero rights i k low n = own_front rights i k low ∙ cond-false (eqb k i) (pos 1) (pos 0) (ne_eqb k i n)

pub own_right : (rights : List ℤ) (i k : ℕ) → k ≡ length rights + 1 → number (own_numbers rights i) k ≡ number rights i
unfolding own_numbers
own_right rights i k e =
    ap (number (unit (length rights + 1) i ++ number rights i ∷ [])) e
    ∙ get_or_push (unit (length rights + 1) i) (number rights i) (pos 0) (length rights + 1) (length-unit (length rights + 1) i)

-- ---- the rows that are written one after the other

pub first_more : (rights : List ℤ) (i s : ℕ) (numbers out : List ℤ) → i * (length rights + 2) ≤ length numbers
    → AreFirst rights i numbers → out ≡ own_numbers rights i
    → AreFirst rights (i + 1) (put_mid (i * (length rights + 2)) s numbers out)
first_more rights i s numbers out within before here =
    let w = length rights + 2 in
    let new = put_mid (i * w) s numbers out in
    let size : length out ≡ w = ap length here ∙ length-own_numbers rights i in
    record {
      each =
          below_more (λ k. piece w new k ≡ own_numbers rights k) i (λ k l. piece_kept w i k s numbers out within l ∙ before.each k l)
          (piece_put w i s numbers out within size ∙ here);
    }

-- ---- the whole rows

dot_nil : (xs : List ℤ) → dot xs [] ≡ pos 0
dot_nil [] = refl
dot_nil (x ∷ xs) = refl

units_from : ℕ → ℕ → ℕ → List ℤ
units_from a n i = map (λ k. cond (eqb k i) (pos 1) (pos 0)) (range_with_len a n)

dot_behind : (a n i : ℕ) (ys column : List ℤ) → i < a → length column ≤ n → dot (units_from a n i ++ ys) column ≡ pos 0
unfolding units_from
dot_behind a n i ys [] past long = dot_nil (units_from a n i ++ ys)
dot_behind a zero i ys (y ∷ column) past long = absurd (omega arith)
dot_behind a (suc n) i ys (y ∷ column) past long =
    let none : cond (eqb a i) (pos 1) (pos 0) ≡ pos 0 = cond-false (eqb a i) (pos 1) (pos 0) (ne_eqb a i (λ e. omega arith)) in
    ap (λ z. z *ℤ y +ℤ dot (units_from (a + 1) n i ++ ys) column) none
    ∙ omega (arith, ints, dot_behind (a + 1) n i ys column (omega arith) (omega arith))

dot_units : (a n i : ℕ) (ys column : List ℤ) → a ≤ i → length column ≤ n → dot (units_from a n i ++ ys) column ≡ number column (i - a)
unfolding units_from
dot_units a n i ys [] low long = dot_nil (units_from a n i ++ ys)
dot_units a zero i ys (y ∷ column) low long = absurd (omega arith)
dot_units a (suc n) i ys (y ∷ column) low long =
    ⊎_elim
    (λ e.
    let one : cond (eqb a i) (pos 1) (pos 0) ≡ pos 1 = cond-true (eqb a i) (pos 1) (pos 0) (eq-eqb a i e) in
    let first : i - a ≡ 0 = omega arith in
    ap (λ z. z *ℤ y +ℤ dot (units_from (a + 1) n i ++ ys) column) one
    ∙ omega (arith, ints, dot_behind (a + 1) n i ys column (omega arith) (omega arith))
    ∙ ap (number (y ∷ column)) (sym first))
    (λ n'.
    let none : cond (eqb a i) (pos 1) (pos 0) ≡ pos 0 = cond-false (eqb a i) (pos 1) (pos 0) (ne_eqb a i n') in
    let later : i - a ≡ suc (i - (a + 1)) = omega arith in
    ap (λ z. z *ℤ y +ℤ dot (units_from (a + 1) n i ++ ys) column) none
    ∙ omega (arith, ints, dot_units (a + 1) n i ys column (omega arith) (omega arith))
    ∙ ap (number (y ∷ column)) (sym later))
    (cases_eq a i)

-- the number of a variable in the row
pub dot-own_numbers : (rights : List ℤ) (i : ℕ) (column : List ℤ) → length column ≡ length rights + 1 → dot (own_numbers rights i) column ≡ number column i
unfolding own_numbers unit units_from
dot-own_numbers rights i column long = dot_units 0 (length rights + 1) i (number rights i ∷ []) column (omega arith) (omega arith) ∙ ap (number column) (omega arith)

-- ---- the tops, and the columns of the slacks

-- the tops of the first rows, and the next one's
pub tops_more : (variables : ℕ) (numbers : List ℤ) (tops : List ℕ) (n top : ℕ) → length tops ≡ n
    → ((k : ℕ) → k < n → All (λ x. unsigned_abs x ≤ get_or tops k 0) (piece variables numbers k))
    → All (λ x. unsigned_abs x ≤ top) (piece variables numbers n)
    → (k : ℕ) → k < n + 1 → All (λ x. unsigned_abs x ≤ get_or (tops ++ top ∷ []) k 0) (piece variables numbers k)
tops_more variables numbers tops n top long before here =
    below_more (λ k. All (λ x. unsigned_abs x ≤ get_or (tops ++ top ∷ []) k 0) (piece variables numbers k)) n
    (λ k low.
    subst (λ t. All (λ x. unsigned_abs x ≤ t) (piece variables numbers k)) (sym (get_or_append_left tops (top ∷ []) 0 k (omega arith))) (before k low))
    (subst (λ t. All (λ x. unsigned_abs x ≤ t) (piece variables numbers n)) (sym (get_or_push tops top 0 n long)) here)

pub tops_are : (height variables : ℕ) (numbers : List ℤ) (tops : List ℕ) → height < 2 ^ 32 → length numbers ≡ height * variables → length tops ≡ height
    → ((k : ℕ) → k < height → All (λ x. unsigned_abs x ≤ get_or tops k 0) (piece variables numbers k)) → All (λ t. t ≤ 2 ^ 32) tops
    → AreTops height variables numbers tops
tops_are height variables numbers tops few whole long under limit = record {
  one_top_each = long;
  under = λ j column k low.
      let row : k < height = omega (arith, low, long) in
      let size = length-piece variables numbers k (piece_within variables height k numbers whole row) in
      subst (λ x. unsigned_abs x ≤ get_or tops k 0) (sym (standing_at numbers variables height j k row)) (under k row j (pos 0) (omega (arith, column, size)));
  room =
      let whole = sum_by-le (λ n. n) (2 ^ 32) tops limit in
      let most : length tops * 2 ^ 32 ≤ 2 ^ 32 * 2 ^ 32 = mul-le-mul_right {n = 2 ^ 32} (2 ^ 32) (omega arith) in
      omega (arith, whole, most);
}

pub range_more : (a n : ℕ) → range_with_len a (n + 1) ≡ range_with_len a n ++ (a + n) ∷ []
range_more a n = sym (map-id (range_with_len a (n + 1))) ∙ map-range_with_len_more (λ k. k) a n (a + n) refl ∙ ap (λ xs. xs ++ (a + n) ∷ []) (map-id (range_with_len a n))

-- ---- the table before the first pivot

map_agree_on : {X Y : Type 0} (f g : X → Y) (xs : List X) → All (λ x. f x ≡ g x) xs → map f xs ≡ map g xs
map_agree_on f g [] same = refl
map_agree_on f g (x ∷ xs) same =
    ap₂ (λ y ys. y ∷ ys) (All-head (λ x. f x ≡ g x) x xs same) (map_agree_on f g xs (All-tail (λ x. f x ≡ g x) x xs same))

long_columns : (h v : ℕ) (flat : List ℤ) → All (λ column. length column ≡ h) (columns_of h v flat)
long_columns h v flat =
    All-from_get_or (λ column. length column ≡ h) (columns_of h v flat) []
    (λ j low.
    let less : j < v = omega (arith, length-columns_of h v flat) in
    ap length (get_or-columns_of h v flat j less) ∙ length-standing flat v h j)

-- a row with a number 1 is reduced
reduced_with_one : (row : List ℤ) → divisor_of row ≡ 1 → reduced row ≡ row
reduced_with_one row e =
    let unit : scale row ≡ 1 = omega (arith, e) in
    sym (times_one (reduced row)) ∙ ap (λ g. times (pos g) (reduced row)) (sym unit) ∙ times-reduced row

whole_first : (rights : List ℤ) (columns : List (List ℤ)) (i : ℕ) → i < length rights + 1
    → All (λ column. length column ≡ length rights + 1) columns
    → extended columns (own_numbers rights i) ≡ start_row columns rights i
unfolding extended start_row
whole_first rights columns i low long =
    ap (λ xs. xs ++ own_numbers rights i)
    (map_agree_on (dot (own_numbers rights i)) (λ column. number column i) columns (λ k d l. dot-own_numbers rights i _ (long k d l)))

reduced_first : (rights : List ℤ) (columns : List (List ℤ)) (i : ℕ) → i < length rights + 1
    → All (λ column. length column ≡ length rights + 1) columns
    → reduced (extended columns (own_numbers rights i)) ≡ start_row columns rights i
reduced_first rights columns i low long =
    reduced_with_one (extended columns (own_numbers rights i))
    (divisor_of-extended columns (own_numbers rights i)
    ∙ divisor_of_one (own_numbers rights i) i (omega (arith, length-own_numbers rights i)) (own_one rights i i low refl))
    ∙ whole_first rights columns i low long

pub start_is : (rights flat numbers : List ℤ) (variables : ℕ) → AreFirst rights (length rights + 1) numbers
    → table_of (record { height = length rights + 1; columns = columns_of (length rights + 1) variables flat }) numbers (range_with_len variables (length rights))
    ≡ start (columns_of (length rights + 1) variables flat) rights
unfolding table_of start
start_is rights flat numbers variables first =
    let h = length rights + 1 in
    let columns = columns_of h variables flat in
    let m : Matrix = record { height = h; columns = columns } in
    let at : (i : ℕ) → i < h → reduced (whole_row m numbers i) ≡ start_row columns rights i =
    λ i low.
    ap (λ p. reduced (extended columns p)) (ap (λ w. piece w numbers i) (omega arith) ∙ first.each i low)
    ∙ reduced_first rights columns i low (long_columns h variables flat) in
    ap₂ (λ (rs : List (List ℤ)) (bs : List ℕ). record { rows = rs; basis = bs })
    (map_agree_on (λ i. reduced (whole_row m numbers i)) (start_row columns rights) (range_with_len 0 h)
    (All-from_get_or (λ i. reduced (whole_row m numbers i) ≡ start_row columns rights i) (range_with_len 0 h) 0
    (λ k low.
    let less : k < h = omega (arith, length-range_with_len 0 h) in
    let is : get_or (range_with_len 0 h) k 0 ≡ k = get_or-range_with_len 0 h k 0 less ∙ omega arith in
    subst (λ i. reduced (whole_row m numbers i) ≡ start_row columns rights i) (sym is) (at k less))))
    (ap (range_with_len variables) refl ∙ ap (λ v. range_with_len v (length rights)) (sym (length-columns_of h variables flat)))

-- ---- and what is kept of it is within the limits

below_at : (b : ℕ) (xs : List ℤ) (c : ℕ) → All (λ x. unsigned_abs x ≤ b) xs → unsigned_abs (number xs c) ≤ b
below_at b [] c h = omega arith
below_at b (x ∷ xs) zero h = All-head (λ x. unsigned_abs x ≤ b) x xs h
below_at b (x ∷ xs) (suc c) h = below_at b xs c (All-tail (λ x. unsigned_abs x ≤ b) x xs h)

pub own_narrow : (rights : List ℤ) (i : ℕ) → All (λ x. unsigned_abs x ≤ widest) rights → AreNarrow (own_numbers rights i)
own_narrow rights i limit =
    All-from_get_or (λ x. unsigned_abs x ≤ widest) (own_numbers rights i) (pos 0)
    (λ k low.
    ⊎_elim
    (λ last. subst (λ x. unsigned_abs x ≤ widest) (sym (own_right rights i k last)) (below_at widest rights i limit))
    (λ front.
    let less : k < length rights + 1 = omega (arith, length-own_numbers rights i) in
    ⊎_elim
    (λ e. subst (λ x. unsigned_abs x ≤ widest) (sym (own_one rights i k less e)) (omega arith))
    (λ n. subst (λ x. unsigned_abs x ≤ widest) (sym (own_zero rights i k less n)) (omega arith))
    (cases_eq k i))
    (cases_eq k (length rights + 1)))

pub stored_first : (rights flat numbers : List ℤ) (variables : ℕ) (tops : List ℕ)
    → AreTops (length rights + 1) variables flat tops → All (λ t. t ≤ 2 ^ 32) tops → All (λ x. unsigned_abs x ≤ widest) rights
    → length numbers ≡ (length rights + 1) * (length rights + 2) → AreFirst rights (length rights + 1) numbers
    → IsStored (record { height = length rights + 1; columns = columns_of (length rights + 1) variables flat }) numbers (range_with_len variables (length rights))
stored_first rights flat numbers variables tops are limit rights_limit size first =
    let h = length rights + 1 in
    let columns = columns_of h variables flat in
    let m : Matrix = record { height = h; columns = columns } in
    record {
      kept = record {
        long = size ∙ ap (λ w. h * w) (omega arith);
        narrow =
            λ i low.
            subst (λ p. AreNarrow (extended columns p)) (sym (ap (λ w. piece w numbers i) (omega arith) ∙ first.each i low))
            (narrow_whole columns (own_numbers rights i) (own_narrow rights i rights_limit)
            (variables_narrow h variables flat (own_numbers rights i)
            (λ k l.
            let is = dot-own_numbers rights i (standing flat variables h k) (length-standing flat variables h k) in
            let has_top : i < length tops = omega (arith, low, are.one_top_each) in
            let top : get_or tops i 0 ≤ 2 ^ 32 = limit i 0 has_top in
            let small : unsigned_abs (number (standing flat variables h k) i) ≤ get_or tops i 0 = are.under k l i has_top in
            subst (λ x. unsigned_abs x ≤ widest) (sym is) (omega (arith, small, top)))));
      };
      one_each = ap (λ n. n + 1) (length-range_with_len variables (length rights));
      before_v =
          All-from_get_or (λ c. c + 1 < length columns + h) (range_with_len variables (length rights)) 0
          (λ k low.
          let less : k < length rights = omega (arith, length-range_with_len variables (length rights)) in
          let is = get_or-range_with_len variables (length rights) k 0 less in
          omega (arith, is, length-columns_of h variables flat));
    }
