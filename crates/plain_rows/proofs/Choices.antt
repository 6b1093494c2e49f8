-- The column that enters and the row that leaves, by what is kept of the rows.
use Rattle.std.proofs.Common.{◌≡◌, ◌≢◌, ℕ, ◌+◌, ◌-◌, ◌<◌, ◌≤◌, true, false, Bool, List, length, get_or, ℤ, pos, ◌<ℤ◌, ◌≤ℤ◌, Option, None, Some, refl, sym, ap, ap₂, subst, ◌∙◌, ⊎_elim, arith}
use Rattle.std.specs.Int.{is_negative, is_positive}
use Rattle.std.specs.Option.{option_map}
use Rattle.std.proofs.lemmas.Int.{ints, by_lt_z}
use Rattle.std.proofs.lemmas.Bool.{cases_eq, cases_Bool}
use Rattle.frac_rows.specs.Rows.{number, right_side, row_at, first_negative, entering, is_sooner, leaves_before, leaving_of, leaving}
use Rattle.frac_rows.specs.Stored.{piece}
use Rattle.frac_rows.proofs.WholeRows.{first_negative_is, first_negative_none}
use Rattle.plain_rows.specs.Choices.{IsLeastBelow}
use Rattle.plain_rows.specs.Flat.{spread_number, owners, v_of, width_of, whole_row, table_of, IsStored}
use Rattle.plain_rows.proofs.Spread.{place_or_none, number_at, number_of_none, number-spread}
use Rattle.plain_rows.proofs.Columns.{owner_last}
use Rattle.plain_rows.proofs.FlatTables.{basis_of, objective-table_of, length-whole_row, length_row, number_at_place, right_is}

-- ---- the place of the least column with a number below 0

pub least_kept : (os : List ℕ) (row : List ℤ) (c b : ℕ) → IsLeastBelow os row c (Some b) → get_or os b 0 ≤ get_or os c 0
    → IsLeastBelow os row (c + 1) (Some b)
least_kept os row c b least before = (
  omega (arith, least.0),
  least.1,
  λ a l n. ⊎_elim
      (λ (e : a ≡ c). subst (λ x. get_or os b 0 ≤ get_or os x 0) (sym e) before)
      (λ (other : a ≢ c). least.2 a (omega (arith, l, other)) n)
      (cases_eq a c),
)

-- ---- the column that enters

not_negative : (z : ℤ) → pos 0 ≤ℤ z → is_negative z ≡ false
not_negative z high =
    ⊎_elim (λ (e : is_negative z ≡ true). absurd (omega (arith, ints, e, high))) (λ (e : is_negative z ≡ false). e) (cases_Bool (is_negative z))

negative : (z : ℤ) → z <ℤ pos 0 → is_negative z ≡ true
negative z low =
    ⊎_elim (λ (e : is_negative z ≡ true). e) (λ (e : is_negative z ≡ false). absurd (omega (arith, ints, e, low))) (cases_Bool (is_negative z))

module _ (os : List ℕ) (numbers : List ℤ) (basis : List ℕ) (stored : IsStored os numbers basis) where
  abbrev v : ℕ
  v = v_of os basis

  abbrev kept : List ℤ
  kept = piece (width_of os) numbers (length basis)

  abbrev whole : List ℤ
  whole = whole_row os numbers basis (length basis)

  kept_long : length kept ≡ length os + 2
  kept_long = length_row (width_of os) (length basis + 1) (length basis) numbers stored.rows (omega arith)

  -- the number in a column before v's
  front_number : (k : ℕ) → k < v → number whole k ≡ spread_number os kept v k
  front_number k low =
      number-spread os (get_or (owners v basis) (length basis) 0) v k kept (omega (arith, low))
      ∙ ap (λ o. spread_number os kept o k) (owner_last v basis (length basis) refl)

  at_place : (c : ℕ) → c < length os → number whole (get_or os c 0) ≡ number kept c
  at_place c low = front_number (get_or os c 0) (stored.columns.outside_low c low) ∙ number_at os kept v c kept_long low stored.columns.once

  at_none : (k : ℕ) → k < v → ((a : ℕ) → a < length os → get_or os a 0 ≢ k) → number whole k ≡ pos 0
  at_none k low none = front_number k low ∙ number_of_none os kept v k kept_long none (omega (arith, low))

  -- a column whose number is below 0 has a place
  not_below : (k : ℕ) (best : Option ℕ) → IsLeastBelow os kept (length os) best → k < v
      → ((a : ℕ) → a < length os → get_or os a 0 ≡ k → pos 0 ≤ℤ number kept a) → is_negative (number whole k) ≡ false
  not_below k best least low each =
      ⊎_elim
      (λ (found : (a : ℕ) × (a < length os) × (get_or os a 0 ≡ k)).
      let high = each found.0 found.1 found.2 in
      let is : number whole k ≡ number kept found.0 = ap (number whole) (sym found.2) ∙ at_place found.0 found.1 in
      ap is_negative is ∙ not_negative (number kept found.0) high)
      (λ (none : (a : ℕ) → a < length os → get_or os a 0 ≢ k). ap is_negative (at_none k low none))
      (place_or_none os k (length os))

  first_is : (best : Option ℕ) → IsLeastBelow os kept (length os) best → option_map (λ c. get_or os c 0) best ≡ first_negative whole
  first_is None none =
      sym (first_negative_none whole
      (λ k low. not_below k None none (omega (arith, low, length-whole_row os numbers basis (length basis))) (λ a l e. none a l)))
  first_is (Some b) least =
      let column = get_or os b 0 in
      let below = stored.columns.outside_low b least.0 in
      let size = length-whole_row os numbers basis (length basis) in
      let is = at_place b least.0 in
      let low = least.1 in
      sym (first_negative_is whole column (omega (arith, size, below))
      (λ k l.
      not_below k (Some b) least (omega (arith, l, below))
      (λ a m e.
      by_lt_z (number kept a) (pos 0) (λ less. let more = least.2 a m less in absurd (omega (arith, more, e, l))) (λ high. high)))
      (ap is_negative is ∙ negative (number kept b) low))

  pub entering_is : (best : Option ℕ) → IsLeastBelow os kept (length os) best
      → option_map (λ c. get_or os c 0) best ≡ entering (table_of os numbers basis)
  entering_is best least = first_is best least ∙ ap first_negative (sym (objective-table_of os numbers basis))

-- ---- the row that leaves

pub last_but_one : (row : List ℤ) (n : ℕ) → length row ≡ n + 2 → number row (length row - 2) ≡ number row n
last_but_one row n long = ap (λ m. number row (m - 2)) long ∙ ap (number row) (less n)
  where
    less : (n : ℕ) → n + 2 - 2 ≡ n
    less n = omega arith

-- what decides of two kept rows decides of the table's rows
pub leaves_is : (os : List ℕ) (numbers : List ℤ) (basis : List ℕ) (c i j : ℕ) (one other : List ℤ) → IsStored os numbers basis → c < length os
    → i < length basis → j < length basis → one ≡ piece (width_of os) numbers i → other ≡ piece (width_of os) numbers j
    → is_sooner (number one (length os)) (number one c) (get_or basis i 0) (number other (length os)) (number other c) (get_or basis j 0)
    ≡ leaves_before (table_of os numbers basis) (get_or os c 0) i j
unfolding leaves_before
leaves_is os numbers basis c i j one other stored place low below is of_other =
    let t = table_of os numbers basis in
    let by : ℤ → ℤ → ℤ → ℤ → List ℕ → Bool = λ r n s m b. is_sooner r n (get_or b i 0) s m (get_or b j 0) in
    ap₂ (λ r n. by r n (number other (length os)) (number other c) basis)
    (ap (λ x. number x (length os)) is ∙ sym (right_is os numbers basis i (omega (arith, low))))
    (ap (λ x. number x c) is ∙ sym (number_at_place os numbers basis i c stored (omega (arith, low)) place))
    ∙ ap₂ (λ r n. by (right_side (row_at t i)) (number (row_at t i) (get_or os c 0)) r n basis)
    (ap (λ x. number x (length os)) of_other ∙ sym (right_is os numbers basis j (omega (arith, below))))
    (ap (λ x. number x c) of_other ∙ sym (number_at_place os numbers basis j c stored (omega (arith, below)) place))
    ∙ ap (by (right_side (row_at t i)) (number (row_at t i) (get_or os c 0)) (right_side (row_at t j)) (number (row_at t j) (get_or os c 0)))
    (sym (basis_of os numbers basis))

-- whether a number of a row is above 0
pub positive_is : (os : List ℕ) (numbers : List ℤ) (basis : List ℕ) (c i : ℕ) (part : List ℤ) (b : Bool) → IsStored os numbers basis → c < length os
    → i < length basis → part ≡ piece (width_of os) numbers i → is_positive (number part c) ≡ b
    → is_positive (number (row_at (table_of os numbers basis) i) (get_or os c 0)) ≡ b
positive_is os numbers basis c i part b stored place low is e =
    ap is_positive (number_at_place os numbers basis i c stored (omega (arith, low)) place ∙ sym (ap (λ x. number x c) is)) ∙ e

pub leaving_all : (os : List ℕ) (numbers : List ℤ) (basis : List ℕ) (c n : ℕ) → n ≡ length basis
    → leaving_of (table_of os numbers basis) c n ≡ leaving (table_of os numbers basis) c
unfolding leaving
leaving_all os numbers basis c n e = ap (leaving_of (table_of os numbers basis) c) (e ∙ ap length (sym (basis_of os numbers basis)))
