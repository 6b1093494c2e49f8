-- What is kept of one row after a pivot, where the rows are given as parts of all numbers.
use Rattle.std.proofs.Common.{◌≡◌, ◌≢◌, ℕ, ◌+◌, ◌<◌, true, List, length, ℤ, pos, unsigned_abs, ◌≤◌, sym, ap, ap₂, subst, ◌∙◌, arith}
use Rattle.std.proofs.lemmas.List.Elements.{All-from_get_or}
use Rattle.frac_rows.specs.Divisors.{reduced}
use Rattle.frac_rows.specs.Rows.{widest, number, eliminated, is_wide_row, AreNarrow}
use Rattle.frac_rows.specs.Stored.{Matrix, extended, piece, kept_row, whole_row, AreKept}
use Rattle.frac_rows.specs.Steps.{is_wide_whole, pivoted_whole, IsDivision, Follows, IsAfter, IsWideAfter, AreEntering}
use Rattle.frac_rows.proofs.Divided.{narrow_at}
use Rattle.frac_rows.proofs.Refined.{follows_divided, follows_reduced, wide_pivot}
use Rattle.frac_rows.proofs.WholeRows.{narrow_kept}

-- the row i and the base row r, and the numbers p and e of the base row and of this one in the column c
pub record AreMet (m : Matrix) (numbers : List ℤ) (r c i : ℕ) (base row : List ℤ) (p e : ℤ) : Type 0 where
  pub base_is : base ≡ kept_row m numbers r
  pub row_is : row ≡ kept_row m numbers i
  pub as_long : length base ≡ length row
  pub other : i ≢ r
  pub own : p ≡ number (whole_row m numbers r) c
  pub taken : e ≡ number (whole_row m numbers i) c

-- the numbers of all rows in a column are narrow
pub narrow_entering : (m : Matrix) (numbers entering : List ℤ) (c : ℕ) → AreKept m numbers → AreEntering m numbers c entering → AreNarrow entering
narrow_entering m numbers entering c kept all =
    All-from_get_or (λ x. unsigned_abs x ≤ widest) entering (pos 0)
    (λ i low.
    let within : i < m.height = omega (arith, all.one_each) in
    subst (λ x. unsigned_abs x ≤ widest) (sym (all.each i within)) (narrow_at (whole_row m numbers i) c (kept.narrow i within)))

pub row_is : (m : Matrix) (numbers row : List ℤ) (h i : ℕ) → row ≡ piece (h + 1) numbers i → h ≡ m.height → row ≡ kept_row m numbers i
row_is m numbers row h i is same = is ∙ ap (λ h. piece (h + 1) numbers i) same

pub narrow_part : (m : Matrix) (numbers row : List ℤ) (h i : ℕ) → row ≡ piece (h + 1) numbers i → h ≡ m.height → AreKept m numbers → i < m.height
    → AreNarrow row
narrow_part m numbers row h i is same kept within =
    subst AreNarrow (sym (row_is m numbers row h i is same)) (narrow_kept m.columns (kept_row m numbers i) (kept.narrow i within))

pub are_met : (m : Matrix) (numbers entering : List ℤ) (r c i h : ℕ) (base row : List ℤ) (p e : ℤ) → AreEntering m numbers c entering → r < m.height → i < m.height
    → i ≢ r → h ≡ m.height → base ≡ piece (h + 1) numbers r → row ≡ piece (h + 1) numbers i → length base ≡ length row
    → p ≡ number entering r → e ≡ number entering i → AreMet m numbers r c i base row p e
are_met m numbers entering r c i h base row p e all at_base at_row other same base_part row_part as_long own taken = record {
  base_is = row_is m numbers base h r base_part same;
  row_is = row_is m numbers row h i row_part same;
  as_long = as_long;
  other = other;
  own = own ∙ all.each r at_base;
  taken = taken ∙ all.each i at_row;
}

own_number : (m : Matrix) (numbers part : List ℤ) (c i : ℕ) (p : ℤ) → part ≡ kept_row m numbers i → p ≡ number (whole_row m numbers i) c
    → p ≡ number (extended m.columns part) c
own_number m numbers part c i p is own = own ∙ ap (λ x. number (extended m.columns x) c) (sym is)

after_follows : (m : Matrix) (numbers : List ℤ) (r c i : ℕ) (base row new : List ℤ) (p e : ℤ) → AreMet m numbers r c i base row p e
    → Follows m.columns base c row new → IsAfter m numbers r c i new
after_follows m numbers r c i base row new p e met follows = record {
  stays = λ same. absurd (met.other same);
  follows = λ _. subst (λ b. Follows m.columns b c (kept_row m numbers i) new) met.base_is (subst (λ x. Follows m.columns base c x new) met.row_is follows);
}

-- the row divided by some number is what the pivot makes of it
pub after_divided : (m : Matrix) (numbers : List ℤ) (r c i : ℕ) (base row new : List ℤ) (p e : ℤ) → AreMet m numbers r c i base row p e
    → IsDivision (eliminated p row e base) new → AreNarrow (extended m.columns new) → IsAfter m numbers r c i new
after_divided m numbers r c i base row new p e met divided narrow =
    after_follows m numbers r c i base row new p e met
    (follows_divided m.columns base row new c p e met.as_long (own_number m numbers base c r p met.base_is met.own)
    (own_number m numbers row c i e met.row_is met.taken) divided narrow)

-- so is the reduced one
pub after_reduced : (m : Matrix) (numbers : List ℤ) (r c i : ℕ) (base row new : List ℤ) (p e : ℤ) → AreMet m numbers r c i base row p e
    → new ≡ reduced (eliminated p row e base) → AreNarrow (extended m.columns new) → IsAfter m numbers r c i new
after_reduced m numbers r c i base row new p e met is narrow =
    after_follows m numbers r c i base row new p e met
    (follows_reduced m.columns base row new c p e met.as_long (own_number m numbers base c r p met.base_is met.own)
    (own_number m numbers row c i e met.row_is met.taken) is narrow)

-- where the reduced row is too wide, some row after the pivot is
pub wide_after : (m : Matrix) (numbers : List ℤ) (r c i : ℕ) (base row : List ℤ) (p e : ℤ) → AreMet m numbers r c i base row p e → i < m.height
    → is_wide_whole m.columns (eliminated p row e base) ≡ true → IsWideAfter m numbers r c
wide_after m numbers r c i base row p e met within wide = record {
  i = i;
  within = within;
  other = met.other;
  wide =
      sym (ap₂ (λ b x. is_wide_row (pivoted_whole m.columns b c x)) met.base_is met.row_is)
      ∙ wide_pivot m.columns base row c p e met.as_long (own_number m numbers base c r p met.base_is met.own)
      (own_number m numbers row c i e met.row_is met.taken) wide;
}
