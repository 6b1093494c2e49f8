-- A linear program as it is written, number by number, and its table.
use Rattle.std.proofs.Common.{◌≡◌, ℕ, zero, suc, ◌+◌, ◌*◌, ◌/◌, ◌%◌, ◌<◌, ◌≤◌, List, [], ◌∷◌, All, map, length, get_or, Vec, Global, ℤ, pos, ◌-ℤ◌, unsigned_abs, sym, ap, ap₂, subst, ◌∙◌, arith}
use Rattle.std.specs.List.{range_with_len}
use borrow.Author.Count.{below_more}
use borrow.Rule.Slice.PartMut.{put_mid}
use Rattle.std.proofs.Math.Nat.{mul-zero, mod-lt, div-lt_iff_lt-mul}
use Rattle.std.proofs.lemmas.Nat.{div-add-mod'}
use Rattle.std.proofs.lemmas.List.{length-map, length-append, get_or-map, get_or_append_left, get_or_push, ext_get_or}
use Rattle.std.proofs.lemmas.List.Elements.{All-from_get_or}
use Rattle.std.proofs.lemmas.List.FromFn.{length-map-range_with_len, get_or-map-range_with_len}
use Rattle.frac_rows.specs.Rows.{widest, number, right_side, AreNarrow}
use Rattle.frac_rows.specs.Starts.{start}
use Rattle.frac_rows.specs.Stored.{piece, standing, columns_of}
use Rattle.frac_rows.proofs.Divided.{narrow_at}
use Rattle.frac_rows.proofs.Pieces.{piece_put, piece_kept}
use Rattle.frac_rows.proofs.WholeRows.{standing_at, length-standing, length-columns_of, get_or-columns_of}
use Rattle.plain_rows.proofs.Spread.{number_of_piece}
use Rattle.plain_rows.specs.Plain.{column_of, plain_table, IsConstraint, IsGivenRow, AreGiven}

-- numbers whose pieces are narrow are narrow
narrow_pieces : (h w : ℕ) (flat : List ℤ) → length flat ≡ h * w → ((i : ℕ) → i < h → AreNarrow (piece w flat i)) → AreNarrow flat
narrow_pieces h zero flat long each = All-from_get_or (λ x. unsigned_abs x ≤ widest) flat (pos 0) (λ k low. absurd (omega (arith, low, long, mul-zero h)))
narrow_pieces h (suc n) flat long each =
    let w = suc n in
    All-from_get_or (λ x. unsigned_abs x ≤ widest) flat (pos 0)
    (λ k low.
    let row : k / w < h = (div-lt_iff_lt-mul {k = w} {x = k} {y = h} (omega arith)).1 (subst (λ z. k < z) long low) in
    let column : k % w < w = mod-lt k (omega arith) in
    subst (λ x. unsigned_abs x ≤ widest)
    (number_of_piece w flat (k / w) (k % w) column ∙ ap (number flat) (div-add-mod' k w))
    (narrow_at (piece w flat (k / w)) (k % w) (each (k / w) row)))

module _ (constraints : List (List ℤ)) (objective : List ℤ) where
  abbrev variables : ℕ
  variables = length objective

  abbrev columns : List (List ℤ)
  columns = map (column_of constraints objective) (range_with_len 0 variables)

  -- ---- the numbers of a variable

  pub constraint_number : (i k : ℕ) → i < length constraints
      → number (column_of constraints objective k) i ≡ number (get_or constraints i []) k
  constraint_number i k low =
      get_or_append_left (map (λ row. number row k) constraints) ((pos 0 -ℤ number objective k) ∷ []) (pos 0) i
      (omega (arith, length-map constraints (λ row. number row k)))
      ∙ get_or-map (λ row. number row k) constraints i [] (pos 0) low

  pub objective_number : (i k : ℕ) → i ≡ length constraints → number (column_of constraints objective k) i ≡ pos 0 -ℤ number objective k
  objective_number i k e =
      get_or_push (map (λ row. number row k) constraints) (pos 0 -ℤ number objective k) (pos 0) i (length-map constraints (λ row. number row k) ∙ sym e)

  length_column : (k : ℕ) → length (column_of constraints objective k) ≡ length constraints + 1
  length_column k =
      length-append (map (λ row. number row k) constraints) ((pos 0 -ℤ number objective k) ∷ [])
      ∙ omega (arith, length-map constraints (λ row. number row k))

  -- ---- the table

  given_columns : (h : ℕ) (given : List ℤ) → h ≡ length constraints + 1 → AreGiven constraints objective h given
      → columns_of h variables given ≡ columns
  given_columns h given height are =
      ext_get_or [] (columns_of h variables given) columns
      (length-columns_of h variables given ∙ sym (length-map-range_with_len (column_of constraints objective) 0 variables))
      (λ k l.
      let low : k < variables = omega (arith, l, length-columns_of h variables given) in
      get_or-columns_of h variables given k low
      ∙ ext_get_or (pos 0) (standing given variables h k) (column_of constraints objective k)
      (length-standing given variables h k ∙ height ∙ sym (length_column k))
      (λ i less.
      let row : i < h = omega (arith, less, length-standing given variables h k) in
      standing_at given variables h k i row ∙ (are.each i row).each k low)
      ∙ sym (get_or-map-range_with_len (column_of constraints objective) 0 variables k k [] low (omega arith)))

  pub given_is : (h : ℕ) (given rights : List ℤ) → h ≡ length constraints + 1 → AreGiven constraints objective h given
      → rights ≡ map right_side constraints → start (columns_of h variables given) rights ≡ plain_table constraints objective
  unfolding plain_table
  given_is h given rights height are of_rights = ap₂ start (given_columns h given height are) of_rights

  pub given_narrow : (h : ℕ) (given : List ℤ) → length given ≡ h * variables → AreGiven constraints objective h given → AreNarrow given
  given_narrow h given long are =
      narrow_pieces h variables given long (λ i low. (are.each i low).narrow)

-- the rows that are written one after the other
pub given_more : (constraints : List (List ℤ)) (objective : List ℤ) (i s : ℕ) (given out : List ℤ)
    → i * length objective ≤ length given → AreGiven constraints objective i given → IsGivenRow constraints objective i out
    → AreGiven constraints objective (i + 1) (put_mid (i * length objective) s given out)
given_more constraints objective i s given out within before here =
    let w = length objective in
    record {
      each =
          below_more (λ k. IsGivenRow constraints objective k (piece w (put_mid (i * w) s given out) k)) i
          (λ k l. subst (IsGivenRow constraints objective k) (sym (piece_kept w i k s given out within l)) (before.each k l))
          (subst (IsGivenRow constraints objective i) (sym (piece_put w i s given out within here.long)) here);
    }

pub right_number : (constraints : List (List ℤ)) (i : ℕ) → i < length constraints
    → number (map right_side constraints) i ≡ right_side (get_or constraints i [])
right_number constraints i low = get_or-map right_side constraints i [] (pos 0) low

-- ---- the constraints as they are given

abbrev pub numbers_of : List (Vec ℤ Global) → List (List ℤ)
numbers_of constraints = map (λ v. v.items) constraints

-- the constraint that is read is one of them
pub read_is : (constraints : List (Vec ℤ Global)) (i : ℕ) (row : List ℤ) (read : Vec ℤ Global) → i < length constraints
    → read ≡ get_or constraints i read → row ≡ read.items → row ≡ get_or (numbers_of constraints) i []
read_is constraints i row read low at is =
    is ∙ ap (λ (v : Vec ℤ Global). v.items) at ∙ sym (get_or-map (λ (v : Vec ℤ Global). v.items) constraints i read [] low)

pub read_constraint : (variables : ℕ) (constraints : List (Vec ℤ Global)) (i : ℕ) (row : List ℤ) (read : Vec ℤ Global)
    → All (IsConstraint variables) (numbers_of constraints) → i < length constraints → read ≡ get_or constraints i read → row ≡ read.items
    → IsConstraint variables row
read_constraint variables constraints i row read each low at is =
    subst (IsConstraint variables) (sym (read_is constraints i row read low at is))
    (each i [] (omega (arith, low, length-map constraints (λ (v : Vec ℤ Global). v.items))))

pub length_of : (constraints : List (Vec ℤ Global)) → length (numbers_of constraints) ≡ length constraints
length_of constraints = length-map constraints (λ v. v.items)

pub length_rights_of : (constraints : List (Vec ℤ Global)) → length (map right_side (numbers_of constraints)) ≡ length constraints
length_rights_of constraints = length-map (numbers_of constraints) right_side ∙ length_of constraints
