-- What every table keeps that kept numbers stand for.
use Rattle.std.proofs.Common.{◌≡◌, ℕ, ◌+◌, ◌<◌, List, [], length, All, ℤ, sym, ap, subst, ◌∙◌, arith}
use Rattle.std.proofs.lemmas.List.Elements.{All-from_get_or, All-weaker}
use Rattle.frac_rows.specs.Rows.{row_at, objective, IsTable}
use Rattle.frac_rows.specs.Stored.{Matrix, piece, whole_row, table_of, AreKept, IsStored}
use Rattle.frac_rows.proofs.Quotients.{length-reduced}
use Rattle.frac_rows.proofs.Linear.{length-extended}
use Rattle.frac_rows.proofs.WholeRows.{length-piece, piece_within}
use Rattle.frac_rows.proofs.Pivots.{length_rows, row_at-table_of, basis_of, not_wide_table}

pub kept_length : (m : Matrix) (numbers : List ℤ) (i : ℕ) → AreKept m numbers → i < m.height → length (piece (m.height + 1) numbers i) ≡ m.height + 1
kept_length m numbers i kept low = length-piece (m.height + 1) numbers i (piece_within (m.height + 1) m.height i numbers kept.long low)

length_row : (m : Matrix) (numbers : List ℤ) (basis : List ℕ) (i : ℕ) → AreKept m numbers → i < m.height
    → length (row_at (table_of m numbers basis) i) ≡ length m.columns + m.height + 1
length_row m numbers basis i kept low =
    ap length (row_at-table_of m numbers basis i low) ∙ length-reduced (whole_row m numbers i)
    ∙ omega (arith, length-extended m.columns (piece (m.height + 1) numbers i), kept_length m numbers i kept low)

pub width_is : (m : Matrix) (numbers : List ℤ) (basis : List ℕ) → IsStored m numbers basis
    → length (objective (table_of m numbers basis)) ≡ length m.columns + m.height + 1
width_is m numbers basis stored =
    length_row m numbers basis (length (table_of m numbers basis).basis) stored.kept
    (omega (arith, ap length (basis_of m numbers basis), stored.one_each))

pub is_table : (m : Matrix) (numbers : List ℤ) (basis : List ℕ) → IsStored m numbers basis → IsTable (table_of m numbers basis)
is_table m numbers basis stored =
    let t = table_of m numbers basis in
    let width = width_is m numbers basis stored in
    let constraints : length t.basis ≡ length basis = ap length (basis_of m numbers basis) in
    record {
      one_objective = omega (arith, length_rows m numbers basis, stored.one_each, constraints);
      as_long =
          All-from_get_or (λ row. length row ≡ length (objective t)) t.rows []
          (λ i low. length_row m numbers basis i stored.kept (omega (arith, length_rows m numbers basis)) ∙ sym width);
      one_slack_each = omega (arith, width, stored.one_each, constraints);
      before_v =
          subst (λ b. All (λ c. c + 2 < length (objective t)) b) (sym (basis_of m numbers basis))
          (All-weaker (λ c. c + 1 < length m.columns + m.height) (λ c. c + 2 < length (objective t)) (λ c h. omega (arith, width)) basis stored.before_v);
      narrow = not_wide_table m numbers basis stored.kept;
    }
