-- What a step of a run does where it goes on, and what is kept through a run.
use Rattle.std.proofs.Common.{◌≡◌, ℕ, zero, suc, ◌+◌, ◌<◌, Bool, true, false, [], length, set, All, Option, Some, None, refl, sym, ap, subst, ◌∙◌, arith}
use Rattle.std.proofs.lemmas.List.Elements.{All-set, All-from_get_or}
use Rattle.frac_rows.specs.Rows.{Table, objective, after_pivot, is_wide, entering, leaving, IsTable}
use Rattle.frac_rows.specs.Runs.{Step, goes, ends, unless_wide, step_at, step_by, step, run_on}
use Rattle.frac_rows.specs.Theorems.{IsPlace}
use Rattle.frac_rows.proofs.LeavingRows.{IsFirst, leaving_first}
use Rattle.frac_rows.proofs.Solutions.{length_after_at, constraints_after, width_after}
use Rattle.frac_rows.proofs.Pivots.{length_after, basis_after}
use Rattle.frac_rows.proofs.RunSteps.{first_negative_within, run_ends, run_goes_suc, stopped}

-- ---- a step that goes on

-- it makes the pivot on the column that enters and the row that leaves
pub record IsMove (t u : Table) : Type 0 where
  pub column : ℕ
  pub row : ℕ
  pub enters : entering t ≡ Some column
  pub leaves : leaving t column ≡ Some row
  pub is : u ≡ after_pivot t row column
  pub narrow : is_wide u ≡ false

move_unless : (t u : Table) (c r : ℕ) (b : Bool) → entering t ≡ Some c → leaving t c ≡ Some r → is_wide (after_pivot t r c) ≡ b
    → unless_wide (after_pivot t r c) b ≡ goes u → IsMove t u
move_unless t u c r true enters leaves wide is = absurd (cc)
move_unless t u c r false enters leaves wide is =
    let same : after_pivot t r c ≡ u = cc in
    record { column = c; row = r; enters = enters; leaves = leaves; is = sym same; narrow = ap is_wide (sym same) ∙ wide }

move_at : (t u : Table) (c : ℕ) (o : Option ℕ) → entering t ≡ Some c → leaving t c ≡ o → step_at t c o ≡ goes u → IsMove t u
move_at t u c None enters leaves is = absurd (cc)
move_at t u c (Some r) enters leaves is = move_unless t u c r (is_wide (after_pivot t r c)) enters leaves refl is

move_by : (t u : Table) (o : Option ℕ) → entering t ≡ o → step_by t o ≡ goes u → IsMove t u
move_by t u None enters is = absurd (cc)
move_by t u (Some c) enters is = move_at t u c (leaving t c) enters refl is

pub move_of : (t u : Table) → step t ≡ goes u → IsMove t u
unfolding step
move_of t u is = move_by t u (entering t) refl is

-- where it can be made
pub move_place : (t u : Table) (m : IsMove t u) → IsPlace t m.row m.column
move_place t u m =
    let first = leaving_first t m.column m.row m.leaves in
    record {
      constraint = first.within;
      before_v = (first_negative_within (objective t) m.column m.enters).0;
      above = first.above;
    }

-- and it leaves a table
pub table_after : (t : Table) (r c : ℕ) → IsTable t → IsPlace t r c → is_wide (after_pivot t r c) ≡ false → IsTable (after_pivot t r c)
table_after t r c table place narrow =
    let u = after_pivot t r c in
    let width = width_after t r c table place.constraint in
    let constraints = constraints_after t r c in
    record {
      one_objective = length_after t r c ∙ table.one_objective ∙ ap (λ n. n + 1) (sym constraints);
      as_long =
          All-from_get_or (λ row. length row ≡ length (objective u)) u.rows []
          (λ i l. length_after_at t r c i table place.constraint (omega (arith, length_after t r c, table.one_objective)) ∙ sym width);
      one_slack_each = omega (arith, width, constraints, table.one_slack_each);
      before_v =
          subst (λ b. All (λ k. k + 2 < length (objective u)) b) (sym (basis_after t r c))
          (subst (λ w. All (λ k. k + 2 < w) (set t.basis r c)) (sym width) (All-set (λ k. k + 2 < length (objective t)) t.basis r c place.before_v table.before_v));
      narrow = narrow;
    }

-- the column enters, and the row has the least ratio there
pub record IsFirstAt (t : Table) (r c : ℕ) : Type 0 where
  pub enters : entering t ≡ Some c
  pub first : IsFirst t c (length t.basis) r

-- ---- what each step keeps, a run keeps

module _ (P : Table → Type 0) (each : (t : Table) (r c : ℕ) → IsTable t → IsPlace t r c → IsFirstAt t r c → P t → P (after_pivot t r c)) where
  run_keeps_by : (n made : ℕ) (t : Table) (s : Step) → step t ≡ s
      → ((u : Table) → IsTable u → P u → IsTable (run_on n (made + 1) u).table × P (run_on n (made + 1) u).table)
      → IsTable t → P t → IsTable (run_on (suc n) made t).table × P (run_on (suc n) made t).table
  run_keeps_by n made t (ends e) is rest table holds =
      rw (run_ends (suc n) made t e (omega arith) is) (table, holds)
  run_keeps_by n made t (goes u) is rest table holds =
      let m = move_of t u is in
      let place = move_place t u m in
      let first : IsFirstAt t m.row m.column = record { enters = m.enters; first = leaving_first t m.column m.row m.leaves } in
      let later : P u = subst P (sym m.is) (each t m.row m.column table place first holds) in
      let table_u : IsTable u = subst IsTable (sym m.is) (table_after t m.row m.column table place (ap is_wide (sym m.is) ∙ m.narrow)) in
      rw (run_goes_suc n made t u is) (rest u table_u later)

  pub run_keeps : (n made : ℕ) (t : Table) → IsTable t → P t → IsTable (run_on n made t).table × P (run_on n made t).table
  run_keeps zero made t table holds = rw (stopped made t) (table, holds)
  run_keeps (suc n) made t table holds = run_keeps_by n made t (step t) refl (λ u. run_keeps n (made + 1) u) table holds
