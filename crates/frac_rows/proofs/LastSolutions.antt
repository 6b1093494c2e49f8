-- What the last table of a run tells of the first: the same solutions, and by its basic solution an admissible one.
use Rattle.std.proofs.Common.{◌≡◌, ℕ, ◌-◌, length, List, ℤ, pos, ◌*ℤ◌, ◌<ℤ◌, ◌≤ℤ◌, ap, subst, ◌∙◌, arith}
use Rattle.std.proofs.lemmas.Int.{ints}
use Rattle.std.proofs.lemmas.List.Elements.{All-take}
use Rattle.frac_rows.specs.Rows.{Table, number, right_side, objective, IsTable}
use Rattle.frac_rows.specs.Runs.{most_pivots, run}
use Rattle.frac_rows.specs.Theorems.{IsSolution, SolutionsStay, IsOfObjective, ObjectiveStays, LastIsAdmissible, LastIsOptimal}
use Rattle.frac_rows.proofs.Integers.{times-le, *ℤ_left_comm}
use Rattle.frac_rows.proofs.Solutions.{positive_size, pivot_keeps_solutions}
use Rattle.frac_rows.proofs.LeavingRows.{le_cancel}
use Rattle.frac_rows.proofs.RunMoves.{run_keeps}
use Rattle.frac_rows.proofs.RunLaws.{run_keeps_rights, run_keeps_basis}
use Rattle.frac_rows.proofs.BestTables.{objective_after, best_is_greatest}
use Rattle.frac_rows.proofs.BasicSolutions.{IsPivotal, solved_by, values_low}

-- the last table is one, with an objective row
pub objective_last : (t : Table) → IsTable t → IsOfObjective t → IsTable (run t).table × IsOfObjective (run t).table
unfolding run
objective_last t table old = run_keeps IsOfObjective (λ u r c of_u place first now. objective_after u r c of_u place now) most_pivots 0 t table old

pub run_keeps_objective : ObjectiveStays
run_keeps_objective t table old = (objective_last t table old).1

pub pivotal_last : (t : Table) → IsPivotal t → IsPivotal (run t).table
pivotal_last t are =
    let kept = objective_last t are.table are.of_objective in
    record { table = kept.0; basic = run_keeps_basis t are.table are.basic; of_objective = kept.1 }

-- ---- solutions

solves_last : (t : Table) (values : List ℤ) (denom : ℕ) → IsTable t → IsSolution t values denom → IsSolution (run t).table values denom
unfolding run
solves_last t values denom table solution =
    (run_keeps (λ u. IsSolution u values denom)
    (λ u r c of_u place first holds. (pivot_keeps_solutions u r c values denom of_u place).0 holds) most_pivots 0 t table solution).1

pub solves_first : (t : Table) (values : List ℤ) (denom : ℕ) → IsTable t → IsSolution (run t).table values denom → IsSolution t values denom
unfolding run
solves_first t values denom table =
    (run_keeps (λ u. IsSolution u values denom → IsSolution t values denom)
    (λ u r c of_u place first holds after. holds ((pivot_keeps_solutions u r c values denom of_u place).1 after)) most_pivots 0 t table (λ same. same)).1

pub run_keeps_solutions : SolutionsStay
run_keeps_solutions t values denom table = (solves_last t values denom table, solves_first t values denom table)

-- ---- the last basic solution

pub last_is_admissible : LastIsAdmissible
last_is_admissible t values denom table basic of_objective rights is =
    let u = (run t).table in
    let are = pivotal_last t (record { table = table; basic = basic; of_objective = of_objective }) in
    record {
      solution = solves_first t values denom table (solved_by u values denom are is);
      low = All-take (λ x. pos 0 ≤ℤ x) (length (objective t) - 2) values (values_low u values denom are (run_keeps_rights t table rights) is);
    }

-- d and e are denominators: o / e is at most r / s, which is v / d
pub ratio_le : (s o v r : ℤ) (d e : ℕ) → pos 0 <ℤ s → (s *ℤ o) ≤ℤ (pos e *ℤ r) → s *ℤ v ≡ pos d *ℤ r → (pos d *ℤ o) ≤ℤ (pos e *ℤ v)
ratio_le s o v r d e above most is =
    let k = positive_size s above in
    let first : s *ℤ (pos d *ℤ o) ≡ pos d *ℤ (s *ℤ o) = *ℤ_left_comm s (pos d) o in
    let less : (pos d *ℤ (s *ℤ o)) ≤ℤ (pos d *ℤ (pos e *ℤ r)) = times-le d (s *ℤ o) (pos e *ℤ r) most in
    let last : s *ℤ (pos e *ℤ v) ≡ pos d *ℤ (pos e *ℤ r) =
    *ℤ_left_comm s (pos e) v ∙ ap (λ z. pos e *ℤ z) is ∙ *ℤ_left_comm (pos e) (pos d) r in
    let whole : (s *ℤ (pos d *ℤ o)) ≤ℤ (s *ℤ (pos e *ℤ v)) = omega (arith, ints, first, less, last) in
    le_cancel k.0 (pos d *ℤ o) (pos e *ℤ v) k.1 (rw k.2 at whole)

pub last_is_optimal : LastIsOptimal
last_is_optimal t values denom table basic of_objective rights best is =
    let u = (run t).table in
    let k = length (objective t) - 2 in
    let admissible = last_is_admissible t values denom table basic of_objective rights is in
    let column : length (objective u) - 2 ≡ k = omega (arith, is.one_each, admissible.solution.one_each) in
    let above : pos 0 <ℤ number (objective u) k =
    subst (λ c. pos 0 <ℤ number (objective u) c) column (run_keeps_objective t table of_objective).own in
    let worth : number (objective u) k *ℤ number values k ≡ pos denom *ℤ right_side (objective u) =
    subst (λ c. number (objective u) c *ℤ number values c ≡ pos denom *ℤ right_side (objective u)) column is.worth in
    record {
      admissible = admissible;
      greatest =
          λ others e other.
          ratio_le (number (objective u) k) (number others k) (number values k) (right_side (objective u)) denom e above
          (best_is_greatest t others e table of_objective best other) worth;
    }
