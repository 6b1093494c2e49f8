-- What the end of a run with a best table tells of the objective.
use Rattle.std.proofs.Common.{◌≡◌, ◌≢◌, ℕ, zero, suc, ◌+◌, ◌-◌, ◌<◌, Bool, true, false, nat_lt, List, [], ◌∷◌, ◌++◌, length, take, All, ℤ, pos, ◌+ℤ◌, ◌*ℤ◌, ◌≤ℤ◌, Option, Some, None, refl, sym, ap, ◌∙◌, ⊎_elim, arith}
use Rattle.std.specs.Int.{is_negative}
use Rattle.std.specs.List.{position_or_len}
use Rattle.std.proofs.lemmas.Int.{ints}
use Rattle.std.proofs.lemmas.Bool.{cases_eq, cases_Bool, cond-true, ltb-false}
use Rattle.std.proofs.lemmas.List.{length-take, get_or-take, take_more, take_all}
use Rattle.std.proofs.lemmas.List.Elements.{All-head, All-tail, All-get_or}
use Rattle.std.proofs.lemmas.List.Sums.{fails_before_first}
use Rattle.frac_rows.specs.Rows.{Table, number, row_at, objective, after_pivot, first_negative, entering, leaving, is_wide, IsTable}
use Rattle.frac_rows.specs.Runs.{Step, goes, ends, unless_wide, step_at, step_by, step, ended_by, most_pivots, run_on, run}
use Rattle.frac_rows.specs.declared.ended.Ended.{Ended}
use Rattle.frac_rows.specs.declared.ended.Ended.TheVariants.{Best, Wide}
use Rattle.frac_rows.specs.Stored.{dot}
use Rattle.frac_rows.specs.Theorems.{Solves, IsSolution, IsPlace, IsOfObjective, BestIsBest}
use Rattle.frac_rows.proofs.Solutions.{constraints_after, width_after, solves_after}
use Rattle.frac_rows.proofs.RunSteps.{run_ends, run_goes_suc, stopped}
use Rattle.frac_rows.proofs.RunMoves.{IsFirstAt, run_keeps}
use Rattle.frac_rows.proofs.RunLaws.{products_low, above_after, none_after, long_rows, row_after, base_row}

-- ---- no column enters a best table

not_negative : (row : List ℤ) (k : ℕ) → first_negative row ≡ None → k + 2 < length row → is_negative (number row k) ≡ false
unfolding first_negative
not_negative row k e low =
    let front = take (length row - 2) row in
    let p = position_or_len is_negative front in
    let long : length front ≡ length row - 2 = simp length-take (omega arith) in
    let less : k < length row - 2 = omega arith in
    ⊎_elim
    (λ (some : nat_lt p (length front) ≡ true). let here : Some p ≡ None = sym (cond-true (nat_lt p (length front)) (Some p) None some) ∙ e in absurd (cc))
    (λ none.
    let past = ltb-false p (length front) none in
    ap is_negative (sym (get_or-take (length row - 2) row k (pos 0) less)) ∙ fails_before_first is_negative front k (pos 0) (omega arith))
    (cases_Bool (nat_lt p (length front)))

best_by_end : (o : Option ℕ) → ended_by o ≡ Best → o ≡ None
best_by_end None e = refl
best_by_end (Some c) e = absurd (cc)

best_unless : (t : Table) (b : Bool) (e : Ended) → unless_wide t b ≡ ends e → e ≡ Wide
best_unless t true e is = cc
best_unless t false e is = absurd (cc)

best_at : (t : Table) (c : ℕ) (o : Option ℕ) (e : Ended) → step_at t c o ≡ ends e → e ≡ Wide
best_at t c None e is = cc
best_at t c (Some r) e is = best_unless (after_pivot t r c) (is_wide (after_pivot t r c)) e is

best_by : (t : Table) (o : Option ℕ) (e : Ended) → step_by t o ≡ ends e → e ≡ Best → o ≡ None
best_by t None e is best = refl
best_by t (Some c) e is best = let wide = best_at t c (leaving t c) e is in absurd (cc)

best_step : (t : Table) (e : Ended) → step t ≡ ends e → e ≡ Best → entering t ≡ None
unfolding step
best_step t e is best = best_by t (entering t) e is best

best_run_by : (n made : ℕ) (t : Table) (s : Step) → step t ≡ s
    → ((u : Table) → (run_on n (made + 1) u).ended ≡ Best → entering (run_on n (made + 1) u).table ≡ None)
    → (run_on (suc n) made t).ended ≡ Best → entering (run_on (suc n) made t).table ≡ None
best_run_by n made t (ends e) is rest best =
    let same = run_ends (suc n) made t e (omega arith) is in
    rw same (best_step t e is (rw same at best))
best_run_by n made t (goes u) is rest best =
    let same = run_goes_suc n made t u is in
    rw same (rest u (rw same at best))

best_run : (n made : ℕ) (t : Table) → (run_on n made t).ended ≡ Best → entering (run_on n made t).table ≡ None
best_run zero made t best = rw (stopped made t) (best_by_end (entering t) (rw (stopped made t) at best))
best_run (suc n) made t best = best_run_by n made t (step t) refl (λ u. best_run n (made + 1) u) best

-- where a run ends with a best table, no number of its objective row before v is below 0
pub best_low : (t : Table) (k : ℕ) → (run t).ended ≡ Best → k + 2 < length (objective (run t).table)
    → pos 0 ≤ℤ number (objective (run t).table) k
unfolding run
best_low t k best within =
    let fails = not_negative (objective (run t).table) k (best_run most_pivots 0 t best) within in omega (arith, ints, fails)

-- ---- what a run keeps for its end

record IsSolved (values : List ℤ) (denom width : ℕ) (t : Table) : Type 0 where
  of_objective : IsOfObjective t
  solution : IsSolution t values denom
  width_is : length (objective t) ≡ width

pub objective_after : (t : Table) (r c : ℕ) → IsTable t → IsPlace t r c → IsOfObjective t → IsOfObjective (after_pivot t r c)
objective_after t r c table place old =
    let u = after_pivot t r c in
    let v = length (objective t) - 2 in
    let base = place.constraint in
    let n = length t.basis in
    let other : n ≢ r = λ e. omega arith in
    let column : length (objective u) - 2 ≡ v = ap (λ w. w - 2) (width_after t r c table base) in
    let last : objective u ≡ row_at u n = ap (row_at u) (constraints_after t r c) in
    record {
      own =
          rw (column, last, row_after t r c n table (omega arith) other)
          (above_after (row_at t r) (objective t) c v (long_rows t n r table (omega arith) base) place.above (old.others r base) old.own);
      others =
          λ i l.
          let low : i < n = omega (arith, constraints_after t r c) in
          rw column
          (⊎_elim
          (λ e. ap (λ k. number (row_at u k) v) e ∙ ap (λ row. number row v) (base_row t r c table base) ∙ old.others r base)
          (λ m.
          ap (λ row. number row v) (row_after t r c i table (omega arith) m)
          ∙ none_after (row_at t r) (row_at t i) c v (long_rows t i r table (omega arith) base) (old.others r base) (old.others i low))
          (cases_eq i r));
    }

solved_after : (values : List ℤ) (denom width : ℕ) (t : Table) (r c : ℕ) → IsTable t → IsPlace t r c → IsFirstAt t r c → IsSolved values denom width t
    → IsSolved values denom width (after_pivot t r c)
solved_after values denom width t r c table place first old = record {
  of_objective = objective_after t r c table place old.of_objective;
  solution = solves_after t r c values denom table place old.solution;
  width_is = width_after t r c table place.constraint ∙ old.width_is;
}

-- ---- the last objective row

dot_front : (row values : List ℤ) (z : ℤ) → length values < length row
    → dot row (values ++ z ∷ []) ≡ dot row values +ℤ number row (length values) *ℤ z
dot_front [] values z low = absurd (omega arith)
dot_front (x ∷ []) [] z low = omega (arith, ints)
dot_front (x ∷ y ∷ row) [] z low = omega (arith, ints)
dot_front (x ∷ row) (y ∷ values) z low = omega (arith, ints, dot_front row values z (omega arith))

dot_low : (row values : List ℤ) → All (λ x. pos 0 ≤ℤ x) values → ((j : ℕ) → j < length values → pos 0 ≤ℤ number row j) → pos 0 ≤ℤ dot row values
dot_low [] values low numbers = omega (arith, ints)
dot_low (x ∷ row) [] low numbers = omega (arith, ints)
dot_low (x ∷ row) (y ∷ values) low numbers =
    let first = products_low x y (numbers 0 (omega arith)) (All-head (λ x. pos 0 ≤ℤ x) y values low) in
    let rest = dot_low row values (All-tail (λ x. pos 0 ≤ℤ x) y values low) (λ j l. numbers (suc j) (omega arith)) in
    omega (arith, ints, first, rest)

pub best_is_greatest : BestIsBest
unfolding run
best_is_greatest t values denom table of_objective best admissible =
    let u = (run t).table in
    let width = length (objective t) in
    let k = width - 2 in
    let kept =
    run_keeps (IsSolved values denom width) (solved_after values denom width) most_pivots 0 t table
    (record { of_objective = of_objective; solution = admissible.solution; width_is = refl }) in
    let none = best_run most_pivots 0 t best in
    let long = kept.1.width_is in
    let row = objective u in
    let solves : Solves values denom row =
    All-get_or (Solves values denom) u.rows (length u.basis) [] (omega (arith, kept.0.one_objective)) kept.1.solution.solves in
    let many : length values ≡ k + 1 = omega (arith, admissible.solution.one_each, table.one_slack_each) in
    let front = take k values in
    let front_long : length front ≡ k = simp length-take (omega (arith, many)) in
    let parts : values ≡ front ++ number values k ∷ [] =
    sym (take_all (k + 1) values (omega (arith, many))) ∙ take_more values k (pos 0) (omega (arith, many)) in
    let whole : dot row values ≡ dot row front +ℤ number row k *ℤ number values k =
    ap (dot row) parts ∙ dot_front row front (number values k) (omega (arith, front_long, long, table.one_slack_each))
    ∙ ap (λ n. dot row front +ℤ number row n *ℤ number values k) front_long in
    let low : pos 0 ≤ℤ dot row front =
    dot_low row front admissible.low
    (λ j l. let fails = not_negative row j none (omega (arith, front_long, long)) in omega (arith, ints, fails)) in
    omega (arith, ints, solves, whole, low)
