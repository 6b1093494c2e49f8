-- What a step of a run is, by what the table tells.
use Rattle.std.proofs.Common.{◌≡◌, ℕ, zero, suc, ◌+◌, ◌-◌, ◌<◌, ◌≤◌, true, false, List, length, take, ℤ, pos, Some, None, refl, sym, ap, ◌∙◌, arith}
use Rattle.std.specs.Int.{is_negative}
use Rattle.std.proofs.lemmas.List.{length-take, get_or-take}
use Rattle.std.proofs.lemmas.List.Quantifiers.{position-Some}
use Rattle.frac_rows.specs.Rows.{Table, number, after_pivot, is_wide, first_negative, entering, leaving}
use Rattle.frac_rows.specs.Runs.{goes, ends, unless_wide, step_at, step_by, step, ended_by, Outcome, run_on}
use Rattle.frac_rows.specs.declared.ended.Ended.{Ended}
use Rattle.frac_rows.specs.declared.ended.Ended.TheVariants.{Best, Wide}

pub first_negative_within : (row : List ℤ) (c : ℕ) → first_negative row ≡ Some c → (c + 2 < length row) × (is_negative (number row c) ≡ true)
unfolding first_negative
first_negative_within row c e =
    let front = take (length row - 2) row in
    let at = position-Some is_negative front c (pos 0) e in
    let long : length front ≤ length row - 2 = simp length-take (omega arith) in
    let less : c < length row - 2 = omega (arith, at.0, long) in
    (omega arith, ap is_negative (sym (get_or-take (length row - 2) row c (pos 0) less)) ∙ at.1)

pub step_best : (t : Table) → entering t ≡ None → step t ≡ ends Best
unfolding step
step_best t e = ap (step_by t) e

pub step_stuck : (t : Table) (c : ℕ) → entering t ≡ Some c → leaving t c ≡ None → step t ≡ ends Wide
unfolding step
step_stuck t c e l = ap (step_by t) e ∙ ap (step_at t c) l

pub step_wide : (t : Table) (c r : ℕ) → entering t ≡ Some c → leaving t c ≡ Some r → is_wide (after_pivot t r c) ≡ true → step t ≡ ends Wide
unfolding step
step_wide t c r e l wide = ap (step_by t) e ∙ ap (step_at t c) l ∙ ap (unless_wide (after_pivot t r c)) wide

pub step_goes : (t : Table) (c r : ℕ) → entering t ≡ Some c → leaving t c ≡ Some r → is_wide (after_pivot t r c) ≡ false
    → step t ≡ goes (after_pivot t r c)
unfolding step
step_goes t c r e l narrow = ap (step_by t) e ∙ ap (step_at t c) l ∙ ap (unless_wide (after_pivot t r c)) narrow

-- ---- a run, one step on

pub run_ends : (n made : ℕ) (t : Table) (e : Ended) → 0 < n → step t ≡ ends e → run_on n made t ≡ record { table = t; ended = e; pivots = made }
unfolding run_on
run_ends zero made t e some is = absurd (omega arith)
run_ends (suc n) made t e some is =
    ap (λ s. elim s as (λ _. Outcome) [ ends f ↦ record { table = t; ended = f; pivots = made } | goes u ↦ run_on n (made + 1) u ]) is

pub run_goes_suc : (n made : ℕ) (t u : Table) → step t ≡ goes u → run_on (suc n) made t ≡ run_on n (made + 1) u
unfolding run_on
run_goes_suc n made t u is =
    ap (λ s. elim s as (λ _. Outcome) [ ends f ↦ record { table = t; ended = f; pivots = made } | goes v ↦ run_on n (made + 1) v ]) is

pub run_goes : (n k made : ℕ) (t u : Table) → n ≡ suc k → step t ≡ goes u → run_on n made t ≡ run_on k (made + 1) u
run_goes n k made t u e is = ap (λ n. run_on n made t) e ∙ run_goes_suc k made t u is

pub stopped : (made : ℕ) (t : Table) → run_on 0 made t ≡ record { table = t; ended = ended_by (entering t); pivots = made }
unfolding run_on
stopped made t = refl

pub run_stops : (n made : ℕ) (t : Table) → n ≡ 0 → run_on n made t ≡ record { table = t; ended = ended_by (entering t); pivots = made }
run_stops n made t e = ap (λ n. run_on n made t) e ∙ stopped made t
