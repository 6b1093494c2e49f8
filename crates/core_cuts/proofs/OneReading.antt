-- A run has one reading.
use Rattle.std.proofs.Common.{◌≡◌, ℕ, suc, Bool, true, false, true≢false, ◌+◌, ◌<◌, List, length, get_or, ℤ, pos, ◌*ℤ◌, ⊎_elim, sym, ap, ◌∙◌, subst, arith}
use Rattle.std.proofs.lemmas.Int.{ints}
use Rattle.hub_spec.specs.Problem.{Problem, IsProblem}
use Rattle.frac_rows.specs.Rows.{Table, number, row_at, right_side}
use Rattle.frac_rows.specs.declared.ended.Ended.{Ended}
use Rattle.frac_rows.specs.declared.ended.Ended.TheVariants.{Best, Turns, Wide}
use Rattle.frac_rows.specs.Theorems.{IsBasic}
use Rattle.frac_rows.proofs.Solutions.{positive_size}
use Rattle.frac_rows.proofs.RunLaws.{run_keeps_basis}
use Rattle.frac_rows.proofs.FirstTables.{first_is_table}
use Rattle.core_cuts.specs.CoreTables.{core_columns, core_rights, core_table}
use Rattle.core_cuts.specs.RunTheorems.{variable_of}
use Rattle.core_cuts.proofs.Combining.{equal_from_times}
use Rattle.core_cuts.proofs.UnitBalances.{basic_or_not}
use Rattle.core_cuts.proofs.Found.{core_is_narrow}
use Rattle.core_cuts.specs.Readings.{Reading, value_of, core_run, IsWhole, IsReading, found_of, IsFit}
use Rattle.core_cuts.specs.Theorems.{IsAsked, FoundIsOne, FoundOrNot}
use Rattle.core_cuts.proofs.Zipped.{same_values}

-- each row of the last table has its basic column to itself
pub basic_last : (p : Problem) (hubs : List ℕ) (c : ℕ × ℕ) → IsAsked p hubs c → IsBasic (core_run p hubs c).table
unfolding core_run core_table
basic_last p hubs c asked =
    let narrow = core_is_narrow p hubs c asked.problem asked.may.any_length asked.from asked.to in
    let first = first_is_table (core_columns p hubs c) (core_rights p c) narrow.columns narrow.rights in
    run_keeps_basis (core_table p hubs c) first.table first.basic

-- with the same part a variable is the same
same_variable : (p : Problem) (t : Table) (r s : Reading) (j : ℕ) → IsBasic t → IsWhole p t r → IsWhole p t s → r.part ≡ s.part
    → j < length p.candidates + 1 → variable_of p r.price (value_of p r) j ≡ variable_of p s.price (value_of p s) j
same_variable p t r s j basic whole other parts within =
    ⊎_elim
    (λ found. (let i = found.0 in
    let b = get_or t.basis i 0 in
    let size = positive_size (number (row_at t i) b) (basic.own i found.1) in
    let one = whole.read.basic i found.1 (omega (arith, found.2)) in
    let two = other.read.basic i found.1 (omega (arith, found.2)) in
    let x : ℤ = pos (variable_of p r.price (value_of p r) b) in
    let y : ℤ = pos (variable_of p s.price (value_of p s) b) in
    let both : pos size.0 *ℤ x ≡ pos size.0 *ℤ y =
    ap (λ z. z *ℤ x) (sym size.2) ∙ one ∙ ap (λ n. pos n *ℤ right_side (row_at t i)) parts ∙ sym two ∙ ap (λ z. z *ℤ y) size.2 in
    let same = equal_from_times size.0 x y size.1 both in
    subst (λ (k : ℕ). variable_of p r.price (value_of p r) k ≡ variable_of p s.price (value_of p s) k) found.2
    (pos_same (variable_of p r.price (value_of p r) b) (variable_of p s.price (value_of p s) b) same)))
    (λ none. whole.read.others j within none ∙ sym (other.read.others j within none))
    (basic_or_not t.basis j (length t.basis))
  where
    pos_same : (a b : ℕ) → pos a ≡ pos b → a ≡ b
    pos_same a b e = omega (arith, ints, e)

same_whole : (p : Problem) (t : Table) (r s : Reading) → IsProblem p → IsBasic t → IsWhole p t r → IsWhole p t s → r.part ≡ s.part → r ≡ s
same_whole p t r s ok basic whole other parts =
    let prices = same_variable p t r s 0 basic whole other parts (omega arith) in
    let values = same_values p.candidates r.values s.values ok.candidates_ascend whole.one_each other.one_each
    (λ x l. same_variable p t r s (suc x) basic whole other parts (omega (arith, l))) in
    ap (λ n. reading n r.price r.values) parts ∙ ap (λ n. reading s.part n r.values) prices ∙ ap (reading s.part s.price) values
  where
    reading : ℕ → ℕ → List ℕ → Reading
    reading part price values = record { part = part; price = price; values = values }

-- two readings of a run are one
pub same_reading : (p : Problem) (hubs : List ℕ) (c : ℕ × ℕ) (r s : Reading) → IsAsked p hubs c → IsReading p hubs c r → IsReading p hubs c s → r ≡ s
same_reading p hubs c r s asked one other =
    let parts : r.part ≡ s.part = omega (arith, one.least s other.whole, other.least r one.whole) in
    same_whole p (core_run p hubs c).table r s asked.problem (basic_last p hubs c asked) one.whole other.whole parts

pub found_one : FoundIsOne
found_one p hubs c found other asked (r, reading, fit, is) (s, reading_s, fit_s, is_s) =
    is ∙ ap (found_of p hubs c) (same_reading p hubs c r s asked reading reading_s) ∙ sym is_s

-- a run that ends with a best table ends in no other way
abbrev is_best : Ended → Bool
is_best Best = true
is_best Turns = false
is_best Wide = false

pub found_not : FoundOrNot
found_not p hubs c found asked (r, reading, fit, is) none =
    ⊎_elim
    (⊎_elim (λ wide. absurd (true≢false (ap is_best (sym reading.best ∙ wide)))) (λ turns. absurd (true≢false (ap is_best (sym reading.best ∙ turns)))))
    (λ unfit. unfit.2 (subst (IsFit p hubs c) (same_reading p hubs c r unfit.0 asked reading unfit.1) fit))
    none
