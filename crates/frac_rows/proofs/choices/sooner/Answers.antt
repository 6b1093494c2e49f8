use Rattle.std.proofs.Common.{◌≡◌, ◌∙◌, Bool, true, false, pos, to_z, of_z, FitsSigned, int_lt, sym, ap, rules}
use Rattle.std.specs.Int.{w64, is_positive}
use Rattle.std.specs.Option.{option_map}
use Rattle.std.proofs.lemmas.Int.{to_z-of_z}
use Rattle.frac_rows.specs.Rows.{Table, number, row_at, leaves_before}
use Rattle.frac_rows.specs.Stored.{table_of}
use Rattle.frac_rows.specs.Steps.{IsCandidate}
use Rattle.frac_rows.specs.declared.choices.Candidate.{Candidate}
use Rattle.frac_rows.proofs.Ratios.{candidate_narrow, leaves_is, positive_is, sooner_passed, sooner_first, sooner_taken, sooner_kept}
use Rattle.frac_rows.proofs.choices.sooner.Goals as goal
use Rattle.frac_rows.proofs.choices.sooner.Goals.{After-candidate_at-candidate, In-Some, After-leaves_before}

table : After-candidate_at-candidate → Table
table c = table_of c.args.columns.now c.args.numbers.now c.args.basis.now

-- what the test tells of the row's number
tested : (c : After-candidate_at-candidate) (b : Bool) → int_lt (pos 0) (to_z w64 (of_z w64 c.candidate_at-candidate.result.number)) ≡ b
    → is_positive (number (row_at (table c) c.args.i) c.args.entering.now.column) ≡ b
unfolding table
tested c b e =
    let n = c.candidate_at-candidate.result.number in
    let fits : FitsSigned w64 n = search rules in
    positive_is c.args.columns.now c.args.numbers.now c.args.basis.now c.args.entering.now.column c.args.i c.candidate_at-candidate.result.right n b
    c.candidate_at-candidate.ensures.candidate (ap is_positive (sym (to_z-of_z w64 n fits)) ∙ e)

-- the best row so far, as a candidate
other : (c : In-Some) → IsCandidate c.args.columns.now c.args.numbers.now c.args.entering.now.column c.in-Some.other.row c.in-Some.other.right c.in-Some.other.number
other c = rw c.in-Some.is at c.requires.best

-- what the second test tells
compared : (c : After-leaves_before) → c.leaves_before.result
    ≡ leaves_before (table_of c.args.columns.now c.args.numbers.now c.args.basis.now) c.args.entering.now.column c.args.i c.in-Some.other.row
compared c =
    let is = c.leaves_before.ensures in
    leaves_is c.args.columns.now c.args.numbers.now c.args.basis.now c.args.entering.now.column c.args.i c.in-Some.other.row
    c.candidate_at-candidate.result.right c.candidate_at-candidate.result.number c.in-Some.other.right c.in-Some.other.number c.leaves_before.result
    c.candidate_at-candidate.ensures.candidate (rw c.in-Some.is at c.requires.best) (rw c.candidate_at-candidate.ensures.row at is)

pub returns-then-not-candidate-clause-value : goal.returns-then-not-candidate-clause-value
unfolding table
returns-then-not-candidate-clause-value c =
    let here = (goal.at.returns-then-not-candidate-clause-value c).After-candidate_at-candidate in
    sooner_passed (table here) c.args.entering.now.column c.args.i (option_map (λ (b : Candidate). b.row) c.args.best) (tested here false c.if-not-candidate.true)

pub returns-in_default-clause-value : goal.returns-in_default-clause-value
unfolding table
returns-in_default-clause-value c =
    let here = (goal.at.returns-in_default-clause-value c).After-candidate_at-candidate in
    rw (c.in_default.is, c.candidate_at-candidate.ensures.row) (sooner_first (table here) c.args.entering.now.column c.args.i (tested here true c.if-not-candidate.false))

pub leaves_before-requires-clause-right : goal.leaves_before-requires-clause-right
leaves_before-requires-clause-right c =
    (candidate_narrow c.args.columns.now c.args.numbers.now c.args.entering.now.column c.args.i _ _ c.requires.kept c.candidate_at-candidate.ensures.candidate).0

pub leaves_before-requires-clause-number : goal.leaves_before-requires-clause-number
leaves_before-requires-clause-number c =
    (candidate_narrow c.args.columns.now c.args.numbers.now c.args.entering.now.column c.args.i _ _ c.requires.kept c.candidate_at-candidate.ensures.candidate).1

pub leaves_before-requires-clause-other_right : goal.leaves_before-requires-clause-other_right
leaves_before-requires-clause-other_right c =
    (candidate_narrow c.args.columns.now c.args.numbers.now c.args.entering.now.column c.in-Some.other.row _ _ c.requires.kept (other c)).0

pub leaves_before-requires-clause-other_number : goal.leaves_before-requires-clause-other_number
leaves_before-requires-clause-other_number c =
    (candidate_narrow c.args.columns.now c.args.numbers.now c.args.entering.now.column c.in-Some.other.row _ _ c.requires.kept (other c)).1

pub returns-then-leaves_before-clause-value : goal.returns-then-leaves_before-clause-value
unfolding table
returns-then-leaves_before-clause-value c =
    let at = goal.at.returns-then-leaves_before-clause-value c in
    let here = at.After-candidate_at-candidate in
    rw (c.in-Some.is, c.candidate_at-candidate.ensures.row)
    (sooner_taken (table here) c.args.entering.now.column c.args.i c.in-Some.other.row (tested here true c.if-not-candidate.false)
    (sym (compared at.After-leaves_before) ∙ c.if-leaves_before.true))

pub returns-clause-value : goal.returns-clause-value
returns-clause-value c =
    let at = goal.at.returns-clause-value c in
    rw c.in-Some.is
    (sooner_kept (table_of c.args.columns.now c.args.numbers.now c.args.basis.now) c.args.entering.now.column c.args.i c.in-Some.other.row
    (sym (compared at.After-leaves_before) ∙ c.if-leaves_before.false))
