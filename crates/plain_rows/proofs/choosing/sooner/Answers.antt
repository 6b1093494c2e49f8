use Rattle.std.proofs.Common.{◌≡◌, ◌∙◌, Bool, true, false, pos, to_z, of_z, int_lt, FitsSigned, get_or, sym, ap, rules}
use Rattle.std.specs.Int.{w64, is_positive}
use Rattle.std.proofs.lemmas.Int.{to_z-of_z}
use Rattle.frac_rows.specs.Rows.{number, row_at}
use Rattle.frac_rows.proofs.Ratios.{sooner_passed, sooner_first, sooner_taken, sooner_kept}
use Rattle.plain_rows.specs.Flat.{table_of}
use Rattle.plain_rows.proofs.Choices.{positive_is}
use Rattle.plain_rows.proofs.choosing.sooner.Goals as goal
use Rattle.plain_rows.proofs.choosing.sooner.Goals.{After-part}

-- what the test tells of the row's number
tested : (c : After-part) (b : Bool) → int_lt (pos 0) (to_z w64 (of_z w64 (number c.part.result.now c.args.place))) ≡ b
    → is_positive (number (row_at (table_of c.args.outside.now c.args.numbers.now c.args.basis.now) c.args.i) (get_or c.args.outside.now c.args.place 0)) ≡ b
tested c b e =
    let n = number c.part.result.now c.args.place in
    let fits : FitsSigned w64 n = search rules in
    positive_is c.args.outside.now c.args.numbers.now c.args.basis.now c.args.place c.args.i c.part.result.now b c.requires.stored c.requires.place c.requires.row c.part.ensures.value
    (ap is_positive (sym (to_z-of_z w64 n fits)) ∙ e)

pub returns-then-not-may_leave-clause-value : goal.returns-then-not-may_leave-clause-value
returns-then-not-may_leave-clause-value c =
    let here = (goal.at.returns-then-not-may_leave-clause-value c).After-part in
    sooner_passed (table_of c.args.outside.now c.args.numbers.now c.args.basis.now) (get_or c.args.outside.now c.args.place 0) c.args.i c.args.best
    (tested here false c.if-not-may_leave.true)

pub returns-in_default-clause-value : goal.returns-in_default-clause-value
returns-in_default-clause-value c =
    let here = (goal.at.returns-in_default-clause-value c).After-part in
    rw c.in_default.is
    (sooner_first (table_of c.args.outside.now c.args.numbers.now c.args.basis.now) (get_or c.args.outside.now c.args.place 0) c.args.i (tested here true c.if-not-may_leave.false))

pub returns-then-leaves_before-clause-value : goal.returns-then-leaves_before-clause-value
returns-then-leaves_before-clause-value c =
    let here = (goal.at.returns-then-leaves_before-clause-value c).After-part in
    rw c.in-Some.is
    (sooner_taken (table_of c.args.outside.now c.args.numbers.now c.args.basis.now) (get_or c.args.outside.now c.args.place 0) c.args.i c.in-Some.j
    (tested here true c.if-not-may_leave.false) (sym c.leaves_before.ensures ∙ c.if-leaves_before.true))

pub returns-clause-value : goal.returns-clause-value
returns-clause-value c =
    rw c.in-Some.is
    (sooner_kept (table_of c.args.outside.now c.args.numbers.now c.args.basis.now) (get_or c.args.outside.now c.args.place 0) c.args.i c.in-Some.j
    (sym c.leaves_before.ensures ∙ c.if-leaves_before.false))
