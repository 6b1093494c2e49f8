use Rattle.std.proofs.Common.{◌≡◌, true, sym, subst, arith, rules}
use Rattle.frac_rows.specs.Rows.{after_pivot, is_wide}
use Rattle.frac_rows.specs.Stored.{table_of}
use Rattle.frac_rows.specs.Steps.{AreAfter}
use Rattle.frac_rows.proofs.Pivots.{after_is, kept_after, stored_after, wide_after, not_wide_table}
use Rattle.frac_rows.proofs.moves.pivot_on.Goals as goal
use Rattle.frac_rows.proofs.moves.pivot_on.Goals.{After-copy_from_slice}

pub returns-in_err-divided-clause-err : goal.returns-in_err-divided-clause-err
returns-in_err-divided-clause-err c =
    let wide : is_wide (after_pivot (table_of c.args.columns.now c.args.numbers.now c.args.basis.now) c.args.pivot.now.row c.args.pivot.now.entering.column) ≡ true =
    wide_after c.args.columns.now c.args.numbers.now c.args.basis.now c.args.pivot.now.row c.args.pivot.now.entering.column (omega (arith, c.requires.stored.one_each))
    c.in_err-divided.ensures.err in
    search rules

after : (c : After-copy_from_slice) → AreAfter c.args.columns.now c.args.numbers.now c.args.pivot.now.row c.args.pivot.now.entering.column c.args.columns.now.height c.copy_from_slice.new.self
after c =
    subst (λ new. AreAfter c.args.columns.now c.args.numbers.now c.args.pivot.now.row c.args.pivot.now.entering.column c.args.columns.now.height new)
    (sym c.copy_from_slice.ensures.after) c.in_ok-divided.ensures.ok

pub returns-clause-stored : goal.returns-clause-stored
returns-clause-stored c =
    stored_after c.args.columns.now c.args.numbers.now c.copy_from_slice.new.self c.args.basis.now c.args.pivot.now.row c.args.pivot.now.entering.column
    c.requires.stored c.requires.row c.requires.column c.copy_from_slice.ensures.len (after (goal.at.returns-clause-stored c).After-copy_from_slice)

pub returns-clause-ok : goal.returns-clause-ok
returns-clause-ok c =
    after_is c.args.columns.now c.args.numbers.now c.copy_from_slice.new.self c.args.basis.now c.args.pivot.now.row c.args.pivot.now.entering.column
    (omega (arith, c.requires.stored.one_each)) (after (goal.at.returns-clause-ok c).After-copy_from_slice)

pub returns-clause-narrow : goal.returns-clause-narrow
returns-clause-narrow c =
    not_wide_table c.args.columns.now c.copy_from_slice.new.self _
    (kept_after c.args.columns.now c.args.numbers.now c.copy_from_slice.new.self c.args.pivot.now.row c.args.pivot.now.entering.column c.requires.stored.kept
    c.copy_from_slice.ensures.len (after (goal.at.returns-clause-narrow c).After-copy_from_slice))
