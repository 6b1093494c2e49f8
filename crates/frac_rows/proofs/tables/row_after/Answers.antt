use Rattle.std.proofs.Common.{◌∙◌, refl, sym}
use Rattle.std.proofs.lemmas.Bool.{not-false}
use Rattle.frac_rows.specs.Rows.{eliminated}
use Rattle.frac_rows.specs.Steps.{is_wide_whole}
use Rattle.frac_rows.proofs.NextRows.{narrow_part, narrow_entering, are_met, after_divided, after_reduced, wide_after}
use Rattle.frac_rows.proofs.tables.row_after.Goals as goal

pub multipliers-multipliers-requires-clause-narrow : goal.multipliers-multipliers-requires-clause-narrow
multipliers-multipliers-requires-clause-narrow c =
    narrow_entering c.args.columns.now c.args.numbers.now c.args.pivot.now.entering.numbers.now c.args.pivot.now.entering.column c.requires.kept c.requires.entering

pub follow_by-requires-clause-narrow : goal.follow_by-requires-clause-narrow
follow_by-requires-clause-narrow c =
    narrow_part c.args.columns.now c.args.numbers.now c.part-row.result.now c.height-width.result c.args.i
    c.part-row.ensures.value c.height-width.ensures.value c.requires.kept c.requires.within

pub follow_by-requires-clause-narrow_base : goal.follow_by-requires-clause-narrow_base
follow_by-requires-clause-narrow_base c =
    narrow_part c.args.columns.now c.args.numbers.now c.part-base.result.now c.height-width.result c.args.pivot.now.row
    c.part-base.ensures.value c.height-width.ensures.value c.requires.kept c.requires.row

pub returns-then-follow_by-clause-ok : goal.returns-then-follow_by-clause-ok
returns-then-follow_by-clause-ok c =
    after_divided c.args.columns.now c.args.numbers.now c.args.pivot.now.row c.args.pivot.now.entering.column c.args.i c.part-base.result.now c.part-row.result.now c.follow_by.new.out
    c.multipliers-multipliers.result.own c.multipliers-multipliers.result.base
    (are_met c.args.columns.now c.args.numbers.now c.args.pivot.now.entering.numbers.now c.args.pivot.now.row c.args.pivot.now.entering.column c.args.i c.height-width.result
    c.part-base.result.now c.part-row.result.now c.multipliers-multipliers.result.own c.multipliers-multipliers.result.base c.requires.entering c.requires.row c.requires.within
    c.if-i-r.false c.height-width.ensures.value c.part-base.ensures.value c.part-row.ensures.value (c.part-base.ensures.long ∙ sym c.part-row.ensures.long)
    c.multipliers-multipliers.ensures.own c.multipliers-multipliers.ensures.base)
    (c.if-follow_by.ensures.divided refl) (c.if-follow_by.ensures.narrow refl)

pub follow_reduced-requires-clause-narrow : goal.follow_reduced-requires-clause-narrow
follow_reduced-requires-clause-narrow c =
    narrow_part c.args.columns.now c.args.numbers.now c.part-row.result.now c.height-width.result c.args.i
    c.part-row.ensures.value c.height-width.ensures.value c.requires.kept c.requires.within

pub follow_reduced-requires-clause-narrow_base : goal.follow_reduced-requires-clause-narrow_base
follow_reduced-requires-clause-narrow_base c =
    narrow_part c.args.columns.now c.args.numbers.now c.part-base.result.now c.height-width.result c.args.pivot.now.row
    c.part-base.ensures.value c.height-width.ensures.value c.requires.kept c.requires.row

pub returns-then-follow_reduced-clause-ok : goal.returns-then-follow_reduced-clause-ok
returns-then-follow_reduced-clause-ok c =
    after_reduced c.args.columns.now c.args.numbers.now c.args.pivot.now.row c.args.pivot.now.entering.column c.args.i c.part-base.result.now c.part-row.result.now c.follow_reduced.new.out
    c.multipliers-multipliers.result.own c.multipliers-multipliers.result.base
    (are_met c.args.columns.now c.args.numbers.now c.args.pivot.now.entering.numbers.now c.args.pivot.now.row c.args.pivot.now.entering.column c.args.i c.height-width.result
    c.part-base.result.now c.part-row.result.now c.multipliers-multipliers.result.own c.multipliers-multipliers.result.base c.requires.entering c.requires.row c.requires.within
    c.if-i-r.false c.height-width.ensures.value c.part-base.ensures.value c.part-row.ensures.value (c.part-base.ensures.long ∙ sym c.part-row.ensures.long)
    c.multipliers-multipliers.ensures.own c.multipliers-multipliers.ensures.base)
    (c.if-follow_reduced.ensures.row refl) (c.if-follow_reduced.ensures.narrow refl)

pub returns-clause-err : goal.returns-clause-err
returns-clause-err c =
    wide_after c.args.columns.now c.args.numbers.now c.args.pivot.now.row c.args.pivot.now.entering.column c.args.i c.part-base.result.now c.part-row.result.now
    c.multipliers-multipliers.result.own c.multipliers-multipliers.result.base
    (are_met c.args.columns.now c.args.numbers.now c.args.pivot.now.entering.numbers.now c.args.pivot.now.row c.args.pivot.now.entering.column c.args.i c.height-width.result
    c.part-base.result.now c.part-row.result.now c.multipliers-multipliers.result.own c.multipliers-multipliers.result.base c.requires.entering c.requires.row c.requires.within
    c.if-i-r.false c.height-width.ensures.value c.part-base.ensures.value c.part-row.ensures.value (c.part-base.ensures.long ∙ sym c.part-row.ensures.long)
    c.multipliers-multipliers.ensures.own c.multipliers-multipliers.ensures.base)
    c.requires.within
    (not-false (is_wide_whole c.args.columns.now.columns (eliminated c.multipliers-multipliers.result.own c.part-row.result.now c.multipliers-multipliers.result.base c.part-base.result.now))
    (sym c.follow_reduced.ensures.within ∙ c.if-follow_reduced.false))
