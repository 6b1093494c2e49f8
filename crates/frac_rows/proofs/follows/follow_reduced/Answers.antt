use Rattle.std.proofs.Common.{refl}
use Rattle.frac_rows.specs.Rows.{eliminated}
use Rattle.frac_rows.proofs.Refined.{wide_by_kept, wide_by_variables, narrow_by_first, narrow_by_tests}
use Rattle.frac_rows.proofs.follows.follow_reduced.Goals as goal

pub is_wide-requires-clause-narrow : goal.is_wide-requires-clause-narrow
is_wide-requires-clause-narrow c =
    narrow_by_first (eliminated c.args.turn.own c.args.row.now c.args.turn.base c.args.base.now) c.reduce.new.out c.reduce.result
    c.reduce.ensures.within c.if-not-reduce.false (c.if-not-reduce.ensures.row refl)

pub returns-then-not-reduce-clause-within : goal.returns-then-not-reduce-clause-within
returns-then-not-reduce-clause-within c =
    wide_by_kept c.args.columns.now.columns (eliminated c.args.turn.own c.args.row.now c.args.turn.base c.args.base.now) c.reduce.result
    c.reduce.ensures.within c.if-not-reduce.true

pub returns-clause-narrow : goal.returns-clause-narrow
returns-clause-narrow c = λ t.
    narrow_by_tests c.args.columns.now.columns (eliminated c.args.turn.own c.args.row.now c.args.turn.base c.args.base.now) c.reduce.new.out
    c.reduce.result c.is_wide.result c.reduce.ensures.within c.if-not-reduce.false (c.if-not-reduce.ensures.row refl) c.is_wide.ensures t

pub returns-clause-within : goal.returns-clause-within
returns-clause-within c =
    wide_by_variables c.args.columns.now.columns (eliminated c.args.turn.own c.args.row.now c.args.turn.base c.args.base.now) c.reduce.new.out
    c.reduce.result c.is_wide.result c.reduce.ensures.within c.if-not-reduce.false (c.if-not-reduce.ensures.row refl) c.is_wide.ensures
