use Rattle.std.proofs.Common.{◌∙◌, refl, sym}
use Rattle.std.proofs.lemmas.Bool.{not-true}
use Rattle.frac_rows.proofs.WholeRows.{narrow_whole}
use Rattle.frac_rows.proofs.follows.follow_by.Goals as goal

pub returns-then-stays_within-clause-divided : goal.returns-then-stays_within-clause-divided
returns-then-stays_within-clause-divided c = λ _. (c.in-Some.by.number, c.in-Some.by.low, c.in-Some-divide_by.ensures.divided)

pub returns-then-stays_within-clause-narrow : goal.returns-then-stays_within-clause-narrow
returns-then-stays_within-clause-narrow c = λ _.
    narrow_whole c.args.columns.now.columns c.divide_by.new.out c.in-Some-divide_by.ensures.divided.narrow
    (c.if-stays_within.ensures refl c.divide_by.new.out c.in-Some-divide_by.ensures.size)

pub returns-clause-divided : goal.returns-clause-divided
returns-clause-divided c = λ _. (c.in-Some.by.number, c.in-Some.by.low, c.in-Some-divide_by.ensures.divided)

pub returns-clause-narrow : goal.returns-clause-narrow
returns-clause-narrow c = λ t.
    narrow_whole c.args.columns.now.columns c.divide_by.new.out c.in-Some-divide_by.ensures.divided.narrow
    (sym c.is_wide.ensures ∙ not-true c.is_wide.result t)
