use Rattle.std.proofs.Common.{◌-◌, ◌<◌, ◌≤ℤ◌, ◌∙◌, sym, length, FitsSigned, arith, rules}
use Rattle.std.specs.Int.{w32}
use Rattle.std.proofs.lemmas.Int.{ints, to_z-of_z}
use Rattle.frac_rows.specs.Rows.{number}
use Rattle.frac_rows.proofs.RoughRows.{at_least, telling_at, none_told, none_more}
use Rattle.frac_rows.proofs.pricing.first_told.Goals as goal

pub returns-then-not-least-margin-clause-none : goal.returns-then-not-least-margin-clause-none
returns-then-not-least-margin-clause-none c = λ _.
    none_told c.args.whole.now.variables c.args.whole.now.numbers.now c.args.whole.now.row.now c.args.margin c.args.first c.args.last c.args.sums.now c.requires.telling c.requires.one_each
    (λ l low.
    let m = c.ranges.margin in
    let b : FitsSigned w32 c.least.result = search rules in
    let above : c.args.margin ≤ℤ c.least.result = at_least c.least.result c.args.margin (simp to_z-of_z at c.if-not-least-margin.true) in
    omega (arith, ints, above, c.least.ensures l low))

pub is_below_by-requires-clause-telling : goal.is_below_by-requires-clause-telling
is_below_by-requires-clause-telling c = λ high.
    let m = c.ranges.margin in
    let within : c.loop-j.j - c.args.first < length c.args.sums.now = omega (arith, c.loop-j-test.true, c.loop-j.auto.j, c.requires.one_each) in
    let x : FitsSigned w32 (number c.args.sums.now (c.loop-j.j - c.args.first)) = search rules in
    let above : c.args.margin ≤ℤ number c.args.sums.now (c.loop-j.j - c.args.first) = simp to_z-of_z at high in
    telling_at c.args.whole.now.variables c.args.whole.now.numbers.now c.args.whole.now.row.now c.args.margin c.args.first c.args.sums.now c.loop-j.j c.requires.telling
    (omega (arith, c.loop-j.auto.j)) within above

pub loop-j-preserved : goal.loop-j-preserved
loop-j-preserved c = none_more c.args.whole.now.variables c.args.whole.now.numbers.now c.args.whole.now.row.now c.args.first c.loop-j.j c.loop-j.invariant (sym c.is_below_by.ensures ∙ c.if-is_below_by.false)
