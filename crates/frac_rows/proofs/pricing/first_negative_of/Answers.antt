use Rattle.std.proofs.Common.{◌≡◌, ◌∙◌, ◌-◌, Bool, true, false, List, ℤ, length, to_z, of_z, FitsSigned, refl, ap, sym, arith, rules}
use Rattle.std.specs.Int.{w64, is_negative}
use borrow.Author.Count.{below_more}
use Rattle.std.proofs.lemmas.Int.{to_z-of_z}
use Rattle.frac_rows.specs.Rows.{number}
use Rattle.frac_rows.specs.Stored.{columns_of, extended}
use Rattle.frac_rows.proofs.WholeRows.{length-whole, number_of_column, first_negative_is, first_negative_none}
use Rattle.frac_rows.proofs.pricing.first_negative_of.Goals as goal
use Rattle.frac_rows.proofs.pricing.first_negative_of.Goals.{After-entry_of}

whole : After-entry_of → List ℤ
whole c = extended (columns_of (length c.args.row.now - 1) c.args.variables c.args.numbers.now) c.args.row.now

-- what the test of this turn tells of the number
tested : (c : After-entry_of) (b : Bool) → is_negative (to_z w64 (of_z w64 c.entry_of.result)) ≡ b → is_negative (number (whole c) c.loop-j.j) ≡ b
unfolding whole
tested c b e =
    let fits : FitsSigned w64 c.entry_of.result = search rules in
    ap is_negative (sym c.entry_of.ensures ∙ sym (to_z-of_z w64 c.entry_of.result fits)) ∙ e

pub returns-then-entry_of-lt0 : goal.returns-then-entry_of-lt0
unfolding whole
returns-then-entry_of-lt0 c =
    let here = (goal.at.returns-then-entry_of-lt0 c).After-entry_of in
    sym (first_negative_is (whole here) c.loop-j.j
    (omega (arith, length-whole (length c.args.row.now - 1) c.args.variables c.args.numbers.now c.args.row.now))
    c.loop-j.invariant (tested here true c.if-entry_of-lt0.true))

pub loop-j-preserved : goal.loop-j-preserved
unfolding whole
loop-j-preserved c =
    let here = (goal.at.loop-j-preserved c).After-entry_of in
    below_more (λ k. is_negative (number (whole here) k) ≡ false) c.loop-j.j c.loop-j.invariant (tested here false c.if-entry_of-lt0.false)

pub returns : goal.returns
returns c =
    let row = extended (columns_of (length c.args.row.now - 1) c.args.variables c.args.numbers.now) c.args.row.now in
    sym (first_negative_none row
    (λ k low.
    c.loop-j.invariant k
    (omega (arith, length-whole (length c.args.row.now - 1) c.args.variables c.args.numbers.now c.args.row.now))))

pub returns-in-Some : goal.returns-in-Some
returns-in-Some c =
    let h = length c.args.row.now - 1 in
    let row = extended (columns_of h c.args.variables c.args.numbers.now) c.args.row.now in
    let found = c.in-Some.ensures.some in
    sym (first_negative_is row c.in-Some.j
    (omega (arith, length-whole h c.args.variables c.args.numbers.now c.args.row.now, found.within, c.requires.some))
    (λ k low.
    ap is_negative (number_of_column h c.args.variables c.args.numbers.now c.args.row.now k (omega (arith, low, found.within)))
    ∙ found.before.each k (omega arith) low)
    (ap is_negative (number_of_column h c.args.variables c.args.numbers.now c.args.row.now c.in-Some.j found.within) ∙ found.here))

pub loop-j-init : goal.loop-j-init
loop-j-init c = λ k low.
    ap is_negative (number_of_column (length c.args.row.now - 1) c.args.variables c.args.numbers.now c.args.row.now k low)
    ∙ (c.in_default.ensures.none refl).each k (omega arith) low
