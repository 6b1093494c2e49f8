use Rattle.std.proofs.Common.{◌∙◌, ◌+◌, length, FitsSigned, sym, arith, rules}
use Rattle.std.specs.Int.{w64}
use Rattle.std.proofs.lemmas.Int.{to_z-of_z}
use Rattle.frac_rows.specs.Rows.{number}
use Rattle.plain_rows.proofs.Spread.{number_at_place, number_of_owner, number_of_none}
use Rattle.plain_rows.proofs.entries.number_before_right.Goals as goal

pub returns-then-outside-c : goal.returns-then-outside-c
returns-then-outside-c c =
    let fits : FitsSigned w64 (number c.args.kept.now c.loop-c.c) = search rules in
    to_z-of_z w64 (number c.args.kept.now c.loop-c.c) fits
    ∙ sym (number_at_place c.args.outside.now c.args.kept.now c.args.owner c.args.column c.loop-c.c c.requires c.loop-c-test.true
    c.loop-c.invariant c.if-outside-c.true)

pub returns-then-column-owner : goal.returns-then-column-owner
returns-then-column-owner c =
    let own = number c.args.kept.now (length c.args.outside.now + 1) in
    let fits : FitsSigned w64 own = search rules in
    to_z-of_z w64 own fits
    ∙ sym (number_of_owner c.args.outside.now c.args.kept.now c.args.owner c.args.column c.requires
    (λ a low. c.loop-c.invariant a (omega (arith, low, c.loop-c-test.false))) c.if-column-owner.true)

pub returns : goal.returns
returns c =
    sym (number_of_none c.args.outside.now c.args.kept.now c.args.owner c.args.column c.requires
    (λ a low. c.loop-c.invariant a (omega (arith, low, c.loop-c-test.false))) c.if-column-owner.false)
