use Rattle.std.proofs.Common.{◌∙◌, ◌++◌, ◌∷◌, [], map, pos, FitsSigned, sym, ap₂, arith, rules}
use Rattle.std.specs.Int.{w64}
use Rattle.std.proofs.lemmas.Int.{to_z-of_z}
use Rattle.std.proofs.lemmas.List.{take_more, take_all}
use Rattle.frac_rows.specs.Rows.{right_side}
use Rattle.plain_rows.proofs.GivenRows.{numbers_of, length_rights_of}
use Rattle.plain_rows.proofs.given.rights_of.Goals as goal

pub loop-i-preserved : goal.loop-i-preserved
loop-i-preserved c =
    let rights = map right_side (numbers_of c.args.constraints.now) in
    let low = length_rights_of c.args.constraints.now in
    let fits : FitsSigned w64 c.right_of.result = search rules in
    c.in_ok-push.ensures.items ∙ ap₂ (λ xs x. xs ++ x ∷ []) c.loop-i.invariant (to_z-of_z w64 c.right_of.result fits ∙ c.right_of.ensures)
    ∙ sym (take_more rights c.loop-i.i (pos 0) (omega (arith, low, c.loop-i-test.true)))

pub returns : goal.returns
returns c =
    let rights = map right_side (numbers_of c.args.constraints.now) in
    let low = length_rights_of c.args.constraints.now in
    c.loop-i.invariant ∙ take_all c.loop-i.i rights (omega (arith, low, c.loop-i-test.false))
