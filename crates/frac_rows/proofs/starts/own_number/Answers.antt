use Rattle.std.proofs.Common.{◌∙◌, FitsSigned, sym, arith, rules}
use Rattle.std.specs.Int.{w64}
use Rattle.std.proofs.lemmas.Int.{to_z-of_z}
use Rattle.frac_rows.proofs.FirstRows.{own_one, own_zero, own_right}
use Rattle.frac_rows.proofs.starts.own_number.Goals as goal

pub returns-then-k-rights : goal.returns-then-k-rights
returns-then-k-rights c =
    let fits : FitsSigned w64 c.right_side.result = search rules in
    to_z-of_z w64 c.right_side.result fits ∙ c.right_side.ensures ∙ sym (own_right c.args.rights.now c.args.i c.args.k (omega arith))

pub returns-then-k-i : goal.returns-then-k-i
returns-then-k-i c = sym (own_one c.args.rights.now c.args.i c.args.k (omega arith) c.if-k-i.true)

pub returns : goal.returns
returns c = sym (own_zero c.args.rights.now c.args.i c.args.k (omega arith) c.if-k-i.false)
