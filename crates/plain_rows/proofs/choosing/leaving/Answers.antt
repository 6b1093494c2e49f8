use Rattle.std.proofs.Common.{◌∙◌, get_or, arith}
use Rattle.plain_rows.proofs.Choices.{leaving_all}
use Rattle.plain_rows.proofs.choosing.leaving.Goals as goal

pub returns-clause-value : goal.returns-clause-value
returns-clause-value c =
    c.loop-i.invariant.value ∙ leaving_all c.args.outside.now c.args.numbers.now c.args.basis.now (get_or c.args.outside.now c.args.place 0) c.loop-i.i (omega arith)
