use Rattle.std.proofs.Common.{length, subst}
use Rattle.plain_rows.specs.Choices.{IsLeastBelow}
use Rattle.plain_rows.proofs.Choices.{entering_is}
use Rattle.plain_rows.proofs.pivots.entering.Goals as goal

pub returns-clause-value : goal.returns-clause-value
returns-clause-value c =
    entering_is c.args.outside.now c.args.numbers.now c.args.basis.now c.requires c.least_negative.result
    (subst (λ row. IsLeastBelow c.args.outside.now row (length c.args.outside.now) c.least_negative.result) c.part.ensures.value c.least_negative.ensures)
