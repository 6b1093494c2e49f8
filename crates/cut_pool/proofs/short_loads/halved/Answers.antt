use Rattle.std.proofs.Common.{◌∙◌, arith}
use Rattle.cut_pool.proofs.ShortRows.{shifted_out}
use Rattle.cut_pool.proofs.short_loads.halved.Goals as goal

pub returns : goal.returns
returns c = c.unwrap_or.ensures ∙ shifted_out c.args.number c.args.halvings c.checked_shr.result (omega arith) c.checked_shr.ensures
