use Rattle.std.proofs.Common.{arith}
use Rattle.cert_format.proofs.DualRows.{one_more_equal}
use Rattle.cert_format.proofs.rows.equal_duals.Goals as goal

pub loop-end-preserved : goal.loop-end-preserved
loop-end-preserved c =
    one_more_equal c.args.row.now c.args.j c.loop-end.end (omega arith) (omega arith) (c.is_same.ensures.0 c.if-not-is_same.false) c.loop-end.invariant
