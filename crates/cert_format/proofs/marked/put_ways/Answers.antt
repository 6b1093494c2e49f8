use Rattle.std.proofs.Common.{refl, ap, is_ok, is_err, arith}
use Rattle.cert_format.proofs.Following.{list_more, list_stop, list_end}
use Rattle.cert_format.proofs.marked.put_ways.Goals as goal

pub returns-in_err-put_way : goal.returns-in_err-put_way
returns-in_err-put_way g c =
    list_stop (0, 0, 0) c.loop-way.invariant c.put_way.ensures (ap is_err c.in_err-put_way.was) c.from_residual.ensures.0 (omega arith)
    refl

pub loop-way-preserved : goal.loop-way-preserved
loop-way-preserved g c =
    list_more (0, 0, 0) c.loop-way.invariant c.put_way.ensures (ap is_ok c.in_ok-put_way.was) (omega arith)
    refl

pub returns : goal.returns
returns g c = list_end c.loop-way.invariant (omega arith)
