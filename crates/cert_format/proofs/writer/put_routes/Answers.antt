use Rattle.std.proofs.Common.{ap, is_ok, is_err, arith}
use Rattle.cert_spec.specs.Lines.{says_end}
use Rattle.cert_format.proofs.Putting.{length_route_items, route_at}
use Rattle.cert_format.proofs.Following.{list_more, list_stop, list_end}
use Rattle.cert_format.proofs.writer.put_routes.Goals as goal

pub returns-in_err-put_route : goal.returns-in_err-put_route
returns-in_err-put_route g c =
    list_stop says_end c.loop-t.invariant c.put_route.ensures (ap is_err c.in_err-put_route.was) c.from_residual.ensures.0 (omega (arith, length_route_items c.args.n c.args.routes.now c.requires.whole))
    (route_at c.args.n c.args.routes.now c.loop-t.t says_end (omega arith) c.requires.whole)

pub loop-t-preserved : goal.loop-t-preserved
loop-t-preserved g c =
    list_more says_end c.loop-t.invariant c.put_route.ensures (ap is_ok c.in_ok-put_route.was) (omega (arith, length_route_items c.args.n c.args.routes.now c.requires.whole))
    (route_at c.args.n c.args.routes.now c.loop-t.t says_end (omega arith) c.requires.whole)

pub returns : goal.returns
returns g c = list_end c.loop-t.invariant (omega (arith, length_route_items c.args.n c.args.routes.now c.requires.whole))
