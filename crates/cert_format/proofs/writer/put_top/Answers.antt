use Rattle.std.proofs.Common.{ap, is_ok, is_err}
use Rattle.cert_scan.specs.Versions.{version_number}
use Rattle.cert_format.proofs.Putting.{top_text}
use Rattle.cert_format.proofs.Following.{as_text, then_put, then_none}
use Rattle.cert_format.proofs.writer.put_top.Goals as goal

pub returns-in_err-put_head : goal.returns-in_err-put_head
returns-in_err-put_head g c =
    as_text (top_text (version_number c.args.heading.now.version) c.args.heading.now.size c.args.heading.now.candidates c.args.heading.now.cost
    c.args.heading.now.bound c.args.plan.now c.args.cuts c.hubs-hubs.ensures.hubs c.routes-routes.ensures)
    (then_none _ c.put_head.ensures (ap is_err c.in_err-put_head.was) c.from_residual.ensures.0)

pub returns-in_err-put_hubs : goal.returns-in_err-put_hubs
returns-in_err-put_hubs g c =
    as_text (top_text (version_number c.args.heading.now.version) c.args.heading.now.size c.args.heading.now.candidates c.args.heading.now.cost
    c.args.heading.now.bound c.args.plan.now c.args.cuts c.hubs-hubs.ensures.hubs c.routes-routes.ensures)
    (then_put c.put_head.ensures (ap is_ok c.in_ok-put_head.was)
    (then_none _ c.put_hubs.ensures (ap is_err c.in_err-put_hubs.was) c.from_residual-in_err-put_hubs.ensures.0))

pub returns-in_err-put_routes : goal.returns-in_err-put_routes
returns-in_err-put_routes g c =
    as_text (top_text (version_number c.args.heading.now.version) c.args.heading.now.size c.args.heading.now.candidates c.args.heading.now.cost
    c.args.heading.now.bound c.args.plan.now c.args.cuts c.hubs-hubs.ensures.hubs c.routes-routes.ensures)
    (then_put c.put_head.ensures (ap is_ok c.in_ok-put_head.was)
    (then_put c.put_hubs.ensures (ap is_ok c.in_ok-put_hubs.was)
    (then_none _ c.put_routes.ensures (ap is_err c.in_err-put_routes.was) c.from_residual-in_err-put_routes.ensures.0)))

pub returns : goal.returns
returns g c =
    as_text (top_text (version_number c.args.heading.now.version) c.args.heading.now.size c.args.heading.now.candidates c.args.heading.now.cost
    c.args.heading.now.bound c.args.plan.now c.args.cuts c.hubs-hubs.ensures.hubs c.routes-routes.ensures)
    (then_put c.put_head.ensures (ap is_ok c.in_ok-put_head.was)
    (then_put c.put_hubs.ensures (ap is_ok c.in_ok-put_hubs.was)
    (then_put c.put_routes.ensures (ap is_ok c.in_ok-put_routes.was)
    (c.put_line.ensures))))
