use Rattle.std.proofs.Common.{codes, ◌∙◌, ap, is_ok, is_err}
use Rattle.hub_spec.specs.Problem.{opening_cost}
use Rattle.cert_format.proofs.Following.{as_text, then_put, then_none}
use Rattle.network_report.specs.Texts.{cost_line}
use Rattle.network_report.proofs.lines.put_totals.Goals as goal

pub returns-in_err-put_cost : goal.returns-in_err-put_cost
returns-in_err-put_cost g c =
    (then_none _ (as_text (ap (cost_line (codes "fixed")) (c.opening_cost-fixed.ensures.value ∙ ap (opening_cost c.args.instance.now) c.hubs.ensures)) c.put_cost.ensures) (ap is_err c.in_err-put_cost.was) c.from_residual.ensures.0)

pub returns-in_err-put_cost-2 : goal.returns-in_err-put_cost-2
returns-in_err-put_cost-2 g c =
    (then_put (as_text (ap (cost_line (codes "fixed")) (c.opening_cost-fixed.ensures.value ∙ ap (opening_cost c.args.instance.now) c.hubs.ensures)) c.put_cost.ensures) (ap is_ok c.in_ok-put_cost.was)
    (then_none _ (as_text (ap (cost_line (codes "total")) c.cost.ensures) c.put_cost-2.ensures) (ap is_err c.in_err-put_cost-2.was) c.from_residual-in_err-put_cost-2.ensures.0))

pub returns : goal.returns
returns g c =
    (then_put (as_text (ap (cost_line (codes "fixed")) (c.opening_cost-fixed.ensures.value ∙ ap (opening_cost c.args.instance.now) c.hubs.ensures)) c.put_cost.ensures) (ap is_ok c.in_ok-put_cost.was)
    (then_put (as_text (ap (cost_line (codes "total")) c.cost.ensures) c.put_cost-2.ensures) (ap is_ok c.in_ok-put_cost-2.was)
    (as_text (ap (cost_line (codes "bound")) c.bound.ensures) c.put_cost-3.ensures)))
