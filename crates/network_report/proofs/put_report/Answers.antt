use Rattle.std.proofs.Common.{flat_map, ◌∙◌, ap, is_ok, is_err}
use Rattle.hub_spec.specs.Plans.{Plan}
use Rattle.cert_format.proofs.Following.{as_text, then_put, then_none}
use Rattle.network_report.specs.Texts.{status_line, hubs_line, leg_lines, listed_line, flows_line, report_text}
use Rattle.network_report.proofs.put_report.Goals as goal

pub returns-in_err-put_status : goal.returns-in_err-put_status
unfolding report_text
returns-in_err-put_status g c =
    (then_none _ (as_text (ap status_line c.is_optimal.ensures) c.put_status.ensures) (ap is_err c.in_err-put_status.was) c.from_residual.ensures.0)

pub returns-in_err-put_hubs : goal.returns-in_err-put_hubs
unfolding report_text
returns-in_err-put_hubs g c =
    (then_put (as_text (ap status_line c.is_optimal.ensures) c.put_status.ensures) (ap is_ok c.in_ok-put_status.was)
    (then_none _ (as_text (ap hubs_line (c.hubs.ensures.hubs ∙ ap (λ (s : Plan). s.hubs) c.plan-plan.ensures.value)) c.put_hubs.ensures) (ap is_err c.in_err-put_hubs.was) c.from_residual-in_err-put_hubs.ensures.0))

pub returns-in_err-put_legs : goal.returns-in_err-put_legs
unfolding report_text
returns-in_err-put_legs g c =
    (then_put (as_text (ap status_line c.is_optimal.ensures) c.put_status.ensures) (ap is_ok c.in_ok-put_status.was)
    (then_put (as_text (ap hubs_line (c.hubs.ensures.hubs ∙ ap (λ (s : Plan). s.hubs) c.plan-plan.ensures.value)) c.put_hubs.ensures) (ap is_ok c.in_ok-put_hubs.was)
    (then_none _ (as_text (ap (leg_lines c.args.instance.now) c.plan-plan.ensures.value) c.put_legs.ensures) (ap is_err c.in_err-put_legs.was) c.from_residual-in_err-put_legs.ensures.0)))

pub returns-in_err-put_totals : goal.returns-in_err-put_totals
unfolding report_text
returns-in_err-put_totals g c =
    (then_put (as_text (ap status_line c.is_optimal.ensures) c.put_status.ensures) (ap is_ok c.in_ok-put_status.was)
    (then_put (as_text (ap hubs_line (c.hubs.ensures.hubs ∙ ap (λ (s : Plan). s.hubs) c.plan-plan.ensures.value)) c.put_hubs.ensures) (ap is_ok c.in_ok-put_hubs.was)
    (then_put (as_text (ap (leg_lines c.args.instance.now) c.plan-plan.ensures.value) c.put_legs.ensures) (ap is_ok c.in_ok-put_legs.was)
    (then_none _ c.put_totals.ensures (ap is_err c.in_err-put_totals.was) c.from_residual-in_err-put_totals.ensures.0))))

pub returns-in_err-put_listed : goal.returns-in_err-put_listed
unfolding report_text
returns-in_err-put_listed g c =
    (then_put (as_text (ap status_line c.is_optimal.ensures) c.put_status.ensures) (ap is_ok c.in_ok-put_status.was)
    (then_put (as_text (ap hubs_line (c.hubs.ensures.hubs ∙ ap (λ (s : Plan). s.hubs) c.plan-plan.ensures.value)) c.put_hubs.ensures) (ap is_ok c.in_ok-put_hubs.was)
    (then_put (as_text (ap (leg_lines c.args.instance.now) c.plan-plan.ensures.value) c.put_legs.ensures) (ap is_ok c.in_ok-put_legs.was)
    (then_put c.put_totals.ensures (ap is_ok c.in_ok-put_totals.was)
    (then_none _ (as_text (ap listed_line c.listed_p.ensures) c.put_listed.ensures) (ap is_err c.in_err-put_listed.was) c.from_residual-in_err-put_listed.ensures.0)))))

pub returns : goal.returns
unfolding report_text
returns g c =
    (then_put (as_text (ap status_line c.is_optimal.ensures) c.put_status.ensures) (ap is_ok c.in_ok-put_status.was)
    (then_put (as_text (ap hubs_line (c.hubs.ensures.hubs ∙ ap (λ (s : Plan). s.hubs) c.plan-plan.ensures.value)) c.put_hubs.ensures) (ap is_ok c.in_ok-put_hubs.was)
    (then_put (as_text (ap (leg_lines c.args.instance.now) c.plan-plan.ensures.value) c.put_legs.ensures) (ap is_ok c.in_ok-put_legs.was)
    (then_put c.put_totals.ensures (ap is_ok c.in_ok-put_totals.was)
    (then_put (as_text (ap listed_line c.listed_p.ensures) c.put_listed.ensures) (ap is_ok c.in_ok-put_listed.was)
    (as_text (ap (λ (s : Plan). flat_map (flows_line c.args.instance.now s) s.hubs) c.plan-plan.ensures.value) c.put_flows.ensures))))))
