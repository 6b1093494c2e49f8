use Rattle.std.proofs.Common.{ℕ, List, ap, ap₂, ◌∙◌, rules}
use Rattle.hub_model.specs.Amounts.{natural}
use Rattle.hub_model.specs.Prices.{natural_values}
use Rattle.hub_model.proofs.ListedValues.{listed_again}
use Rattle.cert_spec.specs.Lines.{says_dual}
use Rattle.cert_spec.specs.Text.{line_bytes}
use Rattle.cert_format.proofs.Amounts.{same_amount}
use Rattle.cert_format.proofs.Written.{values_natural}
use Rattle.cert_format.proofs.Following.{as_text}
use Rattle.proof_text.proofs.dual_runs.put_run.Goals as goal

pub put_dual-requires-clause-values : goal.put_dual-requires-clause-values
put_dual-requires-clause-values g c = values_natural c.args.lender.now.held.u c.held-a.result.1.now c.held-a.ensures.values

pub returns : goal.returns
returns g c =
    let held = c.args.lender.now.held in
    as_text (ap₂ (λ (a : ℕ) (u : List (ℕ × ℕ)). line_bytes (says_dual (c.args.i, c.args.first) c.args.run (record { a = a; u = u })))
    (same_amount c.held-a.result.0 (search rules) ∙ ap natural c.held-a.ensures.price)
    (ap natural_values c.held-a.ensures.values ∙ listed_again held.u))
    c.put_dual.ensures
