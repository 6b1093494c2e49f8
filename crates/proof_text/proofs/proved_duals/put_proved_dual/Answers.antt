use Rattle.std.proofs.Common.{ap, ◌∙◌, is_ok, is_err, rules}
use Rattle.cert_spec.specs.Lines.{says_proof}
use Rattle.cert_spec.specs.Text.{line_bytes}
use Rattle.hub_model.specs.Amounts.{natural}
use Rattle.cert_format.proofs.Amounts.{same_amount}
use Rattle.cert_format.proofs.Written.{values_natural}
use Rattle.cert_format.proofs.Following.{as_text, then_put, then_none}
use Rattle.cut_pool.specs.Kept.{kept_of}
use Rattle.dual_lender.specs.Lenders.{made_dual}
use Rattle.proof_text.proofs.ProvedLines.{pair_text}
use Rattle.proof_text.proofs.proved_duals.put_proved_dual.Goals as goal

pub put_dual-requires-clause-values : goal.put_dual-requires-clause-values
put_dual-requires-clause-values g c =
    values_natural (made_dual (kept_of c.args.kept.now) c.args.lender.now).u c.dual-a.result.1.now c.dual-a.ensures.values

pub returns-in_err-put_dual : goal.returns-in_err-put_dual
returns-in_err-put_dual g c =
    as_text (pair_text c.args.commodity.0 c.args.commodity.1 (made_dual (kept_of c.args.kept.now) c.args.lender.now) c.args.proof.now
    (same_amount c.dual-a.result.0 (search rules) ∙ ap natural c.dual-a.ensures.price) c.dual-a.ensures.values)
    (then_none (line_bytes (says_proof c.args.proof.now)) c.put_dual.ensures (ap is_err c.in_err-put_dual.was) c.from_residual.ensures.0)

pub returns : goal.returns
returns g c =
    as_text (pair_text c.args.commodity.0 c.args.commodity.1 (made_dual (kept_of c.args.kept.now) c.args.lender.now) c.args.proof.now
    (same_amount c.dual-a.result.0 (search rules) ∙ ap natural c.dual-a.ensures.price) c.dual-a.ensures.values)
    (then_put c.put_dual.ensures (ap is_ok c.in_ok-put_dual.was) c.put_proof.ensures)
