use Rattle.std.proofs.Common.{ap, ◌∙◌, is_ok, is_err, arith}
use Rattle.cert_format.proofs.Following.{list_more, list_stop, list_end}
use Rattle.proof_text.proofs.together.put_texts.Goals as goal

pub returns-in_err-put : goal.returns-in_err-put
returns-in_err-put g c =
    list_stop c.text-item.result c.loop-text.invariant c.put.ensures (ap is_err c.in_err-put.was) c.from_residual.ensures.0 (omega arith)
    (c.deref.ensures.value ∙ ap (λ text. text.items) c.text-item.is)

pub loop-text-preserved : goal.loop-text-preserved
loop-text-preserved g c =
    list_more c.text-item.result c.loop-text.invariant c.put.ensures (ap is_ok c.in_ok-put.was) (omega arith)
    (c.deref.ensures.value ∙ ap (λ text. text.items) c.text-item.is)

pub returns : goal.returns
returns g c = list_end c.loop-text.invariant (omega arith)
