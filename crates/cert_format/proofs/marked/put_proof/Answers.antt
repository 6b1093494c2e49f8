use Rattle.std.proofs.Common.{ap, is_ok, is_err}
use Rattle.cert_format.proofs.MarkedLines.{proof_text}
use Rattle.cert_format.proofs.Following.{as_text, then_put, then_none}
use Rattle.cert_format.proofs.marked.put_proof.Goals as goal

pub returns-in_err-put_words : goal.returns-in_err-put_words
returns-in_err-put_words g c =
    as_text (proof_text c.args.proof.now c.turns-turns.ensures c.scale-scale.ensures c.ways-ways.ensures)
    (then_none _ c.put_words.ensures (ap is_err c.in_err-put_words.was) c.from_residual.ensures.0)

pub returns-in_err-put_ways : goal.returns-in_err-put_ways
returns-in_err-put_ways g c =
    as_text (proof_text c.args.proof.now c.turns-turns.ensures c.scale-scale.ensures c.ways-ways.ensures)
    (then_put c.put_words.ensures (ap is_ok c.in_ok-put_words.was)
    (then_none _ c.put_ways.ensures (ap is_err c.in_err-put_ways.was) c.from_residual-in_err-put_ways.ensures.0))

pub returns : goal.returns
returns g c =
    as_text (proof_text c.args.proof.now c.turns-turns.ensures c.scale-scale.ensures c.ways-ways.ensures)
    (then_put c.put_words.ensures (ap is_ok c.in_ok-put_words.was)
    (then_put c.put_ways.ensures (ap is_ok c.in_ok-put_ways.was)
    (c.put.ensures)))
