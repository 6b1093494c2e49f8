use Rattle.std.proofs.Common.{ap, is_ok, is_err}
use Rattle.cert_format.proofs.Written.{leaf_text}
use Rattle.cert_format.proofs.Following.{as_text, then_put, then_none}
use Rattle.cert_format.proofs.lines.put_leaf.Goals as goal

pub returns-in_err-put_words : goal.returns-in_err-put_words
returns-in_err-put_words g c =
    as_text (leaf_text c.denominator-denominator.result c.args.mix.now.denom c.args.mix.now.weights c.denominator-denominator.ensures)
    (then_none _ c.put_words.ensures (ap is_err c.in_err-put_words.was) c.from_residual.ensures.0)

pub returns-in_err-put_weights : goal.returns-in_err-put_weights
returns-in_err-put_weights g c =
    as_text (leaf_text c.denominator-denominator.result c.args.mix.now.denom c.args.mix.now.weights c.denominator-denominator.ensures)
    (then_put c.put_words.ensures (ap is_ok c.in_ok-put_words.was)
    (then_none _ c.put_weights.ensures (ap is_err c.in_err-put_weights.was) c.from_residual-in_err-put_weights.ensures.0))

pub returns : goal.returns
returns g c =
    as_text (leaf_text c.denominator-denominator.result c.args.mix.now.denom c.args.mix.now.weights c.denominator-denominator.ensures)
    (then_put c.put_words.ensures (ap is_ok c.in_ok-put_words.was)
    (then_put c.put_weights.ensures (ap is_ok c.in_ok-put_weights.was)
    (c.put.ensures)))
