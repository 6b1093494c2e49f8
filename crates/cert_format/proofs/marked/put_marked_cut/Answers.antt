use Rattle.std.proofs.Common.{ap, is_ok, is_err}
use Rattle.cert_format.proofs.MarkedLines.{marked_text}
use Rattle.cert_format.proofs.Following.{as_text, then_put, then_none}
use Rattle.cert_format.proofs.marked.put_marked_cut.Goals as goal

pub returns-in_err-put_words : goal.returns-in_err-put_words
returns-in_err-put_words g c =
    as_text (marked_text c.args.x c.args.part c.args.hubs.now)
    (then_none _ c.put_words.ensures (ap is_err c.in_err-put_words.was) c.from_residual.ensures.0)

pub returns-in_err-put : goal.returns-in_err-put
returns-in_err-put g c =
    as_text (marked_text c.args.x c.args.part c.args.hubs.now)
    (then_put c.put_words.ensures (ap is_ok c.in_ok-put_words.was)
    (then_none _ c.put.ensures (ap is_err c.in_err-put.was) c.from_residual-in_err-put.ensures.0))

pub returns-in_err-put_nodes : goal.returns-in_err-put_nodes
returns-in_err-put_nodes g c =
    as_text (marked_text c.args.x c.args.part c.args.hubs.now)
    (then_put c.put_words.ensures (ap is_ok c.in_ok-put_words.was)
    (then_put c.put.ensures (ap is_ok c.in_ok-put.was)
    (then_none _ c.put_nodes.ensures (ap is_err c.in_err-put_nodes.was) c.from_residual-in_err-put_nodes.ensures.0)))

pub returns : goal.returns
returns g c =
    as_text (marked_text c.args.x c.args.part c.args.hubs.now)
    (then_put c.put_words.ensures (ap is_ok c.in_ok-put_words.was)
    (then_put c.put.ensures (ap is_ok c.in_ok-put.was)
    (then_put c.put_nodes.ensures (ap is_ok c.in_ok-put_nodes.was)
    (c.put-2.ensures))))
