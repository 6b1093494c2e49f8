use Rattle.std.proofs.Common.{◌∷◌, ◌+◌, get_or, ap, is_ok, is_err, decimal, append-nil, arith}
use Rattle.cert_format.proofs.Following.{list_more, list_stop, list_end}
use Rattle.network_report.proofs.lines.put_nodes.Goals as goal

pub returns-in_err-put_pieces : goal.returns-in_err-put_pieces
returns-in_err-put_pieces g c =
    list_stop 0 c.loop-node.invariant c.put_pieces.ensures (ap is_err c.in_err-put_pieces.was) c.from_residual.ensures.0 (omega arith)
    (ap (λ ds. 32 ∷ ds) (append-nil (decimal (get_or c.args.nodes.now c.loop-node.node-index 0 + 1))))

pub loop-node-preserved : goal.loop-node-preserved
loop-node-preserved g c =
    list_more 0 c.loop-node.invariant c.put_pieces.ensures (ap is_ok c.in_ok-put_pieces.was) (omega arith)
    (ap (λ ds. 32 ∷ ds) (append-nil (decimal (get_or c.args.nodes.now c.loop-node.node-index 0 + 1))))

pub returns : goal.returns
returns g c = list_end c.loop-node.invariant (omega arith)
