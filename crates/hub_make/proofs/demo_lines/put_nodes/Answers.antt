use Rattle.std.proofs.Common.{ap, is_ok, is_err, subst, arith}
use Rattle.hub_io.specs.Outside.{PutsThrough}
use Rattle.hub_io.proofs.Through.{through_none}
use Rattle.dec_text.proofs.PutPieces.{two_stop, two_on}
use Rattle.hub_make.proofs.DemoJoining.{next_node, no_node}
use Rattle.hub_make.proofs.demo_lines.put_nodes.Goals as goal

pub returns-in_err-put_node : goal.returns-in_err-put_node
returns-in_err-put_node g c =
    c.loop-node.invariant _ _ _
    (two_stop _ _ _ _ _ _ _ _ _ _ (next_node c.args.nodes.now c.loop-node.node-index (omega arith)) (ap is_err c.in_err-put_node.was)
    c.from_residual.ensures.0 c.put_node.ensures)

pub loop-node-preserved : goal.loop-node-preserved
loop-node-preserved g c last rest r more =
    c.loop-node.invariant last rest r
    (two_on _ _ _ _ _ _ _ _ _ _ _ (next_node c.args.nodes.now c.loop-node.node-index (omega arith)) (ap is_ok c.in_ok-put_node.was) c.put_node.ensures more)

pub returns : goal.returns
returns g c =
    c.loop-node.invariant _ _ _
    (let s = g.K.Sink in subst (PutsThrough s.taken s.faults _ _ _ _ _) (no_node c.args.nodes.now c.loop-node.node-index (omega arith)) (through_none _ _))
