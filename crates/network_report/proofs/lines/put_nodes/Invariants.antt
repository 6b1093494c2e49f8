use Rattle.cert_format.specs.Spaced.{spaced_node}
use Rattle.cert_format.proofs.Following.{HasPut}
use Rattle.network_report.proofs.lines.put_nodes.Given as goal

abbrev pub invariant-loop-node : goal.invariant-loop-node
invariant-loop-node g l = (let s = g.K.Sink in HasPut s.taken s.faults l.initial.sink l.sink l.initial.buffer l.buffer spaced_node l.nodes l.node-index)
