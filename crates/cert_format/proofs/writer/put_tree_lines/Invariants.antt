use Rattle.cert_format.proofs.Putting.{tree_line_bytes}
use Rattle.cert_format.proofs.Following.{HasPut}
use Rattle.cert_format.proofs.writer.put_tree_lines.Given as goal

abbrev pub invariant-loop-line : goal.invariant-loop-line
invariant-loop-line g l = (let s = g.K.Sink in HasPut s.taken s.faults l.initial.sink l.sink l.initial.buffer l.buffer tree_line_bytes l.lines l.line-index)
