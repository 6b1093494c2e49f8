use Rattle.std.proofs.Common.{flat_map}
use Rattle.cert_spec.specs.Text.{line_bytes, proved_items}
use Rattle.cert_format.proofs.MarkedLines.{lines_from}
use Rattle.cert_format.proofs.Following.{HasPutFront}
use Rattle.cert_format.proofs.marked.put_proved_duals.Given as goal

abbrev pub invariant-loop-t : goal.invariant-loop-t
invariant-loop-t g l = (let s = g.K.Sink in HasPutFront s.taken s.faults l.initial.sink l.sink l.initial.buffer l.buffer
    (lines_from l.n l.t l.cut.duals l.proofs) (flat_map line_bytes (proved_items l.n 0 l.cut.duals l.proofs)))
