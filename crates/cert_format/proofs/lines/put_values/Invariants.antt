use Rattle.cert_format.specs.Spaced.{spaced_value}
use Rattle.cert_format.proofs.Following.{HasPut}
use Rattle.cert_format.proofs.lines.put_values.Given as goal

abbrev pub invariant-loop-value : goal.invariant-loop-value
invariant-loop-value g l = (let s = g.K.Sink in HasPut s.taken s.faults l.initial.sink l.sink l.initial.buffer l.buffer spaced_value l.values l.value-index)
