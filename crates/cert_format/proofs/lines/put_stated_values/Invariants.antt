use Rattle.cert_format.specs.Spaced.{spaced_entry}
use Rattle.cert_format.proofs.Following.{HasPut}
use Rattle.cert_format.proofs.lines.put_stated_values.Given as goal

abbrev pub invariant-loop-at : goal.invariant-loop-at
invariant-loop-at g l = (let s = g.K.Sink in HasPut s.taken s.faults l.initial.sink l.sink l.initial.buffer l.buffer spaced_entry l.dual.u l.at)
