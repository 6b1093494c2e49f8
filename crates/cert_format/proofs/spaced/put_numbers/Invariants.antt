use Rattle.cert_format.specs.Spaced.{spaced}
use Rattle.cert_format.proofs.Following.{HasPut}
use Rattle.cert_format.proofs.spaced.put_numbers.Given as goal

abbrev pub invariant-loop-number : goal.invariant-loop-number
invariant-loop-number g l = (let s = g.K.Sink in HasPut s.taken s.faults l.initial.sink l.sink l.initial.buffer l.buffer spaced l.numbers l.number-index)
