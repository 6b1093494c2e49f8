use Rattle.cert_format.specs.Spaced.{spaced_weight}
use Rattle.cert_format.proofs.Following.{HasPut}
use Rattle.cert_format.proofs.lines.put_weights.Given as goal

abbrev pub invariant-loop-at : goal.invariant-loop-at
invariant-loop-at g l = (let s = g.K.Sink in HasPut s.taken s.faults l.initial.sink l.sink l.initial.buffer l.buffer spaced_weight l.mix.weights l.at)
