use Rattle.cert_format.specs.Spaced.{spaced_way}
use Rattle.cert_format.proofs.Following.{HasPut}
use Rattle.cert_format.proofs.marked.put_ways.Given as goal

abbrev pub invariant-loop-way : goal.invariant-loop-way
invariant-loop-way g l = (let s = g.K.Sink in HasPut s.taken s.faults l.initial.sink l.sink l.initial.buffer l.buffer spaced_way l.ways l.way-index)
