use Rattle.cert_format.proofs.Following.{HasPut}
use Rattle.network_report.specs.Texts.{flows_line}
use Rattle.network_report.proofs.lines.put_flows.Given as goal

abbrev pub invariant-loop-hub : goal.invariant-loop-hub
invariant-loop-hub g l = (let s = g.K.Sink in HasPut s.taken s.faults l.initial.sink l.sink l.initial.buffer l.buffer (flows_line l.instance l.plan) l.hub-items l.hub-index)
