use Rattle.hub_io.specs.Outside.{AppendsBut}
use Rattle.machine_io.proofs.sink.write_whole.Given as goal

abbrev pub invariant-loop : goal.invariant-loop
invariant-loop g l = AppendsBut (g.W.Write.contents l.fn.stream) (g.W.Write.contents l.stream) l.piece l.rest
