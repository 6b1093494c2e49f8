use Rattle.std.specs.Io.KnownBytes.{Keeps}
use Rattle.machine_io.proofs.shelf.read_some.Given as goal

abbrev pub invariant-loop : goal.invariant-loop
invariant-loop g l = Keeps (g.T.Read.remaining l.fn.reader) (g.T.Read.remaining l.reader)
