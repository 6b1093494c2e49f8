use Rattle.std.proofs.Common.{All, take}
use Rattle.cert_lines.specs.Paths.{next}
use Rattle.cert_lines.specs.Blocks.{IsBlockedFrom}
use Rattle.cert_lines.proofs.paths.TreePath.is_blocked.Given as goal

abbrev pub invariant-loop-k : goal.invariant-loop-k
invariant-loop-k l = All (IsBlockedFrom l.instance (next l.self.pending) (l.i, l.j)) (take l.k-index l.candidates)
