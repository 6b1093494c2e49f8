use Rattle.std.proofs.Common.{All, take}
use Rattle.cert_lines.specs.Paths.{next}
use Rattle.cert_lines.specs.Blocks.{IsBlockedBy}
use Rattle.cert_lines.proofs.paths.TreePath.is_blocked_from.Given as goal

abbrev pub invariant-loop-m : goal.invariant-loop-m
invariant-loop-m l = All (IsBlockedBy l.instance (next l.self.pending) (l.i, l.j) l.k) (take l.m-index l.candidates)
