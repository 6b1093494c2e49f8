use Rattle.std.proofs.Common.{◌≡◌, take}
use Rattle.proof_text.proofs.certificates.lines_again.Given as goal

abbrev pub invariant-loop-line : goal.invariant-loop-line
invariant-loop-line l = l.again.items ≡ take l.line-index l.lines
