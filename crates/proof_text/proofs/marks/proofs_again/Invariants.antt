use Rattle.std.proofs.Common.{◌≡◌, take}
use Rattle.proof_text.proofs.marks.proofs_again.Given as goal

abbrev pub invariant-loop-proof : goal.invariant-loop-proof
invariant-loop-proof l = l.again.items ≡ take l.proof-index l.proofs
