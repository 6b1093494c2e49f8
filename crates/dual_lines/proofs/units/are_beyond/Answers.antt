use Rattle.std.proofs.Common.{arith}
use Rattle.std.proofs.lemmas.Bool.{leb-true}
use Rattle.dual_lines.proofs.units.are_beyond.Goals as goal

pub returns : goal.returns
returns c = λ yes y below.
    omega (arith, leb-true 4611686018427387904 c.loop-y.common yes, c.loop-y.invariant y (omega (arith, below)), c.requires.bound)
