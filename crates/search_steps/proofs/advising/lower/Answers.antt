use Rattle.std.proofs.Common.{arith}
use Rattle.search_steps.proofs.MasterNumbers.{lowered_each}
use Rattle.search_steps.proofs.advising.lower.Goals as goal

pub returns : goal.returns
returns c =
    lowered_each c.args.weights.now c.loop-c.weights c.args.parts.now c.loop-c.auto.weights c.requires.long
    (λ k low. c.loop-c.invariant.done k (omega (arith, low, c.loop-c-test.false)))
