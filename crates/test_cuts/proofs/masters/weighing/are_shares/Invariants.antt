use Rattle.std.proofs.Common.{◌≡◌, ◌+◌, sum, take}
use Rattle.test_cuts.proofs.masters.weighing.are_shares.Given as goal

abbrev pub invariant-loop-weight : goal.invariant-loop-weight
invariant-loop-weight l = l.left + sum (take l.weight-index l.weights) ≡ l.most
