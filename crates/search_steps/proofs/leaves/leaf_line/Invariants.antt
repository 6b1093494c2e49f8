use Rattle.std.proofs.Common.{◌≡◌, take}
use Rattle.hub_model.specs.Mixtures.{signed_weights}
use Rattle.search_steps.specs.Weights.{pairs_of}
use Rattle.search_steps.proofs.leaves.leaf_line.Given as goal

abbrev pub invariant-loop-place : goal.invariant-loop-place
invariant-loop-place l = l.pairs.items ≡ signed_weights (pairs_of (take l.place l.weights))
