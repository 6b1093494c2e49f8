use Rattle.leaf_bound.specs.Numbers.{rows_of}
use Rattle.leaf_bound.specs.Weighing.{IsWeighedTo, AreLoadsTo}
use Rattle.leaf_bound.proofs.weighing.weigh.Given as goal

abbrev pub invariant-loop-c : goal.invariant-loop-c
invariant-loop-c l = record {
  base : IsWeighedTo l.weighting.weights.now l.weighting.parts.now l.weighting.totals.now l.c l.base;
  loads : AreLoadsTo l.weighting.weights.now l.weighting.parts.now (rows_of l.weighting) l.c l.sums;
}
