use Rattle.std.proofs.Common.{◌≡◌, ℕ, ◌+◌, length, take, get_or}
use Rattle.hub_spec.specs.Cuts.{value_at}
use Rattle.cut_model.proofs.RunSums.{as_often}
use Rattle.cut_model.proofs.sums.add_values.Given as goal

abbrev pub invariant-loop-at : goal.invariant-loop-at
invariant-loop-at l = record {
  long : length l.loads ≡ length l.fn.loads;
  each : (k : ℕ) → get_or l.loads k 0 ≡ get_or l.fn.loads k 0 + value_at (take l.at (as_often l.many l.dual.u)) k;
}
