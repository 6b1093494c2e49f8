use Rattle.std.proofs.Common.{ℕ, ◌*◌, ◌≤◌, arith}
use Rattle.hub_spec.proofs.AllLoops.{all_ended, all_goes_on}
use Rattle.core_cuts.proofs.brought_duals.are_within.Goals as goal

pub loop-at-preserved : goal.loop-at-preserved
loop-at-preserved c =
    all_goes_on (λ (e : ℕ × ℕ). c.args.times * e.1 ≤ c.args.most) c.args.dual.now.u c.loop-at.at (0, 0) c.is_value_within.result (omega arith)
    c.is_value_within.ensures c.if-not-is_value_within.false c.loop-at.invariant

pub returns : goal.returns
returns c = all_ended (λ (e : ℕ × ℕ). c.args.times * e.1 ≤ c.args.most) c.args.dual.now.u c.loop-at.at (omega arith) c.loop-at.invariant
