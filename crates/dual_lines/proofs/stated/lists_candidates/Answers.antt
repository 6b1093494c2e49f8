use Rattle.std.proofs.Common.{ℕ, ◌↔◌, IsTrue, get_or, Contains, subst, arith}
use Rattle.hub_spec.proofs.AllLoops.{all_ended, all_broken, all_goes_on}
use Rattle.dual_lines.proofs.stated.lists_candidates.Goals as goal
use Rattle.dual_lines.proofs.stated.lists_candidates.Goals.{After-is_among}

said : (c : After-is_among) → IsTrue c.is_among.result ↔ Contains c.args.instance.now.candidates (get_or c.args.dual.now.u c.loop-at.at (0, 0)).0
said c =
    let node = (get_or c.args.dual.now.u c.loop-at.at (0, 0)).0 in
    subst (λ s. IsTrue c.is_among.result ↔ Contains s node) c.candidates-candidates.ensures.value
    (subst (λ (k : ℕ). IsTrue c.is_among.result ↔ Contains c.candidates-candidates.result.now k) c.value.ensures.node c.is_among.ensures)

pub returns-then-not-is_among : goal.returns-then-not-is_among
returns-then-not-is_among c =
    all_broken (λ (e : ℕ × ℕ). Contains c.args.instance.now.candidates e.0) c.args.dual.now.u c.loop-at.at (0, 0) c.is_among.result
    (omega arith) (said (goal.at.returns-then-not-is_among c).After-is_among) c.if-not-is_among.true

pub loop-at-preserved : goal.loop-at-preserved
loop-at-preserved c =
    all_goes_on (λ (e : ℕ × ℕ). Contains c.args.instance.now.candidates e.0) c.args.dual.now.u c.loop-at.at (0, 0) c.is_among.result
    (omega arith) (said (goal.at.loop-at-preserved c).After-is_among) c.if-not-is_among.false c.loop-at.invariant

pub returns : goal.returns
returns c =
    all_ended (λ (e : ℕ × ℕ). Contains c.args.instance.now.candidates e.0) c.args.dual.now.u c.loop-at.at (omega arith) c.loop-at.invariant
