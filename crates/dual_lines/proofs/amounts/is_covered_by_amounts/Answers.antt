use Rattle.std.proofs.Common.{ℕ, ◌↔◌, true, false, List, IsTrue, All, subst}
use Rattle.dual_lines.specs.Covers.{IsCoveredFirst}
use Rattle.hub_spec.proofs.AllLoops.{all_ended, all_broken, all_goes_on}
use Rattle.dual_lines.proofs.amounts.is_covered_by_amounts.Goals as goal

pub returns-then-not-is_covered_first : goal.returns-then-not-is_covered_first
returns-then-not-is_covered_first c =
    let P = IsCoveredFirst c.args.instance.now c.args.line.part (c.args.line.from, c.args.line.to) c.args.line.price c.args.amounts.now in
    subst (λ (cs : List ℕ). IsTrue false ↔ All P cs) c.candidates-candidates.ensures.value
    (all_broken P c.candidates-candidates.result.now c.loop-k.k-index 0 c.is_covered_first.result c.loop-k-test.true c.is_covered_first.ensures c.if-not-is_covered_first.true)

pub loop-k-preserved : goal.loop-k-preserved
loop-k-preserved c =
    let P = IsCoveredFirst c.args.instance.now c.args.line.part (c.args.line.from, c.args.line.to) c.args.line.price c.args.amounts.now in
    all_goes_on P c.candidates-candidates.result.now c.loop-k.k-index 0 c.is_covered_first.result c.loop-k-test.true c.is_covered_first.ensures
    c.if-not-is_covered_first.false c.loop-k.invariant

pub returns : goal.returns
returns c =
    let P = IsCoveredFirst c.args.instance.now c.args.line.part (c.args.line.from, c.args.line.to) c.args.line.price c.args.amounts.now in
    subst (λ (cs : List ℕ). IsTrue true ↔ All P cs) c.candidates-candidates.ensures.value
    (all_ended P c.candidates-candidates.result.now c.loop-k.k-index c.loop-k-test.false c.loop-k.invariant)
