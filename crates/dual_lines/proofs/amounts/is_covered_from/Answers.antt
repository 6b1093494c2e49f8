use Rattle.std.proofs.Common.{ℕ, ◌*◌, ◌↔◌, true, false, List, IsTrue, All, refl, ap, subst, ◌∙◌, arith}
use Rattle.dual_lines.specs.Covers.{IsCoveredBy}
use Rattle.hub_spec.proofs.AllLoops.{all_ended, all_broken, all_goes_on}
use Rattle.dual_lines.proofs.DualByAmounts.{covered_by_collection}
use Rattle.dual_lines.proofs.amounts.is_covered_from.Goals as goal

pub returns-then-line-collection : goal.returns-then-line-collection
returns-then-line-collection c =
    let line = c.args.line in
    let whole = c.times_part-collection.ensures.value ∙ ap (λ (x : ℕ). line.part * x) c.collection_cost.ensures.value in (
      λ _. covered_by_collection c.args.instance.now line.part (line.from, line.to) line.price c.args.amounts.now c.args.k
          (omega (arith, whole, c.if-line-collection.true)),
      λ _. refl,
    )

pub returns-then-not-is_covered_by : goal.returns-then-not-is_covered_by
returns-then-not-is_covered_by c =
    let P = IsCoveredBy c.args.instance.now c.args.line.part (c.args.line.from, c.args.line.to) c.args.line.price c.args.amounts.now c.args.k in
    subst (λ (cs : List ℕ). IsTrue false ↔ All P cs) c.candidates-candidates.ensures.value
    (all_broken P c.candidates-candidates.result.now c.loop-m.m-index 0 c.is_covered_by.result c.loop-m-test.true c.is_covered_by.ensures c.if-not-is_covered_by.true)

pub loop-m-preserved : goal.loop-m-preserved
loop-m-preserved c =
    let P = IsCoveredBy c.args.instance.now c.args.line.part (c.args.line.from, c.args.line.to) c.args.line.price c.args.amounts.now c.args.k in
    all_goes_on P c.candidates-candidates.result.now c.loop-m.m-index 0 c.is_covered_by.result c.loop-m-test.true c.is_covered_by.ensures
    c.if-not-is_covered_by.false c.loop-m.invariant

pub returns : goal.returns
returns c =
    let P = IsCoveredBy c.args.instance.now c.args.line.part (c.args.line.from, c.args.line.to) c.args.line.price c.args.amounts.now c.args.k in
    subst (λ (cs : List ℕ). IsTrue true ↔ All P cs) c.candidates-candidates.ensures.value
    (all_ended P c.candidates-candidates.result.now c.loop-m.m-index c.loop-m-test.false c.loop-m.invariant)
