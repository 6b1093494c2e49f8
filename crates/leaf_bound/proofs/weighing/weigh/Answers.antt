use Rattle.std.proofs.Common.{◌≡◌, ℕ, ◌+◌, length, get_or, refl, subst, sym, arith, rules}
use Rattle.leaf_bound.specs.Bounds.{loads_of}
use Rattle.leaf_bound.specs.Numbers.{rows_of, IsNodeWithin}
use Rattle.leaf_bound.specs.Weighing.{share_at, IsWeighedTo}
use Rattle.leaf_bound.proofs.WeightedSums.{weighed_next, weighed_limit, weighed_all}
use Rattle.leaf_bound.proofs.LentNumbers.{weighed_totals, weighed_node}
use Rattle.leaf_bound.proofs.weighing.weigh.Goals as goal
use Rattle.leaf_bound.proofs.weighing.weigh.Goals.{After-add_cut-base, After-loop-c}

next : (c : After-add_cut-base) → let m = c.args.weighting.now in
    IsWeighedTo m.weights.now m.parts.now m.totals.now (c.loop-c.c + 1) (c.loop-c.base + c.add_cut-base.result)
next c =
    let m = c.args.weighting.now in
    let i = c.loop-c.c in
    let w = share_at m.weights.now m.parts.now i in
    subst (λ n. IsWeighedTo m.weights.now m.parts.now m.totals.now (i + 1) (c.loop-c.base + n)) (sym c.add_cut-base.ensures.total)
    (weighed_next m.weights.now m.parts.now m.totals.now i c.loop-c.base w c.loop-c-test.true (weighed_totals m c.requires.numbers) refl
    c.loop-c.invariant.base)

pub overflow_add-base : goal.overflow_add-base
overflow_add-base c =
    let m = c.args.weighting.now in
    let sum = c.loop-c.base + c.add_cut-base.result in
    let is = next (goal.at.overflow_add-base c).After-add_cut-base in
    let are = weighed_totals m c.requires.numbers in
    omega (arith, weighed_limit m.weights.now m.parts.now m.totals.now (c.loop-c.c + 1) sum are is)

pub loop-c-preserved : goal.loop-c-preserved
loop-c-preserved c = record {
  base = next (goal.at.loop-c-preserved c).After-add_cut-base;
  loads = c.add_cut-base.ensures.loads;
}

-- the sum of the node's loads
node_is : (c : After-loop-c) (k : ℕ) → IsNodeWithin c.args.weighting.now k → let m = c.args.weighting.now in
    IsWeighedTo m.weights.now m.parts.now (loads_of (rows_of m) k) c.loop-c.c (get_or c.loop-c.sums k 0)
node_is c k node =
    let long : length c.loop-c.sums ≡ length c.args.weighting.now.fixed.now = search rules in
    c.loop-c.invariant.loads.each k (omega (arith, node.is_node, long)) (weighed_node c.args.weighting.now k c.requires.numbers node)

pub returns-clause-value : goal.returns-clause-value
returns-clause-value c = λ k node.
    let m = c.args.weighting.now in
    let few = (weighed_totals m c.requires.numbers).few_parts in
    weighed_all m.weights.now m.parts.now (loads_of (rows_of m) k) c.loop-c.c (get_or c.loop-c.sums k 0) c.loop-c-test.false few
    (node_is (goal.at.returns-clause-value c).After-loop-c k node)

pub returns-clause-limit : goal.returns-clause-limit
returns-clause-limit c = λ k node.
    let m = c.args.weighting.now in
    weighed_limit m.weights.now m.parts.now (loads_of (rows_of m) k) c.loop-c.c (get_or c.loop-c.sums k 0)
    (weighed_node m k c.requires.numbers node) (node_is (goal.at.returns-clause-limit c).After-loop-c k node)

pub returns-clause-base : goal.returns-clause-base
returns-clause-base c =
    let m = c.args.weighting.now in
    let few = (weighed_totals m c.requires.numbers).few_parts in
    weighed_all m.weights.now m.parts.now m.totals.now c.loop-c.c c.loop-c.base c.loop-c-test.false few c.loop-c.invariant.base
