use Rattle.std.proofs.Common.{◌-◌, slice_index, ap, ◌∙◌}
use Rattle.hub_spec.specs.Separation.{below_price}
use Rattle.hub_spec.proofs.AskedValues.{hubs_start, hubs_more, both_start, both_more, both_all}
use Rattle.test_plain.proofs.duals.asked_value.Goals as goal

pub by_hubs-init : goal.by_hubs-init
by_hubs-init c =
    hubs_start c.args.instance.now (c.args.i, c.args.j) c.args.price c.args.k c.below_price-most.result
    (c.below_price-most.ensures ∙ ap (below_price c.args.price) c.cost_of_way.ensures.value)

pub by_hubs-preserved : goal.by_hubs-preserved
by_hubs-preserved c =
    hubs_more c.args.instance.now (c.args.i, c.args.j) c.args.price c.args.k c.args.hubs.now c.by_hubs.m-index c.by_hubs.most
    c.below_price-asked.result c.max-most.result c.by_hubs-test.true c.by_hubs.invariant
    (c.below_price-asked.ensures ∙ ap (below_price c.args.price) c.cost_of_edge.ensures) c.max-most.ensures

pub by_earlier-init : goal.by_earlier-init
by_earlier-init c =
    both_start c.args.instance.now (c.args.i, c.args.j) c.args.price c.args.k (slice_index c.args.values.now) c.args.hubs.now
    c.by_hubs.m-index c.by_hubs.most c.by_hubs-test.false c.by_hubs.invariant

pub by_earlier-preserved : goal.by_earlier-preserved
by_earlier-preserved c =
    both_more c.args.instance.now (c.args.i, c.args.j) c.args.price c.args.k (slice_index c.args.values.now) c.args.hubs.now
    c.args.earlier.now c.by_earlier.m-index c.by_earlier.most c.saturating_sub-asked.result c.max-most-in-by_earlier.result
    c.by_earlier-test.true c.by_earlier.invariant
    (c.saturating_sub-asked.ensures
    ∙ ap (λ v. v - slice_index c.args.values.now (slice_index c.args.earlier.now c.by_earlier.m-index))
    (c.below_price-edge.ensures ∙ ap (below_price c.args.price) c.cost_of_edge-in-by_earlier.ensures))
    c.max-most-in-by_earlier.ensures

pub returns : goal.returns
returns c =
    both_all c.args.instance.now (c.args.i, c.args.j) c.args.price c.args.k (slice_index c.args.values.now) c.args.hubs.now
    c.args.earlier.now c.by_earlier.m-index c.by_earlier.most c.by_earlier-test.false c.by_earlier.invariant
