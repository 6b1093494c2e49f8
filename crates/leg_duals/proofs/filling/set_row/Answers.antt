use Rattle.std.proofs.Common.{◌+◌, ◌*◌, ◌<◌, length, slice_index, sym, arith}
use Rattle.std.proofs.lemmas.List.Elements.{All-get_or}
use Rattle.hub_spec.specs.Problem.{distance}
use Rattle.leg_duals.specs.StopLegs.{stop_node}
use Rattle.leg_duals.proofs.StopNodes.{place_node, hub_node, stop_is_node}
use Rattle.leg_duals.proofs.LegLimits.{leg_limit}
use Rattle.leg_duals.proofs.LegRows.{row_more_at}
use Rattle.leg_duals.proofs.FilledLegs.{leg_value}
use Rattle.leg_duals.proofs.filling.set_row.Goals as goal

pub places-preserved : goal.places-preserved
places-preserved c =
    let p = c.args.instance.now in
    let hubs = c.args.stops.now.hubs.now in
    let order = c.args.stops.now.order.now in
    let n = length order + length hubs in
    let row = c.distances_from-distances.result.now in
    let m = c.places.m in
    let k = slice_index order m in
    let node : k < p.size = All-get_or (λ s. s < p.size) order m 0 c.places-test.true c.requires.order in
    row_more_at n c.args.t m (m + 1) (c.args.t * n + m) (c.args.factor * slice_index row k)
    (λ s. c.args.factor * distance p c.args.from (stop_node hubs order s)) c.args.table.now c.places.table (omega arith) (omega arith)
    (omega (arith, c.places-test.true)) (omega (arith, c.places-test.true, c.requires.row, c.places.auto.table))
    (leg_value p c.args.factor c.args.from k (stop_node hubs order m) row (sym (place_node hubs order m c.places-test.true))
    (c.distances_from-distances.ensures.each k node)) c.places.invariant

pub hubs-preserved : goal.hubs-preserved
hubs-preserved c =
    let p = c.args.instance.now in
    let hubs = c.args.stops.now.hubs.now in
    let order = c.args.stops.now.order.now in
    let n = length order + length hubs in
    let row = c.distances_from-distances.result.now in
    let x = c.hubs.x in
    let k = slice_index hubs x in
    let node : k < p.size = All-get_or (λ s. s < p.size) hubs x 0 c.hubs-test.true c.requires.hubs in
    row_more_at n c.args.t (length order + x) (length order + (x + 1)) (c.args.t * n + length order + x) (c.args.factor * slice_index row k)
    (λ s. c.args.factor * distance p c.args.from (stop_node hubs order s)) c.args.table.now c.hubs.table (omega arith) (omega arith)
    (omega (arith, c.hubs-test.true)) (omega (arith, c.hubs-test.true, c.requires.row, c.hubs.auto.table))
    (leg_value p c.args.factor c.args.from k (stop_node hubs order (length order + x)) row (sym (hub_node hubs order x))
    (c.distances_from-distances.ensures.each k node)) c.hubs.invariant

pub returns-clause-limit : goal.returns-clause-limit
returns-clause-limit c =
    let p = c.args.instance.now in
    λ m below. leg_limit c.args.factor (distance p c.args.from (stop_node c.args.stops.now.hubs.now c.args.stops.now.order.now m)) c.requires.factor
    (c.distances_from-distances.ensures.limit (stop_node c.args.stops.now.hubs.now c.args.stops.now.order.now m)
    (stop_is_node p.size c.args.stops.now.hubs.now c.args.stops.now.order.now m c.requires.hubs c.requires.order below))
