use Rattle.std.proofs.Common.{◌+◌, ◌<◌, length, get_or, pos, arith}
use Rattle.hub_model.proofs.RowLoads.{IsRow, row_is, entry_at, entry_node, entry_added, loaded_more, loaded_all, by_row, by_items, all_entries}
use Rattle.hub_model.proofs.cut_sums.add_row.Goals as goal
use Rattle.hub_model.proofs.cut_sums.add_row.Goals.{In-loop-k, After-u-k-items}

row : (c : After-u-k-items) → IsRow c.args.rows.now c.args.t c.index-rows-t.result.u
row c = row_is c.args.rows.now c.args.t c.index-rows-t.result c.requires.row c.index-rows-t.is c.u-k-items.ensures.listed.ascend c.requires.limit

node : (c : In-loop-k) → (get_or c.u-k-items.result.now c.loop-k.k-index (0, pos 0)).0 < length c.loop-k.loads
node c =
    omega (
      arith,
      c.loop-k.auto.loads,
      entry_node (length c.args.loads.now) c.args.rows.now c.args.t c.index-rows-t.result c.u-k-items.result.now
          c.loop-k.k-index c.requires.row c.index-rows-t.is c.requires.nodes c.u-k-items.ensures.value c.loop-k-test.true,
    )

pub slice_copy_out-loads : goal.slice_copy_out-loads
slice_copy_out-loads c = node (goal.at.slice_copy_out-loads c).In-loop-k

pub bounds-loads-k : goal.bounds-loads-k
bounds-loads-k c = node (goal.at.bounds-loads-k c).In-loop-k

pub overflow_add-loads : goal.overflow_add-loads
overflow_add-loads c =
    (entry_added c.loop-k.loads c.args.rows.now c.args.t c.index-rows-t.result.u c.u-k-items.result.now c.loop-k.k-index
    (row (goal.at.overflow_add-loads c).After-u-k-items) c.u-k-items.ensures.value c.loop-k-test.true
    (by_row c.loop-k.loads c.args.rows.now c.args.t c.index-rows-t.result.u c.u-k-items.result.now c.loop-k.k-index c.u-k-items.ensures.value c.loop-k.invariant)).0

pub loop-k-preserved : goal.loop-k-preserved
loop-k-preserved c =
    let is_row = row (goal.at.loop-k-preserved c).After-u-k-items in
    let so_far = by_row c.loop-k.loads c.args.rows.now c.args.t c.index-rows-t.result.u c.u-k-items.result.now c.loop-k.k-index c.u-k-items.ensures.value
    c.loop-k.invariant in
    let entry = entry_at c.u-k-items.result.now c.index-rows-t.result.u c.loop-k.k-index c.u-k-items.ensures.value c.loop-k-test.true in
    let sum = entry_added c.loop-k.loads c.args.rows.now c.args.t c.index-rows-t.result.u c.u-k-items.result.now c.loop-k.k-index
    is_row c.u-k-items.ensures.value c.loop-k-test.true so_far in
    by_items _ c.args.rows.now c.args.t c.index-rows-t.result.u c.u-k-items.result.now (c.loop-k.k-index + 1) c.u-k-items.ensures.value
    (loaded_more c.loop-k.loads c.args.rows.now c.args.t c.index-rows-t.result.u c.loop-k.k-index _ _ is_row entry.0 entry.1
    (node (goal.at.loop-k-preserved c).In-loop-k) so_far sum.1)

pub returns : goal.returns
returns c =
    let is_row = row (goal.at.returns c).After-u-k-items in
    loaded_all c.loop-k.loads c.args.rows.now c.args.t c.index-rows-t.result.u c.loop-k.k-index is_row
    (all_entries c.index-rows-t.result.u c.u-k-items.result.now c.loop-k.k-index c.u-k-items.ensures.value c.loop-k-test.false)
    (by_row c.loop-k.loads c.args.rows.now c.args.t c.index-rows-t.result.u c.u-k-items.result.now c.loop-k.k-index c.u-k-items.ensures.value c.loop-k.invariant)
