use Rattle.std.proofs.Common.{◌≡◌, ◌+◌, ◌*◌, ◌<◌, length, slice_index, refl, ap, ◌∙◌, arith}
use Rattle.std.proofs.lemmas.List.Elements.{All-get_or}
use Rattle.pareto_cuts.specs.AddedRows.{row_sum}
use Rattle.pareto_cuts.proofs.CommoditySums.{sum_same}
use Rattle.pareto_cuts.proofs.Columns.{rows_more}
use Rattle.pareto_cuts.proofs.flows.add_rows.Goals as goal

pub loop-t-preserved : goal.loop-t-preserved
loop-t-preserved c =
    let t = c.loop-t.t in
    let flows = c.args.flows.now in
    let k = slice_index c.args.order.now t in
    let node = All-get_or (λ k. k < length c.args.loads.now) c.args.order.now t 0 c.loop-t-test.true c.requires.nodes in
    let row : c.weighted-sum.result ≡ row_sum flows c.args.values.now t =
    c.weighted-sum.ensures.value ∙ sum_same (length flows) _ _ (λ j below. ap (λ v. slice_index flows j * v) (c.row.ensures.each j below)) in
    rows_more c.args.order.now t _ k (row_sum flows c.args.values.now) c.args.loads.now c.loop-t.loads c.loop-t-test.true c.requires.once refl
    (omega (arith, node)) c.loop-t.invariant (ap (λ s. slice_index c.loop-t.loads k + s) row)
