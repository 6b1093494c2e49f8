use Rattle.std.proofs.Common.{◌≡◌, ◌+◌, suc, ◌/◌, max, get_or, take, ap, ap₂, sym, ◌∙◌, arith}
use Rattle.std.proofs.Math.Seq.{take-suc}
use Rattle.cut_pool.specs.Entries.{most_unit}
use Rattle.cut_pool.proofs.UnitSums.{greater_is, most_unit_push}
use Rattle.cut_pool.proofs.unit_columns.most_per_unit.Goals as goal

pub loop-load-preserved : goal.loop-load-preserved
loop-load-preserved c =
    let part = c.args.part in
    let loads = c.args.loads.now in
    let i = c.loop-load.load-index in
    let next : i + 1 ≡ suc i = omega arith in
    let unit : get_or loads i 0 / c.from.result ≡ get_or loads i 0 / part = ap (λ n. get_or loads i 0 / n) c.from.ensures in
    let greater : c.max-most.result ≡ max c.loop-load.most (get_or loads i 0 / c.from.result) = c.max-most.ensures ∙ greater_is c.loop-load.most (get_or loads i 0 / c.from.result) in
    greater ∙ ap₂ max c.loop-load.invariant unit
    ∙ sym (most_unit_push part (take i loads) (get_or loads i 0))
    ∙ ap (most_unit part) (sym (ap (λ n. take n loads) next ∙ take-suc loads i 0 (omega arith)))
