use Rattle.std.proofs.Common.{◌<◌, get_or, length, arith}
use Rattle.core_cuts.proofs.NotedRatios.{noted_more}
use Rattle.core_cuts.proofs.ratios.note_row.Goals as goal

pub returns-then-basic-ratios-clause-noted : goal.returns-then-basic-ratios-clause-noted
returns-then-basic-ratios-clause-noted c =
    let b = get_or c.args.rows.now.basis c.args.row 0 in
    let low : b < length c.args.ratios.now = omega (arith, c.if-basic-ratios.true, c.basic-basic.ensures) in
    rw c.basic-basic.ensures
    (noted_more c.args.rows.now c.args.row c.args.ratios.now c.ratio_at.result c.requires.basic c.requires.row c.requires.noted low
    c.ratio_at.ensures.some c.ratio_at.ensures.over c.ratio_at.ensures.right)
