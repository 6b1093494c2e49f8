use Rattle.std.proofs.Common.{◌≡◌, ◌+◌, ◌*◌, ◌≤◌, ◌∙◌, length, arith}
use Rattle.std.proofs.lemmas.List.{length-take, length-drop}
use Rattle.frac_rows.proofs.WholeRows.{piece_within}
use Rattle.plain_rows.proofs.FlatTables.{after_more}
use Rattle.plain_rows.proofs.pivots.next_rows.Goals as goal

pub loop-i-preserved : goal.loop-i-preserved
loop-i-preserved c =
    let w = c.args.places + 2 in
    let within : c.loop-i.i * w + w ≤ length c.loop-i.spare =
    piece_within w c.args.height c.loop-i.i c.loop-i.spare (c.loop-i.auto.spare ∙ c.requires.room ∙ c.requires.rows.long) c.loop-i-test.true in
    let size : length c.row_after.new.out ≡ w = simp (length-take, length-drop) at c.row_after.auto.out ∙ omega (arith, within) in
    after_more c.args.places c.args.numbers.now c.args.pivot.now.row c.args.pivot.now.place c.loop-i.i _ c.loop-i.spare c.row_after.new.out (omega (arith, within)) size
    c.loop-i.invariant c.in_ok-row_after.ensures.ok
