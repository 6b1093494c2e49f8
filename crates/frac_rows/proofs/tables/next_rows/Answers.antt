use Rattle.std.proofs.Common.{◌≡◌, ◌+◌, ◌*◌, ◌≤◌, ◌∙◌, length, ap, sym, arith}
use Rattle.std.proofs.lemmas.List.{length-take, length-drop}
use Rattle.frac_rows.proofs.WholeRows.{piece_within}
use Rattle.frac_rows.proofs.Pivots.{after_more}
use Rattle.frac_rows.proofs.tables.next_rows.Goals as goal

pub loop-i-preserved : goal.loop-i-preserved
loop-i-preserved c =
    let h = c.height-height.result in
    let long : length c.loop-i.spare ≡ h * (h + 1) =
    c.loop-i.auto.spare ∙ c.requires.room ∙ c.requires.kept.long ∙ ap (λ n. n * (n + 1)) (sym c.height-height.ensures.value) in
    let within : c.loop-i.i * (h + 1) + (h + 1) ≤ length c.loop-i.spare =
    piece_within (h + 1) h c.loop-i.i c.loop-i.spare long c.loop-i-test.true in
    let size : length c.row_after.new.out ≡ h + 1 = simp (length-take, length-drop) at c.row_after.auto.out ∙ omega (arith, within) in
    after_more c.args.columns.now c.args.numbers.now c.args.pivot.now.row c.args.pivot.now.entering.column c.loop-i.i h _ c.loop-i.spare c.row_after.new.out
    c.height-height.ensures.value (omega (arith, within)) size c.loop-i.invariant c.in_ok-divided.ensures.ok

pub returns-clause-ok : goal.returns-clause-ok
returns-clause-ok c = record { each = λ i low. c.loop-i.invariant.each i (omega (arith, c.height-height.ensures.value, c.loop-i-test.false)) }
