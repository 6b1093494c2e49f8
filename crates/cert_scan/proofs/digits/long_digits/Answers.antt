use Rattle.std.proofs.Common.{take, get_or, Some, sym, subst, length, ◌<◌, arith}
use Rattle.std.proofs.lemmas.List.{take_more}
use Rattle.cert_scan.specs.Runs.{SpellsOn}
use Rattle.cert_scan.proofs.Stepping.{spells_more}
use Rattle.cert_scan.proofs.digits.long_digits.Goals as goal

pub loop-i-preserved : goal.loop-i-preserved
loop-i-preserved c =
    let low : c.loop-i.i < length c.args.bytes.now = omega arith in
    subst (λ l. SpellsOn c.args.first l (Some c.in-Some.more)) (sym (take_more c.args.bytes.now c.loop-i.i 0 low))
    (spells_more c.args.first (take c.loop-i.i c.args.bytes.now) (get_or c.args.bytes.now c.loop-i.i 0) c.loop-i.value (Some c.in-Some.more) c.loop-i.invariant c.in-Some.ensures)
