use Rattle.std.proofs.Common.{◌∙◌, ◌+◌, Some, take, subst, sym, inr, arith}
use Rattle.cert_scan.specs.Runs.{SpellsOn}
use Rattle.cert_scan.proofs.Stepping.{spells_both, none_of}
use Rattle.cert_scan.proofs.SpelledNumbers.{spells_whole}
use Rattle.cert_scan.proofs.digits.more_digits.Goals as goal

pub returns-clause-spelled : goal.returns-clause-spelled
returns-clause-spelled c =
    let bytes = c.args.bytes.now in
    let front = c.short_digits-front.result in
    let back = c.long_digits-back.result in
    let none = none_of c.args.first (sym c.is_some.ensures ∙ c.if-is_some.false) in
    let few = c.short_digits-front.ensures.few in
    subst (λ v. SpellsOn v (take (front.0 + back.0) bytes) back.1) (sym none)
    (spells_both _ c.args.bytes.now c.short_digits-front.result.0 c.long_digits-back.result.0 (Some c.short_digits-front.result.1) c.long_digits-back.result.1
    (spells_whole c.args.bytes.now c.short_digits-front.result.0 c.short_digits-front.result.1 c.short_digits-front.ensures.spell c.if-front-lt1.false (omega (arith, few))
    (omega arith) (inr c.if-bytes-eq48.false)) c.long_digits-back.ensures.spelled)
