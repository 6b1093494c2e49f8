use Rattle.std.proofs.Common.{◌≤◌, length, drop, subst, arith}
use Rattle.std.proofs.lemmas.List.{length-drop}
use Rattle.cert_scan.proofs.SpelledNumbers.{spells_whole, not_padded, some_digits}
use Rattle.cert_scan.proofs.digits.number_at.Goals as goal

pub number_of-requires-clause-spells : goal.number_of-requires-clause-spells
number_of-requires-clause-spells c =
    let rest = drop c.args.at c.args.bytes.now in
    let digits = c.short_digits-digits.result.0 in
    let value = c.short_digits-digits.result.1 in
    let few = c.short_digits-digits.ensures.few in
    let spell = c.short_digits-digits.ensures.spell in
    let fits : digits ≤ length rest = omega (arith, length-drop c.args.at c.args.bytes.now) in
    let least : c.least_of.result ≤ value = omega (arith, c.if-value-least_of.false) in
    let some = some_digits rest digits value c.least_of.result spell least c.least_of.ensures.none in
    spells_whole rest digits value spell some (omega (arith, few)) fits
    (not_padded rest digits value spell some fits (λ several. subst (λ x. x ≤ value) (c.least_of.ensures.several several) least))
