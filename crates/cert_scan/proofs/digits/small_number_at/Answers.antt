use Rattle.std.proofs.Common.{◌≡◌, ◌+◌, ap, ◌∙◌, get_or, arith}
use Rattle.cert_scan.proofs.SpelledNumbers.{three_digits}
use Rattle.cert_scan.proofs.digits.small_number_at.Goals as goal

pub number_of-requires-2-clause-spells : goal.number_of-requires-2-clause-spells
number_of-requires-2-clause-spells c =
    let at = c.args.at in
    let bytes = c.args.bytes.now in
    let here : at + 0 ≡ at = omega arith in
    three_digits c.args.bytes.now c.args.at c.in_ok-first.first c.in-Some.second c.in-Some-digit_of.third
    (record { within = omega arith; is = ap (λ k. get_or bytes k 0) here ∙ c.in_ok-first.ensures.0; low = c.in_ok-first.ensures.1 }) c.if-first-lt1.false
    (record { within = omega arith; is = c.in-Some.ensures.0; low = c.in-Some.ensures.1 })
    (record { within = omega arith; is = c.in-Some-digit_of.ensures.0; low = c.in-Some-digit_of.ensures.1 })
