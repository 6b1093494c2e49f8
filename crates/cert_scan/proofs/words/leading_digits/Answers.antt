use Rattle.std.specs.Int.{w64, trailing_zeros}
use Rattle.std.proofs.Common.{◌∙◌, ◌*◌, ◌/◌, ◌-◌, ◌%◌, ◌^◌, ap, map, arith}
use Rattle.cert_scan.proofs.EightBytes.{lane, lanes_are, lanes_eight, all_digits, first_digits, padded, unpadded}
use Rattle.cert_scan.proofs.words.leading_digits.Goals as goal

pub returns-then-others-eq0-clause-spell : goal.returns-then-others-eq0-clause-spell
returns-then-others-eq0-clause-spell c bytes eight is =
    let lanes = lanes_are bytes c.args.word eight is in
    let all = all_digits bytes c.marks-others.result eight (c.marks-others.ensures (map lane bytes) (lanes_eight bytes eight) lanes) c.if-others-eq0.true in
    let p = unpadded bytes _ eight all lanes in
    p.spell c.joined.result (c.joined.ensures p.digits p.eight p.word_is)

pub returns-clause-spell : goal.returns-clause-spell
returns-clause-spell c bytes eight is =
    let lanes = lanes_are bytes c.args.word eight is in
    let front = first_digits bytes c.marks-others.result eight (c.marks-others.ensures (map lane bytes) (lanes_eight bytes eight) lanes)
    (omega (arith, c.if-others-eq0.false)) (omega arith) in
    let few = front.0 in
    let count = trailing_zeros w64 c.marks-others.result / 8 in
    let p = padded bytes (trailing_zeros w64 c.marks-others.result / 8) c.moved_up.result eight (omega arith) front.1 (c.moved_up.ensures ∙ ap (λ w. w * 256 ^ (8 - count) % 2 ^ 64) lanes) in
    p.spell _ (c.joined-2.ensures p.digits p.eight p.word_is)
