use Rattle.std.proofs.Common.{◌≡◌, ◌+◌, ◌*◌, take, drop, subst, arith}
use Rattle.cert_scan.specs.Digits.{Spell}
use Rattle.cert_scan.proofs.SpelledNumbers.{WordAt, spell_word, spell_words, words_low}
use Rattle.cert_scan.proofs.digits.short_digits.Goals as goal

pub returns-then-front-lt8-clause-spell : goal.returns-then-front-lt8-clause-spell
returns-then-front-lt8-clause-spell c =
    spell_word c.args.bytes.now c.args.at c.leading_digits-front.result.0 c.leading_digits-front.result.1 c.leading_digits-front.ensures.few
    (c.leading_digits-front.ensures.spell _ c.word_at.ensures.eight c.word_at.ensures.word)

pub overflow_mul-long : goal.overflow_mul-long
overflow_mul-long c =
    let front : WordAt c.args.bytes.now c.args.at c.leading_digits-front.result =
    record { few = c.leading_digits-front.ensures.few; spell = c.leading_digits-front.ensures.spell _ c.word_at.ensures.eight c.word_at.ensures.word } in
    let back : WordAt c.args.bytes.now (c.args.at + 8) c.leading_digits-back.result =
    record { few = c.leading_digits-back.ensures.few; spell = c.leading_digits-back.ensures.spell _ c.word_at-2.ensures.eight c.word_at-2.ensures.word } in
    omega (
      arith,
      words_low c.args.bytes.now c.args.at c.ten_to.result c.leading_digits-front.result c.leading_digits-back.result front back (omega arith) c.ten_to.ensures
          (omega arith),
    )

pub overflow_add-long : goal.overflow_add-long
overflow_add-long c =
    let front : WordAt c.args.bytes.now c.args.at c.leading_digits-front.result =
    record { few = c.leading_digits-front.ensures.few; spell = c.leading_digits-front.ensures.spell _ c.word_at.ensures.eight c.word_at.ensures.word } in
    let back : WordAt c.args.bytes.now (c.args.at + 8) c.leading_digits-back.result =
    record { few = c.leading_digits-back.ensures.few; spell = c.leading_digits-back.ensures.spell _ c.word_at-2.ensures.eight c.word_at-2.ensures.word } in
    omega (
      arith,
      words_low c.args.bytes.now c.args.at c.ten_to.result c.leading_digits-front.result c.leading_digits-back.result front back (omega arith) c.ten_to.ensures
          (omega arith),
    )

pub returns-then-back-lt8-clause-spell : goal.returns-then-back-lt8-clause-spell
returns-then-back-lt8-clause-spell c =
    let front : WordAt c.args.bytes.now c.args.at c.leading_digits-front.result =
    record { few = c.leading_digits-front.ensures.few; spell = c.leading_digits-front.ensures.spell _ c.word_at.ensures.eight c.word_at.ensures.word } in
    let back : WordAt c.args.bytes.now (c.args.at + 8) c.leading_digits-back.result =
    record { few = c.leading_digits-back.ensures.few; spell = c.leading_digits-back.ensures.spell _ c.word_at-2.ensures.eight c.word_at-2.ensures.word } in
    spell_words c.args.bytes.now c.args.at c.ten_to.result c.leading_digits-front.result c.leading_digits-back.result front back (omega arith) c.ten_to.ensures (omega arith)

pub last_digits-requires-clause-front : goal.last_digits-requires-clause-front
last_digits-requires-clause-front c =
    let front : WordAt c.args.bytes.now c.args.at c.leading_digits-front.result =
    record { few = c.leading_digits-front.ensures.few; spell = c.leading_digits-front.ensures.spell _ c.word_at.ensures.eight c.word_at.ensures.word } in
    let back : WordAt c.args.bytes.now (c.args.at + 8) c.leading_digits-back.result =
    record { few = c.leading_digits-back.ensures.few; spell = c.leading_digits-back.ensures.spell _ c.word_at-2.ensures.eight c.word_at-2.ensures.word } in
    let few = c.leading_digits-back.ensures.few in
    let all : 8 + c.leading_digits-back.result.0 ≡ 16 = omega arith in
    subst (λ n. Spell (take n (drop c.args.at c.args.bytes.now)) (c.leading_digits-front.result.1 * c.ten_to.result + c.leading_digits-back.result.1)) all
    (spell_words c.args.bytes.now c.args.at c.ten_to.result c.leading_digits-front.result c.leading_digits-back.result front back (omega arith) c.ten_to.ensures (omega arith))
