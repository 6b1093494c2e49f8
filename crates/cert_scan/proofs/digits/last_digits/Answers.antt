use Rattle.std.proofs.Common.{◌≡◌, ◌∙◌, take, drop, subst, arith}
use Rattle.std.proofs.lemmas.List.{get_or-drop, length-drop}
use Rattle.cert_scan.specs.Digits.{Spell}
use Rattle.cert_scan.proofs.SpelledNumbers.{spell_below, spell_more}
use Rattle.cert_scan.proofs.digits.last_digits.Goals as goal

pub overflow_mul-value : goal.overflow_mul-value
overflow_mul-value c = omega (arith, spell_below (drop c.args.at c.args.bytes.now) c.loop-i.i 17 c.loop-i.value c.loop-i.invariant (omega arith))

pub overflow_add-value : goal.overflow_add-value
overflow_add-value c = omega (arith, spell_below (drop c.args.at c.args.bytes.now) c.loop-i.i 17 c.loop-i.value c.loop-i.invariant (omega arith), c.in-Some.ensures.1)

pub loop-i-preserved : goal.loop-i-preserved
loop-i-preserved c =
    let rest = drop c.args.at c.args.bytes.now in
    spell_more (drop c.args.at c.args.bytes.now) c.loop-i.i c.loop-i.value c.in-Some.digit (omega (arith, length-drop c.args.at c.args.bytes.now))
    (get_or-drop c.args.at c.args.bytes.now c.loop-i.i 0 ∙ c.in-Some.ensures.0) c.in-Some.ensures.1 c.loop-i.invariant

pub returns-clause-spell : goal.returns-clause-spell
returns-clause-spell c =
    let all : c.loop-i.i ≡ 18 = omega arith in
    subst (λ n. Spell (take n (drop c.args.at c.args.bytes.now)) c.loop-i.value) all c.loop-i.invariant
