use Rattle.std.proofs.Common.{arith, ap, ◌∙◌, lit≤, rules}
use Rattle.std.specs.Str.Parse.{digits_value}
use Rattle.text_spec.specs.Numbers.{largest_magnitude}
use Rattle.dec_text.proofs.Values.{three_digits}
use Rattle.dec_text.proofs.Exponents.{exponent_is}
use Rattle.dec_text.proofs.decimals.read_exponent.Goals as goal

pub overflow_cast-result : goal.overflow_cast-result
overflow_cast-result c =
    let small = three_digits largest_magnitude c.value_after.result c.without_sign-digits.result.now (search rules) (omega arith) (lit≤ tt) c.value_after.ensures in
    omega (arith, small.0)

pub returns-clause-value : goal.returns-clause-value
returns-clause-value c =
    let small = three_digits largest_magnitude c.value_after.result c.without_sign-digits.result.now (search rules) (omega arith) (lit≤ tt) c.value_after.ensures in (
      exponent_is c.args.bytes.now c.without_sign-digits.result.now c.without_sign-digits.ensures.value (search rules) (omega arith) (search rules),
      small.1 ∙ ap (digits_value 10) c.without_sign-digits.ensures.value,
    )

pub returns-clause-bound : goal.returns-clause-bound
returns-clause-bound c = (three_digits largest_magnitude c.value_after.result c.without_sign-digits.result.now (search rules) (omega arith) (lit≤ tt) c.value_after.ensures).0
