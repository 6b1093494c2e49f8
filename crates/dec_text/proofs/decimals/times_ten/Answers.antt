use Rattle.std.proofs.Common.{sym, refl, arith}
use Rattle.text_spec.specs.Numbers.{largest_magnitude}
use Rattle.dec_text.proofs.Values.{product_above}
use Rattle.dec_text.proofs.decimals.times_ten.Goals as goal

pub returns-then-zeros-gt30 : goal.returns-then-zeros-gt30
returns-then-zeros-gt30 c = sym (product_above largest_magnitude c.args.value 30 c.args.zeros (omega arith) refl (omega arith))
