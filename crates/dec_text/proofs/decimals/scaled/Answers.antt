use Rattle.std.proofs.Common.{◌+◌, ◌-◌, ◌++◌, length, arith, ap, ◌∙◌, sym, length-append}
use Rattle.text_spec.specs.Numbers.{largest_magnitude}
use Rattle.dec_text.proofs.Values.{scaled_up, scaled_down, both_digits}
use Rattle.dec_text.proofs.decimals.scaled.Goals as goal

pub returns-then-up-down : goal.returns-then-up-down
returns-then-up-down c =
    scaled_up largest_magnitude c.args.up c.args.down c.value_of_front.result c.times_ten.result (length c.args.whole.now + length c.args.decimals.now) (c.args.whole.now ++ c.args.decimals.now)
    (omega arith) (sym (length-append c.args.whole.now c.args.decimals.now)) c.value_of_front.ensures c.times_ten.ensures

pub returns-else-up-down : goal.returns-else-up-down
returns-else-up-down c =
    scaled_down largest_magnitude c.args.up c.args.down c.value_of_front-else-up-down.result c.saturating_sub.result (c.args.whole.now ++ c.args.decimals.now)
    (omega arith) (both_digits c.args.whole.now c.args.decimals.now c.requires.whole c.requires.decimals)
    (c.saturating_sub.ensures ∙ ap (λ n. n - (c.args.down - c.args.up)) (sym (length-append c.args.whole.now c.args.decimals.now))) c.value_of_front-else-up-down.ensures
