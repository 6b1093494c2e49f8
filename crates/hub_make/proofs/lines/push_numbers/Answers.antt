use Rattle.std.proofs.Common.{arith}
use Rattle.hub_make.proofs.Joining.{all_numbers}
use Rattle.hub_make.proofs.lines.push_numbers.Goals as goal

pub returns : goal.returns
returns c =
    all_numbers c.args.text.now.items c.push_number.new.text.items c.loop-number.text.items c.args.numbers.now c.in-Some.rest.now c.in-Some.first.now c.loop-number.number-index
    c.in-Some.ensures.cases.0 c.in_ok-push_number.ensures c.loop-number.invariant (omega arith)
