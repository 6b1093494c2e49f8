use Rattle.std.proofs.Common.{◌≡◌, ◌++◌, drop}
use Rattle.hub_make.proofs.Joining.{rest_of_line}
use Rattle.hub_make.proofs.lines.push_numbers.Given as goal

abbrev pub invariant-loop-number : goal.invariant-loop-number
invariant-loop-number l = l.text.items ++ rest_of_line (drop l.number-index l.rest) ≡ l.initial.text.items ++ rest_of_line l.rest
