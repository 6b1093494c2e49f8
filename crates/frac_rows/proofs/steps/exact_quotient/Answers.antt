use Rattle.std.proofs.Common.{◌≡◌, ◌-ℤ◌, ◌*ℤ◌, FitsSigned, rules}
use Rattle.std.specs.Int.{w128}
use Rattle.std.proofs.lemmas.Int.{to_z-of_z}
use Rattle.frac_rows.proofs.steps.exact_quotient.Goals as goal

pub returns-clause-value : goal.returns-clause-value
returns-clause-value c =
    let x = c.ranges.x in
    let y = c.ranges.y in
    let value : c.cross.result ≡ c.args.turn.own *ℤ c.args.x -ℤ c.args.turn.base *ℤ c.args.y = simp to_z-of_z at c.cross.ensures.value in
    let fits : FitsSigned w128 c.cross.result = search rules in
    rw (to_z-of_z w128 c.cross.result fits, value) at c.exact.ensures.value
