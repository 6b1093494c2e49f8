use Rattle.std.proofs.Common.{◌≡◌, FitsSigned, rules}
use Rattle.std.specs.Int.{w64, w128}
use Rattle.std.proofs.lemmas.Int.{to_z-of_z}
use Rattle.frac_rows.specs.Divisors.{quotient}
use Rattle.frac_rows.proofs.Quotients.{quotient_le}
use Rattle.frac_rows.proofs.steps.quotient_by.Goals as goal

pub returns-in-Some-clause-size : goal.returns-in-Some-clause-size
returns-in-Some-clause-size c =
    let z = c.ranges.z in
    let most = quotient_le c.args.z c.args.common.number in
    let q : FitsSigned w64 c.in-Some.quotient = search rules in
    let fits : FitsSigned w128 c.from.result = search rules in
    let same : c.from.result ≡ c.in-Some.quotient = simp to_z-of_z at c.from.ensures in
    let is : c.in-Some.quotient ≡ quotient c.args.z c.args.common.number = simp to_z-of_z at c.in-Some.ensures in
    rw (to_z-of_z w128 c.from.result fits, same, is) most
