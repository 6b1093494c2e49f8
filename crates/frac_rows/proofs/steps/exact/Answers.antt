use Rattle.std.proofs.Common.{◌≡◌}
use Rattle.std.proofs.lemmas.Int.{to_z-of_z}
use Rattle.frac_rows.proofs.Quotients.{quotient_found}
use Rattle.frac_rows.proofs.steps.exact.Goals as goal

pub returns : goal.returns
returns c =
    let z = c.ranges.z in
    let same : c.in_ok-by.by.number ≡ c.args.common.number = rw c.in_ok-by.was at c.requires in
    quotient_found c.exact.result c.in_ok-by.by.number c.args.common.number c.args.z c.in_ok-by.by.low same (simp to_z-of_z at c.exact.ensures.value)
