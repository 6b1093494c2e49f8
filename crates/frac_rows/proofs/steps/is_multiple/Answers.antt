use Rattle.std.proofs.Common.{◌≡◌, ◌∙◌, sym}
use Rattle.std.proofs.lemmas.Int.{to_z-of_z}
use Rattle.frac_rows.proofs.Gcds.{gcd_found}
use Rattle.frac_rows.proofs.steps.is_multiple.Goals as goal

pub returns-in-Some : goal.returns-in-Some
returns-in-Some c = λ is.
    let z = c.ranges.z in
    let same : c.in-Some.by.number ≡ c.args.common.number = rw c.in-Some.is at c.requires in
    gcd_found c.exact.result c.in-Some.by.number c.args.common.number c.args.z same (simp to_z-of_z at c.exact.ensures.value) (sym c.is_some.ensures ∙ is)
