use Rattle.std.proofs.Common.{◌%◌, eqb-true, eq-eqb}
use Rattle.std.proofs.lemmas.Nat.Gcd.{dvd_of_mod-eq-zero, mod-eq-zero_of_dvd}
use Rattle.core_cuts.proofs.common_parts.divides.Goals as goal

pub returns : goal.returns
returns c =
    let x = c.args.part in
    let n = c.args.number in
    (λ yes. dvd_of_mod-eq-zero x (eqb-true (n % x) 0 yes), λ divides. eq-eqb (n % x) 0 (mod-eq-zero_of_dvd x divides))
