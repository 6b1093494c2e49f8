use Rattle.std.proofs.Common.{◌≡◌, ◌∙◌, pos, to_z, unsigned_abs, sym, ap}
use Rattle.std.specs.Int.{w128}
use Rattle.std.proofs.lemmas.Int.{to_z-of_z}
use Rattle.std.proofs.lemmas.Nat.Gcd.{dvd-zero}
use Rattle.frac_rows.specs.Divisors.{gcd}
use Rattle.frac_rows.proofs.Gcds.{gcd_of_multiple}
use Rattle.plain_rows.proofs.eliminating.joined.Goals as goal

pub returns-then-z-eq0 : goal.returns-then-z-eq0
returns-then-z-eq0 c =
    let none : c.args.z ≡ pos 0 = sym (to_z-of_z w128 c.args.z c.ranges.z) ∙ ap (to_z w128) c.if-z-eq0.true in
    sym (ap (λ x. gcd (unsigned_abs x) c.args.divisor) none ∙ gcd_of_multiple 0 c.args.divisor (dvd-zero c.args.divisor))
