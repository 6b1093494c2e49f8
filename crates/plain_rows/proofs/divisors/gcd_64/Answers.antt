use Rattle.std.proofs.Common.{◌≡◌, ◌∙◌, sym, ap, arith}
use Rattle.frac_rows.specs.Divisors.{gcd}
use Rattle.frac_rows.proofs.Gcds.{gcd-zero, gcd-mod}
use Rattle.plain_rows.proofs.divisors.gcd_64.Goals as goal

pub loop-y-preserved : goal.loop-y-preserved
loop-y-preserved c = gcd-mod c.loop-y.x c.loop-y.y ∙ c.loop-y.invariant

pub returns : goal.returns
returns c =
    let none : c.loop-y.y ≡ 0 = omega arith in
    sym (gcd-zero c.loop-y.x) ∙ ap (gcd c.loop-y.x) (sym none) ∙ c.loop-y.invariant
