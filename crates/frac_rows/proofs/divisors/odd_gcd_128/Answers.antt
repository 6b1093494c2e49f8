use Rattle.std.proofs.Common.{◌≡◌, ◌-◌, max, min, ap, ap₂, sym, ◌∙◌, arith}
use Rattle.std.specs.Int.{w128, abs_diff, trailing_zeros}
use Rattle.frac_rows.specs.Divisors.{gcd}
use Rattle.frac_rows.proofs.Gcds.{gcd-zero}
use Rattle.frac_rows.proofs.OddGcds.{gcd_step}
use Rattle.frac_rows.proofs.divisors.odd_gcd_128.Goals as goal

pub loop-y-preserved : goal.loop-y-preserved
loop-y-preserved c =
    let x = c.loop-y.x in
    let o = c.odd_part_128-odd.result in
    let apart : abs_diff x o ≡ max x o - min x o = omega arith in
    record {
      odd = omega (arith, c.min-x.ensures, c.loop-y.invariant.odd, c.odd_part_128-odd.ensures.odd);
      same =
          ap₂ gcd c.min-x.ensures (c.abs_diff-y.ensures ∙ apart)
          ∙ gcd_step x c.loop-y.y o (trailing_zeros w128 c.loop-y.y) c.loop-y.invariant.odd c.odd_part_128-odd.ensures.part ∙ c.loop-y.invariant.same;
    }

pub returns : goal.returns
returns c =
    let none : c.loop-y.y ≡ 0 = omega arith in
    sym (gcd-zero c.loop-y.x) ∙ ap (gcd c.loop-y.x) (sym none) ∙ c.loop-y.invariant.same
