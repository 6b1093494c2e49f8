use Rattle.std.proofs.Common.{◌≡◌, ◌^◌, ◌-◌, ◌∙◌, ◌*ℤ◌, ◌-ℤ◌, unsigned_abs, FitsSigned, arith, rules}
use Rattle.std.specs.Int.{w64, w128}
use Rattle.std.proofs.lemmas.Int.{to_z-of_z}
use Rattle.frac_rows.specs.Divisors.{gcd}
use Rattle.frac_rows.specs.Rows.{number}
use Rattle.frac_rows.proofs.Divided.{divisor_of_start, divisor_of_front, divisor_of_more, gcd_le}
use Rattle.plain_rows.proofs.eliminating.common_divisor.Goals as goal

pub loop-k-init : goal.loop-k-init
loop-k-init c = record {
  value = divisor_of_start c.args.turn.own c.args.row.now c.args.turn.base c.args.base.now c.requires.as_long;
  size = omega arith;
}

pub returns-then-divisor-eq1-clause-value : goal.returns-then-divisor-eq1-clause-value
returns-then-divisor-eq1-clause-value c =
    c.if-divisor-eq1.true ∙ divisor_of_front _ c.loop-k.k c.loop-k.divisor c.if-divisor-eq1.true c.loop-k.invariant.value

pub loop-k-preserved : goal.loop-k-preserved
loop-k-preserved c =
    let k = c.loop-k.k - 1 in
    let x : FitsSigned w64 (number c.args.row.now k) = search rules in
    let y : FitsSigned w64 (number c.args.base.now k) = search rules in
    let value : c.cross.result ≡ c.args.turn.own *ℤ number c.args.row.now k -ℤ c.args.turn.base *ℤ number c.args.base.now k =
    simp to_z-of_z at c.cross.ensures.value in
    let fits : FitsSigned w128 c.cross.result = search rules in
    let is : c.joined-divisor.result ≡ gcd (unsigned_abs c.cross.result) c.loop-k.divisor =
    simp to_z-of_z at c.joined-divisor.ensures in
    record {
      value =
          divisor_of_more c.args.turn.own c.args.row.now c.args.turn.base c.args.base.now k c.loop-k.k c.loop-k.divisor c.cross.result _
          c.requires.as_long (omega arith) (omega arith) c.loop-k.invariant.value value is;
      size = rw is (gcd_le (unsigned_abs c.cross.result) c.loop-k.divisor (2 ^ 125) c.cross.ensures.size c.loop-k.invariant.size);
    }
