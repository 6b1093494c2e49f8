use Rattle.std.proofs.Common.{◌≡◌, ◌-◌, ◌∙◌, unsigned_abs, FitsSigned, sym, ap, arith, rules}
use Rattle.std.specs.Int.{w64}
use Rattle.std.proofs.lemmas.Int.{to_z-of_z}
use Rattle.frac_rows.specs.Divisors.{gcd}
use Rattle.frac_rows.specs.Rows.{number, widest}
use Rattle.frac_rows.proofs.Divided.{divisor_of_none, divisor_of_step, gcd_le, narrow_at}
use Rattle.frac_rows.proofs.entries.own_divisor.Goals as goal

pub loop-k-init : goal.loop-k-init
loop-k-init c = record { value = sym (divisor_of_none c.args.row.now); size = omega arith }

pub loop-k-preserved : goal.loop-k-preserved
loop-k-preserved c =
    let k = c.loop-k.k - 1 in
    let x : FitsSigned w64 (number c.args.row.now k) = search rules in
    let size : c.unsigned_abs.result ≡ unsigned_abs (number c.args.row.now k) = simp to_z-of_z at c.unsigned_abs.ensures.value in
    let is : c.gcd_64-divisor.result ≡ gcd (unsigned_abs (number c.args.row.now k)) c.loop-k.divisor =
    c.gcd_64-divisor.ensures ∙ ap (λ n. gcd n c.loop-k.divisor) size in
    record {
      value = is ∙ divisor_of_step c.args.row.now k c.loop-k.k c.loop-k.divisor (omega arith) (omega arith) c.loop-k.invariant.value;
      size = rw is (gcd_le (unsigned_abs (number c.args.row.now k)) c.loop-k.divisor widest (narrow_at c.args.row.now k c.requires) c.loop-k.invariant.size);
    }
