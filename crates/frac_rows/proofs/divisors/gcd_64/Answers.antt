use Rattle.std.proofs.Common.{◌≡◌, ◌*◌, ◌/◌, ◌^◌, ◌≤◌, sym, ap, ap₂, ◌∙◌, arith}
use Rattle.std.specs.Int.{w64, trailing_zeros}
use Rattle.std.proofs.Math.Nat.{le_of_dvd}
use Rattle.std.proofs.lemmas.Nat.Bits.{bit_at-trailing_zeros}
use Rattle.frac_rows.specs.Divisors.{gcd}
use Rattle.frac_rows.proofs.Gcds.{IsGcd-gcd, gcd-zero}
use Rattle.frac_rows.proofs.OddGcds.{gcd_of_none, no_rest, gcd_without_twos}
use Rattle.frac_rows.proofs.divisors.gcd_64.Goals as goal

pub returns-then-a-eq0 : goal.returns-then-a-eq0
returns-then-a-eq0 c = sym (ap (λ n. gcd n c.args.b) c.if-a-eq0.true ∙ gcd_of_none c.args.b)

pub returns-then-b-eq0 : goal.returns-then-b-eq0
returns-then-b-eq0 c = sym (ap (gcd c.args.a) c.if-b-eq0.true ∙ gcd-zero c.args.a)

pub returns : goal.returns
returns c =
    let a = c.args.a in
    let b = c.args.b in
    let t = trailing_zeros w64 b in
    let low = bit_at-trailing_zeros w64 b (omega (arith, c.if-b-eq0.false)) (omega arith) in
    let whole : c.odd_gcd_64.result * 2 ^ c.min-twos.result ≡ gcd a b =
    ap₂ (λ g m. g * 2 ^ m) c.odd_gcd_64.ensures c.min-twos.ensures
    ∙ gcd_without_twos a b c.odd_part_64.result (b / 2 ^ t) (trailing_zeros w64 a) t c.odd_part_64.ensures.odd low.1 c.odd_part_64.ensures.part
    (no_rest b t low.2) in
    let size : gcd a b ≤ a = le_of_dvd (omega (arith, c.if-a-eq0.false)) (IsGcd-gcd a b).0 in
    omega (arith, whole, size)
