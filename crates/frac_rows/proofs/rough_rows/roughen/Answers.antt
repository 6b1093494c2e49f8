use Rattle.std.proofs.Common.{◌≤◌, ◌*◌, ◌^◌, ◌%◌, ◌-ℤ◌, ◌*ℤ◌, pos, unsigned_abs, FitsSigned, arith, rules}
use Rattle.std.specs.Int.{w32, w64}
use Rattle.std.proofs.lemmas.Int.{to_z-of_z}
use Rattle.frac_rows.specs.Rows.{number}
use Rattle.frac_rows.proofs.RoughRows.{rough_more}
use Rattle.frac_rows.proofs.rough_rows.roughen.Goals as goal

pub loop-k-preserved : goal.loop-k-preserved
loop-k-preserved c =
    let x : FitsSigned w64 (number c.args.row.now c.loop-k.k) = search rules in
    let r : FitsSigned w32 c.in-Some.number = search rules in
    let d = 1 * 2 ^ c.shift_for-shift.result % 2 ^ 64 in
    let is : unsigned_abs (number c.args.row.now c.loop-k.k -ℤ pos d *ℤ c.in-Some.number) ≤ d = simp to_z-of_z at c.in-Some.ensures in
    rw (to_z-of_z w32 c.in-Some.number r)
    (rough_more d c.args.row.now c.loop-k.rough c.loop-k.k c.in-Some.number (omega (arith, c.loop-k-test.true, c.loop-k.auto.rough)) c.loop-k.invariant is)

pub returns-clause-rough : goal.returns-clause-rough
returns-clause-rough c = record {
  near = λ k low. c.loop-k.invariant k (omega (arith, low, c.loop-k-test.false, c.loop-k.auto.rough));
}
