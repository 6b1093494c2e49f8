use Rattle.std.proofs.Common.{◌≡◌, ◌≤◌, ◌+◌, ◌<◌, ◌∙◌, length, unsigned_abs, FitsSigned, sym, ap, ap₂, subst, arith, rules}
use Rattle.std.specs.Int.{w64, w128}
use Rattle.std.proofs.lemmas.Int.{ints, to_z-of_z}
use Rattle.frac_rows.specs.Divisors.{quotient, reduced}
use Rattle.frac_rows.specs.Rows.{number, widest, AreNarrow}
use Rattle.frac_rows.specs.Stored.{extended, piece}
use Rattle.frac_rows.proofs.Linear.{length-extended}
use Rattle.frac_rows.proofs.Refined.{divisor_of-extended}
use Rattle.frac_rows.proofs.Divided.{narrow_at, number-reduced}
use Rattle.frac_rows.proofs.WholeRows.{narrow_kept}
use Rattle.frac_rows.proofs.entries.entry.Goals as goal
use Rattle.frac_rows.proofs.entries.entry.Goals.{After-part-kept}

-- the part that is read is the row's
kept : (c : After-part-kept) → c.part-kept.result.now ≡ piece (c.args.columns.now.height + 1) c.args.numbers.now c.args.row
kept c = c.part-kept.ensures.value ∙ ap (λ h. piece (h + 1) c.args.numbers.now c.args.row) c.height.ensures.value

narrow : (c : After-part-kept) → AreNarrow (extended c.args.columns.now.columns c.part-kept.result.now)
narrow c = subst (λ p. AreNarrow (extended c.args.columns.now.columns p)) (sym (kept c)) (c.requires.kept.narrow c.args.row c.requires.row)

pub own_divisor-requires : goal.own_divisor-requires
own_divisor-requires c =
    narrow_kept c.args.columns.now.columns c.part-kept.result.now (narrow (goal.at.own_divisor-requires c).After-part-kept)

pub returns : goal.returns
returns c =
    let here = (goal.at.returns c).After-part-kept in
    let m = c.args.columns.now in
    let n = c.entry-number.result in
    let whole = extended m.columns c.part-kept.result.now in
    let of_entry : FitsSigned w64 n = search rules in
    let from : c.from.result ≡ n = c.from.ensures ∙ to_z-of_z w64 n of_entry in
    let from_fits : FitsSigned w128 c.from.result = search rules in
    let q_fits : FitsSigned w128 c.quotient.result = search rules in
    let size : unsigned_abs n ≤ widest = subst (λ z. unsigned_abs z ≤ widest) (sym c.entry-number.ensures) (narrow_at whole c.args.column (narrow here)) in
    let q_size : unsigned_abs c.quotient.result ≤ unsigned_abs c.from.result = simp to_z-of_z at c.quotient.ensures.size in
    let same : unsigned_abs c.from.result ≡ unsigned_abs n = ap unsigned_abs from in
    let small : FitsSigned w64 c.quotient.result = omega (arith, ints, size, q_size, same) in
    let value : c.quotient.result ≡ quotient c.from.result c.from-2.result = simp to_z-of_z at c.quotient.ensures.value in
    let within : c.args.column < length whole =
    omega (arith, c.requires.column, length-extended m.columns c.part-kept.result.now, c.part-kept.ensures.long, c.height.ensures.value) in
    rw (to_z-of_z w128 c.quotient.result q_fits, to_z-of_z w64 c.quotient.result small)
    (value ∙ ap₂ quotient (from ∙ c.entry-number.ensures)
    (c.from-2.ensures ∙ c.own_divisor.ensures.value ∙ sym (divisor_of-extended m.columns c.part-kept.result.now))
    ∙ sym (number-reduced whole c.args.column within) ∙ ap (λ p. number (reduced (extended m.columns p)) c.args.column) (kept here))
