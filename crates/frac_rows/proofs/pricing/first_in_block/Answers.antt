use Rattle.std.proofs.Common.{◌≡◌, ◌+◌, ◌-◌, length, FitsSigned, refl, arith, rules}
use Rattle.std.specs.Int.{w32}
use Rattle.std.proofs.lemmas.Int.{to_z-of_z}
use Rattle.frac_rows.proofs.RoughRows.{sums_tell}
use Rattle.frac_rows.proofs.pricing.first_in_block.Goals as goal

pub first_told-requires-clause-telling : goal.first_told-requires-clause-telling
first_told-requires-clause-telling c =
    let w = c.args.whole.now in
    let r = c.args.rough.now in
    let whole : c.args.first + length c.full_sums-sums.result ≡ c.args.last = omega (arith, c.full_sums-sums.ensures.long, c.if-last-first-eq-LANES.true) in
    let fits : FitsSigned w32 r.margin = search rules in
    rw (to_z-of_z w32 r.margin fits)
    (sums_tell (length w.row.now - 1) w.variables w.numbers.now w.tops.now r.margin w.row.now r.numbers.now c.args.first c.full_sums-sums.result r.step
    refl c.requires.whole.columns c.requires.rough.margin c.requires.rough.long c.requires.rough.rough c.requires.rough.within
    (omega (arith, whole, c.requires.last)) (λ l low. c.full_sums-sums.ensures.sums l (omega (arith, low, c.full_sums-sums.ensures.long))))

pub first_told-requires-2-clause-telling : goal.first_told-requires-2-clause-telling
first_told-requires-2-clause-telling c =
    let w = c.args.whole.now in
    let r = c.args.rough.now in
    let whole : c.args.first + length c.rough_sums.new.sums ≡ c.args.last = search rules in
    let fits : FitsSigned w32 r.margin = search rules in
    rw (to_z-of_z w32 r.margin fits)
    (sums_tell (length w.row.now - 1) w.variables w.numbers.now w.tops.now r.margin w.row.now r.numbers.now c.args.first c.rough_sums.new.sums r.step
    refl c.requires.whole.columns c.requires.rough.margin c.requires.rough.long c.requires.rough.rough c.requires.rough.within
    (omega (arith, whole, c.requires.last)) c.rough_sums.ensures)
