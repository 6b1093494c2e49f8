use Rattle.std.proofs.Common.{◌≡◌, ◌+◌, ◌-◌, length, unsigned_abs, FitsSigned, refl, arith, rules}
use Rattle.std.specs.Int.{w32}
use Rattle.std.proofs.lemmas.Int.{to_z-of_z}
use Rattle.frac_rows.proofs.RoughRows.{sums_tell_sizes}
use Rattle.frac_rows.proofs.widths.wide_in_block.Goals as goal

pub wide_told-requires-clause-telling : goal.wide_told-requires-clause-telling
wide_told-requires-clause-telling c =
    let w = c.args.whole.now in
    let r = c.args.rough.now in
    let whole : c.args.first + length c.full_sums-sums.result ≡ c.args.last = omega (arith, c.full_sums-sums.ensures.long, c.if-last-first-eq-LANES.true) in
    let fits : FitsSigned w32 r.margin = search rules in
    let size : c.unsigned_abs-margin.result ≡ unsigned_abs r.margin = simp to_z-of_z at c.unsigned_abs-margin.ensures.value in
    sums_tell_sizes (length w.row.now - 1) w.variables w.numbers.now w.tops.now r.margin w.row.now r.numbers.now c.args.first c.full_sums-sums.result r.step
    c.args.most c.unsigned_abs-margin.result refl c.requires.whole.columns c.requires.rough.margin c.requires.rough.long
    c.requires.rough.rough c.requires.rough.within (omega (arith, whole, c.requires.last)) (λ l low. c.full_sums-sums.ensures.sums l (omega (arith, low, c.full_sums-sums.ensures.long))) c.requires.most size

pub wide_told-requires-2-clause-telling : goal.wide_told-requires-2-clause-telling
wide_told-requires-2-clause-telling c =
    let w = c.args.whole.now in
    let r = c.args.rough.now in
    let whole : c.args.first + length c.rough_sums.new.sums ≡ c.args.last = search rules in
    let fits : FitsSigned w32 r.margin = search rules in
    let size : c.unsigned_abs-margin.result ≡ unsigned_abs r.margin = simp to_z-of_z at c.unsigned_abs-margin.ensures.value in
    sums_tell_sizes (length w.row.now - 1) w.variables w.numbers.now w.tops.now r.margin w.row.now r.numbers.now c.args.first c.rough_sums.new.sums r.step
    c.args.most c.unsigned_abs-margin.result refl c.requires.whole.columns c.requires.rough.margin c.requires.rough.long
    c.requires.rough.rough c.requires.rough.within (omega (arith, whole, c.requires.last)) c.rough_sums.ensures c.requires.most size
