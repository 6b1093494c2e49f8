use Rattle.std.proofs.Common.{◌+◌, ◌∙◌, to_z, FitsSigned, refl, sym, ap, rules}
use Rattle.std.specs.Int.{w64}
use Rattle.std.proofs.lemmas.Int.{to_z-of_z}
use Rattle.frac_rows.specs.Rows.{number}
use Rattle.plain_rows.specs.Flat.{stays_of}
use Rattle.plain_rows.proofs.AfterRows.{after_stays, after_kept}
use Rattle.plain_rows.proofs.pivots.row_after.Goals as goal

pub returns-then-i-r-clause-ok : goal.returns-then-i-r-clause-ok
returns-then-i-r-clause-ok c =
    let row = c.part-row.result.now in
    let own : FitsSigned w64 (number row (c.args.places + 1)) = search rules in
    let entering : FitsSigned w64 (number row c.args.pivot.now.place) = search rules in
    rw (to_z-of_z w64 (number row (c.args.places + 1)) own, to_z-of_z w64 (number row c.args.pivot.now.place) entering, c.copy_from_slice.ensures.after)
    (after_stays c.args.places c.args.height c.args.numbers.now c.args.pivot.now.row c.args.pivot.now.place c.args.i row (stays_of c.args.places row c.args.pivot.now.place)
    c.requires.rows c.requires.within c.requires.pivot.place c.if-i-r.true c.part-row.ensures.value refl)

pub returns-then-number-eq0-clause-ok : goal.returns-then-number-eq0-clause-ok
returns-then-number-eq0-clause-ok c =
    let n = number c.part-row.result.now c.args.pivot.now.place in
    let fits : FitsSigned w64 n = search rules in
    after_kept c.args.places c.args.height c.args.numbers.now c.args.pivot.now.row c.args.pivot.now.place c.args.i c.copy_from_slice.new.self
    c.requires.rows c.requires.pivot.row c.requires.within c.if-i-r.false c.requires.pivot.above (c.copy_from_slice.ensures.after ∙ c.part-row.ensures.value)
    (ap (λ p. number p c.args.pivot.now.place) (sym c.part-row.ensures.value) ∙ sym (to_z-of_z w64 n fits) ∙ ap (to_z w64) c.if-number-eq0.true)
