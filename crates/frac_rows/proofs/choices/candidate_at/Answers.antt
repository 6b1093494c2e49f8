use Rattle.std.proofs.Common.{◌≡◌, ◌+◌, ◌∙◌, length, FitsSigned, sym, ap, ap₂, arith, rules}
use Rattle.std.specs.Int.{w64}
use Rattle.std.proofs.lemmas.Int.{to_z-of_z}
use Rattle.frac_rows.specs.Rows.{number}
use Rattle.frac_rows.specs.Stored.{extended, piece}
use Rattle.frac_rows.proofs.Ratios.{right_side_at}
use Rattle.frac_rows.proofs.choices.candidate_at.Goals as goal

pub returns-clause-candidate : goal.returns-clause-candidate
returns-clause-candidate c =
    let m = c.args.columns.now in
    let height : c.height-height.result ≡ m.height = c.height-height.ensures.value in
    let is : c.part-row.result.now ≡ piece (m.height + 1) c.args.numbers.now c.args.i =
    c.part-row.ensures.value ∙ ap (λ h. piece (h + 1) c.args.numbers.now c.args.i) height in
    let long : length (piece (m.height + 1) c.args.numbers.now c.args.i) ≡ m.height + 1 =
    ap length (sym is) ∙ c.part-row.ensures.long ∙ ap (λ h. h + 1) height in
    let last : c.variables.result + c.height-height.result ≡ length m.columns + m.height = ap₂ ◌+◌ c.variables.ensures height in
    let right : FitsSigned w64 c.entry.result = search rules in
    let in_column : FitsSigned w64 (number c.args.entering.now.numbers.now c.args.i) = search rules in
    rw (to_z-of_z w64 c.entry.result right, to_z-of_z w64 (number c.args.entering.now.numbers.now c.args.i) in_column)
    (record {
      constraint = c.requires.row;
      right_is =
          c.entry.ensures ∙ ap (λ r. number (extended m.columns r) (c.variables.result + c.height-height.result)) is
          ∙ right_side_at m c.args.numbers.now c.args.i (c.variables.result + c.height-height.result) long last;
      number_is = c.requires.entering.each c.args.i (omega (arith, c.requires.row));
    })
