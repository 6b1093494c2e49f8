use Rattle.std.proofs.Common.{◌∙◌, sym, ap, arith}
use Rattle.std.specs.Option.{option_map}
use Rattle.frac_rows.specs.declared.choices.Candidate.{Candidate}
use Rattle.frac_rows.proofs.Ratios.{leaving_all}
use Rattle.frac_rows.proofs.choices.leaving.Goals as goal

pub returns-in_err-candidate-clause-value : goal.returns-in_err-candidate-clause-value
returns-in_err-candidate-clause-value c =
    c.from_residual.ensures ∙ ap (option_map (λ (b : Candidate). b.row)) (sym c.in_err-candidate.was) ∙ c.loop-i.invariant.value
    ∙ leaving_all c.args.columns.now c.args.numbers.now c.args.basis.now c.args.entering.now.column c.loop-i.i (omega arith)

pub returns-clause-value : goal.returns-clause-value
returns-clause-value c =
    ap (option_map (λ (b : Candidate). b.row)) (sym c.in_ok-candidate.was) ∙ c.loop-i.invariant.value
    ∙ leaving_all c.args.columns.now c.args.numbers.now c.args.basis.now c.args.entering.now.column c.loop-i.i (omega arith)
