use Rattle.std.proofs.Common.{ℕ, nat_lt, ap, subst, ◌∙◌, sym, Contains}
use Rattle.search_spec.specs.Choices.{first_best, from_half, nearest_half}
use Rattle.frac_master.specs.Advice.{advice_of_code}
use Rattle.search_steps.specs.Advising.{told_by}
use Rattle.search_steps.proofs.Points.{first_best_in}
use Rattle.search_steps.proofs.picking.nearest.Goals as goal

pub returns-clause-nearest : goal.returns-clause-nearest
unfolding nearest_half
returns-clause-nearest c =
    let a = told_by (advice_of_code c.args.advice.now) in
    c.first_nearest.ensures ∙ ap (first_best (λ (k m : ℕ). nat_lt (from_half a k) (from_half a m))) c.free.ensures.value

pub returns-clause-free : goal.returns-clause-free
returns-clause-free c =
    let a = told_by (advice_of_code c.args.advice.now) in
    let beats = λ (k m : ℕ). nat_lt (from_half a k) (from_half a m) in
    subst (Contains c.args.branch.now.free) (sym (c.first_nearest.ensures ∙ ap (first_best beats) c.free.ensures.value))
    (first_best_in beats c.args.branch.now.free c.requires)
