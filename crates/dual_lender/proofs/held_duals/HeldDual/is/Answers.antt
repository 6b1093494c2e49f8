use Rattle.std.proofs.Common.{◌≡◌, sym, ap, ◌∙◌, rules, arith}
use Rattle.hub_model.specs.Amounts.{natural}
use Rattle.hub_model.specs.Prices.{signed_values}
use Rattle.hub_model.proofs.SignedPairs.{signed_values_again}
use Rattle.pareto_cuts.specs.Buffers.{RoomedDual}
use Rattle.dual_lender.proofs.SameDuals.{same_duals}
use Rattle.dual_lender.proofs.held_duals.HeldDual.is.Goals as goal

pub returns-then-self-a : goal.returns-then-self-a
returns-then-self-a c = λ d price values.
    let same : c.self.inside.a ≡ c.args.a = search (rules, arith) in
    same_duals c.args.self.now.dual d c.as_slice.result.now c.args.u.now c.eq.result
    (c.as_slice.ensures.value ∙ signed_values_again c.self.inside.u.items c.self.invariant.prices.values
    ∙ ap (λ (b : RoomedDual). signed_values b.dual.u) c.self.view_is)
    values
    (sym (ap (λ (b : RoomedDual). b.dual.a) c.self.view_is) ∙ ap natural (same ∙ price))
    c.eq.ensures
