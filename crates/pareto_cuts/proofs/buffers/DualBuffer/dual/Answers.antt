use Rattle.std.proofs.Common.{◌∙◌, ap, subst}
use Rattle.hub_spec.specs.Separation.{AreListedValues}
use Rattle.hub_model.specs.Prices.{signed_values}
use Rattle.hub_model.proofs.SignedPairs.{signed_values_again, signed_prices}
use Rattle.pareto_cuts.specs.Buffers.{RoomedDual}
use Rattle.pareto_cuts.proofs.buffers.DualBuffer.dual.Goals as goal

pub returns-clause-values : goal.returns-clause-values
returns-clause-values c =
    c.deref.ensures.value ∙ signed_values_again c.self.inside.u.items c.self.invariant.prices.values
    ∙ ap (λ (b : RoomedDual). signed_values b.dual.u) c.self.view_is

pub returns-clause-listed : goal.returns-clause-listed
returns-clause-listed c =
    subst (λ (b : RoomedDual). AreListedValues b.dual.u) c.self.view_is (signed_prices c.self.inside.a c.self.inside.u.items c.self.invariant.prices)
