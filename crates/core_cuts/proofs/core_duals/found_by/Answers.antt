use Rattle.std.proofs.Common.{ℕ, ap, ap₂, ◌∙◌}
use Rattle.hub_spec.specs.Cuts.{Prices}
use Rattle.core_spec.specs.CoreCuts.{CoreProof}
use Rattle.core_cuts.specs.Readings.{FoundDual, found_of}
use Rattle.core_cuts.proofs.core_duals.found_by.Goals as goal

pub returns-clause-found : goal.returns-clause-found
unfolding found_of
returns-clause-found c =
    let r = c.args.prices.now in
    let found : ℕ → Prices → CoreProof → FoundDual = λ part dual proof. record { part = part; dual = dual; proof = proof } in (
      r,
      c.requires.reading,
      c.is_fit.ensures.0 c.if-not-is_fit.false,
      ap (λ (n : ℕ). found n c.in_ok-dual.dual c.into_short.result) c.part.ensures ∙ ap₂ (found r.part) c.in_ok-dual.ensures (c.into_short.ensures ∙ c.requires.proof),
    )
