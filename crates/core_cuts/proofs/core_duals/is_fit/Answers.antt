use Rattle.std.proofs.Common.{ℕ, ◌+◌, ◌*◌, List, zip, sum_by, true≢false, sym, ap₂, ◌∙◌, subst}
use Rattle.hub_spec.specs.Cuts.{value_at}
use Rattle.core_cuts.specs.Readings.{IsShortProof}
use Rattle.core_cuts.specs.BasicRatios.{IsWithinUnits}
use Rattle.core_cuts.proofs.LastTables.{few_hubs}
use Rattle.core_cuts.proofs.core_duals.is_fit.Goals as goal
use Rattle.core_cuts.proofs.core_duals.is_fit.Goals.{then-is_within, else-is_within}

pub is_tight-requires-clause-few : goal.is_tight-requires-clause-few
is_tight-requires-clause-few c = few_hubs c.args.instance.now c.args.hubs.now c.candidates-candidates.ensures.problem c.requires.set

pub returns-then-is_short : goal.returns-then-is_short
returns-then-is_short c =
    let r = c.args.prices.now in
    let both : IsWithinUnits r × IsShortProof c.args.proof.now = elim c.if-is_within.branch [
      | then-is_within w ↦ (c.is_within.ensures.0 w.if-is_within.true, w.is_short.ensures.0 (sym w.value-is ∙ c.if-is_short.true))
      | else-is_within w ↦ absurd (true≢false (sym c.if-is_short.true ∙ w.value-is ∙ w.if-is_within.false))
    ] in
    let same = ap₂ (λ (n : ℕ) (ks : List ℕ). r.part * n + sum_by (value_at (zip ks r.values)) c.args.hubs.now) c.least_right-least.ensures.value
    c.candidates-candidates.ensures.value in (
      λ holds. record {
        is_tight = record { tight = c.is_tight.ensures.0 holds ∙ same };
        part = c.requires.part;
        price = both.0.price;
        values = both.0.values;
        short = subst IsShortProof c.requires.proof both.1;
      },
      λ fit. c.is_tight.ensures.1 (fit.is_tight.tight ∙ sym same),
    )
