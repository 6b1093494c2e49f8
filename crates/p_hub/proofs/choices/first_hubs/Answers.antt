use Rattle.std.proofs.Common.{ℕ, List, Option, take, sym, ap, ◌∙◌}
use Rattle.search_spec.specs.Costs.{least_of}
use Rattle.p_hub.proofs.choices.first_hubs.Goals as goal

pub returns-in-None-clause-first : goal.returns-in-None-clause-first
returns-in-None-clause-first c =
    c.candidates-candidates.ensures.value
    ∙ ap (λ (o : Option ℕ). least_of o c.args.instance.now.candidates) (sym (sym c.wanted.ensures.value ∙ c.in-None.is))

pub returns-in-Some-clause-first : goal.returns-in-Some-clause-first
returns-in-Some-clause-first c =
    ap (λ (ks : List ℕ). take c.in-Some.hubs ks) c.candidates-candidates.ensures.value
    ∙ ap (λ (o : Option ℕ). least_of o c.args.instance.now.candidates) (sym (sym c.wanted.ensures.value ∙ c.in-Some.is))
