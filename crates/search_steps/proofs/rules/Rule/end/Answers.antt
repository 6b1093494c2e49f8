use Rattle.std.proofs.Common.{ℕ, Option, ap, ◌∙◌}
use Rattle.std.specs.Prelude.{option_map}
use Rattle.hub_spec.specs.Trees.{preorder}
use Rattle.search_spec.specs.Choices.{barren_end, rule_parts}
use Rattle.search_steps.proofs.rules.Rule.end.Goals as goal

pub returns : goal.returns
unfolding rule_parts
returns g c = λ p serves.
    c.end_by_number.ensures ∙ ap (λ (o : Option ℕ). option_map preorder (barren_end o c.args.branch.now)) (c.wanted.ensures p serves)
