use Rattle.std.proofs.Common.{◌≡◌, ℕ, Option, Some, None, refl, ◌∙◌}
use Rattle.search_spec.specs.States.{State}
use Rattle.search_spec.specs.Steps.{may_split}
use Rattle.search_core.specs.Tasks.{allows_two}
use Rattle.search_steps.specs.Progressing.{state_of}
use Rattle.search_steps.proofs.progress.may_split.Goals as goal

splits : (n : Option ℕ) (s : State) → allows_two n s.made ≡ may_split n s
unfolding may_split
splits None s = refl
splits (Some n) s = refl

pub returns : goal.returns
returns c = c.allows_two.ensures.is ∙ splits c.args.task.now.nodes (state_of c.args.task.now.instance.now c.args.progress.now)
