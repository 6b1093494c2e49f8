-- What the rule by rounds finds.
use Rattle.std.specs.Prelude.{ℕ, Option}
use Rattle.hub_spec.specs.Problem.{Problem}
use Rattle.search_spec.specs.States.{Grown}
use Rattle.search_steps.specs.Advising.{master_advising}
use Rattle.search_spec.specs.Lasting.{rule_by_rounds}

-- what the rule by rounds finds with the master's weights and point, where this is the most nodes
abbrev pub found_by_rounds : Problem → Option ℕ → Grown
found_by_rounds p n = rule_by_rounds p (master_advising p) n
