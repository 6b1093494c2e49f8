-- What a search is to do.
use Rattle.std.specs.Prelude.{◌≡◌, ℕ, ◌+◌, Bool, true, nat_le, Option, Some, None}
use Rattle.hub_spec.specs.Problem.{Problem}
use Rattle.search_core.specs.declared.tasks.Task.{Task}

-- the task is to search this instance with at most so many nodes
pub record IsTaskOf (p : Problem) (nodes : Option ℕ) (t : Task) : Type 0 where
  pub instance : t.instance.now ≡ p
  pub most : t.nodes ≡ nodes

-- two nodes more are allowed, where so many were made
abbrev pub allows_two : Option ℕ → ℕ → Bool
allows_two None made = true
allows_two (Some n) made = nat_le (made + 2) n
