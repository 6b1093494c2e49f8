-- What the files hold, where their contents are known.
use Rattle.std.specs.Prelude.{◌≡◌, ℕ, List, Option, None}
use Rattle.hub_io.specs.Outside.{Files}
use Rattle.hub_spec.specs.Problem.{Problem}
use Rattle.hub_words.specs.Requests.{Source}
use Rattle.hub_sources.specs.Sources.{WhereTold, HoldsCosts, HoldsInstance}

-- these fixed costs of n nodes
abbrev pub ToldCosts : Option Files → Option (List ℕ) → ℕ → Option (List ℕ) → Type 0
ToldCosts held name n costs = WhereTold held (λ files. HoldsCosts files name n costs)

-- this instance
abbrev pub ToldInstance : Option Files → Source → Problem → Type 0
ToldInstance held s p = WhereTold held (λ files. HoldsInstance files s p)

-- nothing under the name
abbrev pub LacksFile : List ℕ → Files → Type 0
LacksFile name files = files name ≡ None
