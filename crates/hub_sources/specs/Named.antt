use Rattle.std.specs.Prelude.{◌≡◌, ℕ, List, Some, ◌⊎◌}
use Rattle.hub_words.specs.Requests.{Source, instance}

-- a file of the instance has this name
abbrev pub IsFileOf : Source → List ℕ → Type 0
IsFileOf s name = (name ≡ s.file) ⊎ (s.costs ≡ Some name)
