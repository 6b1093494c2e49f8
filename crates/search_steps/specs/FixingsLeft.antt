-- The fixings that are still to be made.
use Rattle.std.specs.Prelude.{◌≢◌, ℕ, List, [], ◌∷◌, All, Contains}
use Rattle.hub_spec.specs.Trees.{Branching}
use Rattle.search_spec.specs.Steps.{Side}

-- each is on a free node of the branch, and no two are on one node
abbrev pub AreOnFree : Branching → List (ℕ × Side) → Type 0
AreOnFree b [] = Unit {0}
AreOnFree b (f ∷ rest) = Contains b.free f.0 × All (λ g. f.0 ≢ g.0) rest × AreOnFree b rest
