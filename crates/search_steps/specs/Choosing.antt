-- What the choices of the rule mean: the greatest node, the node nearest to a half, and the set that is picked.
use Rattle.std.specs.Prelude.{◌≡◌, ℕ, ◌≤◌, ℤ, pos, ◌*ℤ◌, ◌≤ℤ◌, List, Contains, ◌⊎◌, ◌↔◌}
use Rattle.std.specs.List.Sorted.{IsStrictlyIncreasing}
use Rattle.hub_spec.specs.Trees.{Branching}
use Rattle.search_spec.specs.States.{Advice}
use Rattle.search_spec.specs.Choices.{from_half}

-- of the nodes none has a greater point than this one of them, and of those with the same it is the least
pub record IsGreatest (point : ℕ → ℤ) (ks : List ℕ) (k : ℕ) : Type 0 where
  pub listed : Contains ks k
  pub greatest : (m : ℕ) → Contains ks m → point m ≤ℤ point k
  pub least : (m : ℕ) → Contains ks m → point m ≡ point k → k ≤ m

-- of the nodes none has a point nearer to half of the scale than this one of them, and of those as near it is the least
pub record IsNearest (a : Advice) (ks : List ℕ) (k : ℕ) : Type 0 where
  pub listed : Contains ks k
  pub nearest : (m : ℕ) → Contains ks m → from_half a k ≤ from_half a m
  pub least : (m : ℕ) → Contains ks m → from_half a m ≡ from_half a k → k ≤ m

-- the node is a hub of the branch, or a free node with a point of at least half of the scale
abbrev pub IsRounded : Advice → Branching → ℕ → Type 0
IsRounded a b k = Contains b.inside k ⊎ (Contains b.free k × (a.scale ≤ℤ (pos 2 *ℤ a.point k)))

-- the set has just those nodes, or where there is none of them the greatest of the free nodes alone
pub record IsPicked (a : Advice) (b : Branching) (set : List ℕ) : Type 0 where
  pub ascends : IsStrictlyIncreasing set
  pub rounded : (k : ℕ) → IsRounded a b k → (m : ℕ) → Contains set m ↔ IsRounded a b m
  pub alone : ((k : ℕ) → IsRounded a b k → ⊥) → (m : ℕ) → Contains set m ↔ IsGreatest a.point b.free m
