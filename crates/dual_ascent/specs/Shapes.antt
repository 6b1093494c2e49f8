-- The shape of an instance for the heuristics: the number of nodes, and the number of places. A place is a candidate,
-- counted from 0.
use Rattle.std.specs.Prelude.{ℕ, ◌≡◌, ◌*◌, ◌≤◌, length}
use Rattle.hub_spec.specs.Limits.{most_nodes}
use Rattle.hub_spec.specs.Problem.{Problem}

pub record Shape : Type 0 where
  pub size : ℕ
  pub places : ℕ

-- the shape of an instance
abbrev pub shape_of : Problem → Shape
shape_of p = record { size = p.size; places = length p.candidates }

-- so many values the duals of all commodities have: one for each place
abbrev pub cells : Shape → ℕ
cells s = s.size * s.size * s.places

-- what changes keeps its shape
abbrev pub KeepsShape : Shape → Shape → Type 0
KeepsShape old new = new ≡ old
