-- What the line of a commodity holds besides the dual that is listed: its values by node, and by place per unit of flow.
use Rattle.std.specs.Prelude.{◌≡◌, ℕ, ◌<◌, ◌≤◌, ◌↔◌, List, length, slice_index, All, IsTrue, vec_capacity}
use Rattle.hub_spec.specs.Limits.{most_part}
use Rattle.hub_spec.specs.Problem.{Problem, IsProblem}
use Rattle.hub_spec.specs.Cuts.{Prices, value_at}
use Rattle.hub_spec.specs.Ranges.{IsDualInRange}
use Rattle.dual_lines.specs.Units.{weighted_flow, AreUnits}
use Rattle.dual_lines.specs.Places.{ArePlaces}
use Rattle.dual_lines.specs.declared.commodity_lines.CommodityLine.TheInside.{Inside}

-- the dual that is listed
abbrev pub held_dual : Inside → Prices
held_dual s = record { a = s.line.price; u = s.listed.items }

-- the value of each node, in a list
pub record AreAmounts (n : ℕ) (listed : List (ℕ × ℕ)) (amounts : List ℕ) : Type 0 where
  pub long : length amounts ≡ n
  pub each : (k : ℕ) → slice_index amounts k ≡ value_at listed k

-- the node has a place
abbrev pub HasPlace : Problem → List ℕ → ℕ → Type 0
HasPlace p places k = slice_index places k < length p.candidates

-- what is held is that of the dual that is listed, and there is room for a value of each node
pub record IsLineHeld (s : Inside) : Type 0 where
  pub problem : IsProblem s.legs
  pub from : s.line.from < s.legs.size
  pub to : s.line.to < s.legs.size
  pub range : IsDualInRange s.legs.size (held_dual s)
  pub part : s.line.part ≤ most_part
  pub carried : s.carried ≡ weighted_flow s.legs s.line.part (s.line.from, s.line.to)
  pub room : s.legs.size ≤ vec_capacity s.listed
  pub places : ArePlaces s.legs s.places.items
  pub amounts : AreAmounts s.legs.size s.listed.items s.amounts.items
  pub units : AreUnits s.legs s.carried (value_at s.listed.items) s.units.items
  pub candidates : IsTrue s.are_candidates ↔ All (λ e. HasPlace s.legs s.places.items e.0) s.listed.items
