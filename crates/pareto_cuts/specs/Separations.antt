-- What the duals of an origin hang on, and what they add up to.
use Rattle.std.specs.Prelude.{◌≡◌, ℕ, zero, suc, ◌+◌, List}
use Rattle.hub_spec.specs.Problem.{Problem, IsProblem}
use Rattle.hub_spec.specs.Plans.{IsHubSet}
use Rattle.hub_spec.specs.Cuts.{value_at}
use Rattle.hub_spec.specs.Separation.{IsOrder, minimal_dual}
use Rattle.unit_duals.specs.Lengths.{UnitLegs}
use Rattle.leg_duals.specs.StopLegs.{AreLegsOf}

-- the legs between the hubs and the candidates of the order, and to n destinations from `start` on
pub record AreTablesOf (p : Problem) (hubs order : List ℕ) (start n : ℕ) (l : UnitLegs) : Type 0 where
  pub legs : AreLegsOf p hubs order start l
  pub many : l.size ≡ n

-- hubs and an order of the candidates outside, with the legs between them and to the destinations from `start` on
pub record SetSeparation : Type 0 where
  pub problem : Problem
  pub hubs : List ℕ
  pub order : List ℕ
  pub start : ℕ
  pub legs : UnitLegs

-- the hubs are a hub set, the order is one of the candidates outside, and the legs are theirs
pub record IsSeparation (s : SetSeparation) : Type 0 where
  pub problem : IsProblem s.problem
  pub set : IsHubSet s.problem s.hubs
  pub order : IsOrder s.problem s.hubs s.order
  pub legs : AreLegsOf s.problem s.hubs s.order s.start s.legs

-- the sum of the first n numbers of f
unfoldable pub sum_of : ℕ → (ℕ → ℕ) → ℕ
sum_of zero f = 0
sum_of (suc n) f = sum_of n f + f n

-- the sum of the prices of the minimal duals from i to n destinations from `start` on
abbrev pub origin_total : Problem → List ℕ → List ℕ → ℕ → ℕ → ℕ → ℕ
origin_total p hubs order i start n = sum_of n (λ j. (minimal_dual p hubs order (i, start + j)).a)

-- the sum of their values of the node k
abbrev pub origin_load : Problem → List ℕ → List ℕ → ℕ → ℕ → ℕ → ℕ → ℕ
origin_load p hubs order i start n k = sum_of n (λ j. value_at (minimal_dual p hubs order (i, start + j)).u k)
