-- The ways from one origin by way of stops, by unit of flow, and how far they are; some of them may be too far.
use Rattle.std.specs.Prelude.{◌≡◌, ℕ, ◌+◌, ◌*◌, ◌^◌, ◌<◌, ◌≤◌, List, length, Option, Some, None}
use Rattle.hub_spec.specs.Limits.{most_length}
use Rattle.hub_spec.specs.Problem.{Problem, distance}
use Rattle.leg_duals.specs.StopLegs.{stop_node}

-- the ways from an origin to so many destinations from `start` on, by way of the places of an order and of hubs
pub record WaysFrom : Type 0 where
  pub problem : Problem
  pub hubs : List ℕ
  pub order : List ℕ
  pub start : ℕ
  -- the number of destinations
  pub size : ℕ
  pub origin : ℕ

-- the number of stops: the places of the order come first, and then the hubs
abbrev pub stop_count : WaysFrom → ℕ
stop_count w = length w.order + length w.hubs

-- the stop k is a hub
abbrev pub IsHub : WaysFrom → ℕ → Type 0
IsHub w k = (length w.order ≤ k) × (k < stop_count w)

-- the node of a stop
abbrev pub node_of : WaysFrom → ℕ → ℕ
node_of w k = stop_node w.hubs w.order k

-- the length from the origin by the stop k to the stop m, by unit of flow
abbrev pub base : WaysFrom → ℕ → ℕ → ℕ
base w k m =
    w.problem.collect * distance w.problem w.origin (node_of w k) + w.problem.trunk * distance w.problem (node_of w k) (node_of w m)

-- the length from the stop m to the destination j
abbrev pub delivery : WaysFrom → ℕ → ℕ → ℕ
delivery w m j = w.problem.deliver * distance w.problem (node_of w m) (w.start + j)

-- the length by the stop k first and m last
abbrev pub way : WaysFrom → ℕ → ℕ → ℕ → ℕ
way w k m j = base w k m + delivery w m j

-- how far it is from the origin by the stop k to the stop m
abbrev pub away : WaysFrom → ℕ → ℕ → ℕ
away w k m = distance w.problem w.origin (node_of w k) + distance w.problem (node_of w k) (node_of w m)

-- how far from the stop m to the destination j
abbrev pub rest : WaysFrom → ℕ → ℕ → ℕ
rest w m j = distance w.problem (node_of w m) (w.start + j)

-- how far a route may be
abbrev pub longest_way : Option ℕ → ℕ
longest_way None = most_length
longest_way (Some most) = most

-- the way by the stop k first and m last is not too far
abbrev pub IsNear : WaysFrom → ℕ → ℕ → ℕ → Type 0
IsNear w k m j = away w k m + rest w m j ≤ longest_way w.problem.longest

-- v is the length of the way by the stop k first and m last to j, which is not too far
abbrev pub IsWay : WaysFrom → ℕ → ℕ → ℕ → ℕ → Type 0
IsWay w k m j v = IsNear w k m j × (v ≡ way w k m j)

-- v is that with what stands beside it for j
abbrev pub IsWayBeside : WaysFrom → (ℕ → ℕ) → ℕ → ℕ → ℕ → ℕ → Type 0
IsWayBeside w beside k m j v = IsNear w k m j × (v ≡ way w k m j + beside j)

-- what stands for the length where no way is near enough: it is above all lengths
abbrev pub no_way : ℕ
no_way = 2 ^ 62
