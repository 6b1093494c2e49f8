use Rattle.std.proofs.Common.{ℕ, ◌<◌, ◌-◌, length, get_or}
use Rattle.hub_edges.specs.Rows.{Entry, IsInside}
use Rattle.hub_edges.proofs.picking.first_inside.Given as goal

abbrev pub invariant-loop-at : goal.invariant-loop-at
invariant-loop-at l = (t : ℕ) (d : Entry) → t < l.at → IsInside l.hubs (get_or l.entries t d) → ⊥

abbrev pub decreases-loop-at : goal.decreases-loop-at
decreases-loop-at l = length l.entries - l.at
