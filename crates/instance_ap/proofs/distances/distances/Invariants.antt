use Rattle.std.proofs.Common.{◌≡◌, ◌-◌, ◌*◌, ◌≤◌, length, map, All}
use Rattle.hub_model.specs.Amounts.{natural, IsListedNumber}
use Rattle.instance_ap.specs.Points.{coordinates_of, distances_front}
use Rattle.instance_ap.proofs.distances.distances.Given as goal

abbrev pub invariant-loop-items : goal.invariant-loop-items
invariant-loop-items l = record {
  few : length l.items.items ≤ l.n * l.n;
  values : map natural l.items.items ≡ distances_front l.divide l.n (map coordinates_of l.points) (length l.items.items);
  limits : All IsListedNumber l.items.items;
}

abbrev pub decreases-loop-items : goal.decreases-loop-items
decreases-loop-items l = l.n * l.n - length l.items.items
