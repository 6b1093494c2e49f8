use Rattle.std.proofs.Common.{◌≡◌, ◌+◌, ◌*◌, ◌/◌, ◌%◌, ◌<◌, length, map, refl, rules}
use Rattle.instance_ap.specs.Points.{coordinates_of}
use Rattle.instance_ap.proofs.Mirrored.{back_before, back_handed}
use Rattle.instance_ap.proofs.distances.next_distance.Goals as goal

pub returns-then-to-from-clause-value : goal.returns-then-to-from-clause-value
returns-then-to-from-clause-value c =
    let n = length c.args.points.now in
    let place = length c.args.before.now in
    let from = place / n in
    let to = place % n in
    let below : from < n = search rules in
    let within : to < n = search rules in
    let is : place ≡ from * n + to = search rules in
    back_handed c.args.divide n (map coordinates_of c.args.points.now) c.args.before.now from to refl refl below within
    (back_before n from to place is c.if-to-from.true below) c.requires.listed c.requires.values
