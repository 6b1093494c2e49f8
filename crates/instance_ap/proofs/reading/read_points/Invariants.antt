use Rattle.std.proofs.Common.{◌≡◌, ◌*◌, map}
use Rattle.file_spec.specs.Places.{a_coordinate}
use Rattle.token_reader.specs.Unread.{later, AreLegal}
use Rattle.instance_ap.specs.Points.{coordinates_of}
use Rattle.instance_ap.specs.Fronts.{points_front}
use Rattle.instance_ap.proofs.reading.read_points.Given as goal

abbrev pub invariant-loop-node : goal.invariant-loop-node
invariant-loop-node l = record {
  moved : l.reader ≡ later (2 * l._node) l.initial.reader;
  legal : AreLegal a_coordinate (2 * l._node) l.initial.reader;
  values : map coordinates_of l.points.items ≡ points_front l._node l.initial.reader;
}
