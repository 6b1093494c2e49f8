use Rattle.std.proofs.Common.{ap₂, ◌∙◌}
use Rattle.file_spec.specs.Distances.{planar_distance}
use Rattle.instance_ap.proofs.Gaps.{gap_same}
use Rattle.instance_ap.proofs.distances.distance_between_points.Goals as goal

pub returns : goal.returns
returns c =
    c.distance.ensures.value
    ∙ ap₂ (planar_distance c.args.divide)
    (gap_same c.args.from.now.x c.args.to.now.x c.args.from.now.x_limit c.args.to.now.x_limit)
    (gap_same c.args.from.now.y c.args.to.now.y c.args.from.now.y_limit c.args.to.now.y_limit)
