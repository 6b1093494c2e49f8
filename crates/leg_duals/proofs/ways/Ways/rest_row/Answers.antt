use Rattle.std.proofs.Common.{◌+◌, ◌*◌, ap, ◌∙◌, arith}
use Rattle.hub_spec.specs.Limits.{most_distance}
use Rattle.leg_duals.specs.Ways.{WaysFrom}
use Rattle.leg_duals.proofs.WayLegs.{rest_row, IsRestRow}
use Rattle.leg_duals.proofs.ways.Ways.rest_row.Goals as goal
use Rattle.leg_duals.proofs.ways.Ways.rest_row.Goals.{After-size}

row : (c : After-size) → IsRestRow c.args.self.now c.args.m (c.node.result * c.size-nodes.result + c.self.inside.start) c.size.result c.distances.result.now
row c =
    rest_row c.self.inside c.args.self.now c.args.m c.node.result c.size-nodes.result c.size.result c.distances.result.now c.self.view_is
    c.self.invariant c.requires c.node.ensures c.size-nodes.ensures.value c.size.ensures.value c.distances.ensures.value

pub stretch-requires : goal.stretch-requires
stretch-requires c = (row (goal.at.stretch-requires c).After-size).within

pub returns-clause-each : goal.returns-clause-each
returns-clause-each c = λ j column.
    (let many = ap (λ (w : WaysFrom). w.size) c.self.view_is in
    c.stretch.ensures.each j (omega (arith, column, many, c.size.ensures.value)) ∙ (row (goal.at.returns-clause-each c).After-size).is j column)

pub returns-clause-limit : goal.returns-clause-limit
returns-clause-limit c = c.stretch.ensures.limit most_distance (row (goal.at.returns-clause-limit c).After-size).limit
