use Rattle.std.proofs.Common.{ap, ◌∙◌, arith}
use Rattle.unit_duals.specs.Limits.{most_leg}
use Rattle.leg_duals.specs.Ways.{WaysFrom}
use Rattle.leg_duals.proofs.WayLegs.{delivery_row}
use Rattle.leg_duals.proofs.ways.Ways.last_row.Goals as goal

pub stretch-requires : goal.stretch-requires
stretch-requires c =
    (delivery_row c.self.inside c.args.self.now c.args.m c.size-size.result c.last.result.now c.self.view_is c.self.invariant c.requires
    c.size-size.ensures.value c.last.ensures.value).within

pub returns-clause-each : goal.returns-clause-each
returns-clause-each c = λ j column.
    (let row = delivery_row c.self.inside c.args.self.now c.args.m c.size-size.result c.last.result.now c.self.view_is c.self.invariant
    c.requires c.size-size.ensures.value c.last.ensures.value in
    let many = ap (λ (w : WaysFrom). w.size) c.self.view_is in
    c.stretch.ensures.each j (omega (arith, column, many, c.size-size.ensures.value)) ∙ row.is j column)

pub returns-clause-limit : goal.returns-clause-limit
returns-clause-limit c =
    c.stretch.ensures.limit most_leg
    (delivery_row c.self.inside c.args.self.now c.args.m c.size-size.result c.last.result.now c.self.view_is c.self.invariant c.requires
    c.size-size.ensures.value c.last.ensures.value).limit
