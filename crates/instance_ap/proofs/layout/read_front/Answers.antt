use Rattle.std.proofs.Common.{◌≡◌, ◌+◌, ◌*◌, map, Ok, ap, ◌∙◌, arith, rules}
use Rattle.file_spec.specs.Places.{a_coordinate, a_flow, a_factor}
use Rattle.hub_model.specs.Amounts.{natural}
use Rattle.token_reader.specs.Unread.{later, value_here, AreLegal, values_here}
use Rattle.instance_ap.specs.Points.{coordinates_of}
use Rattle.instance_ap.specs.Fronts.{points_front}
use Rattle.instance_ap.proofs.PostStages.{size_read, size_refused, points_read, points_refused, flows_read, flows_refused, count_read, count_refused, factors_read, factors_refused, value_after, value_next}
use Rattle.instance_ap.proofs.layout.read_front.Goals as goal

pub returns-in_err-n-clause-fault : goal.returns-in_err-n-clause-fault
returns-in_err-n-clause-fault c = λ o.
    (let refused = size_refused c.args.bytes.now _ c.size.result c.over-rest.ensures c.size.ensures.fault o in
    search rules)

pub returns-in_err-points-clause-fault : goal.returns-in_err-points-clause-fault
returns-in_err-points-clause-fault c = λ o.
    (let read : c.size.result ≡ Ok c.in_ok-n.n = search rules in
    let sized = size_read c.args.bytes.now c.in_ok-n.n _ _ c.size.result read c.over-rest.ensures c.size.ensures.fault c.size.ensures.value c.size.ensures.moved in
    let refused = points_refused c.args.bytes.now c.in_ok-n.n _ c.read_points.result sized c.read_points.ensures.fault o in
    search rules)

pub returns-in_err-flows-clause-fault : goal.returns-in_err-flows-clause-fault
returns-in_err-flows-clause-fault c = λ o.
    (let n = c.in_ok-n.n in
    let read : c.size.result ≡ Ok n = search rules in
    let sized = size_read c.args.bytes.now n _ _ c.size.result read c.over-rest.ensures c.size.ensures.fault c.size.ensures.value c.size.ensures.moved in
    let points : AreLegal a_coordinate (2 * n) c.size.new.self = search rules in
    let past_points : c.read_points.new.reader ≡ later (2 * n) c.size.new.self = search rules in
    let placed = points_read c.args.bytes.now n _ _ sized points past_points in
    let refused = flows_refused c.args.bytes.now n _ c.quantities.result placed c.quantities.ensures.fault o in
    search rules)

pub returns-in_err-listed_p-clause-fault : goal.returns-in_err-listed_p-clause-fault
returns-in_err-listed_p-clause-fault c = λ o.
    (let n = c.in_ok-n.n in
    let read : c.size.result ≡ Ok n = search rules in
    let sized = size_read c.args.bytes.now n _ _ c.size.result read c.over-rest.ensures c.size.ensures.fault c.size.ensures.value c.size.ensures.moved in
    let points : AreLegal a_coordinate (2 * n) c.size.new.self = search rules in
    let past_points : c.read_points.new.reader ≡ later (2 * n) c.size.new.self = search rules in
    let placed = points_read c.args.bytes.now n _ _ sized points past_points in
    let flows : AreLegal a_flow (n * n) c.read_points.new.reader = search rules in
    let past_flows : c.quantities.new.self ≡ later (n * n) c.read_points.new.reader = search rules in
    let flowed = flows_read c.args.bytes.now n _ _ placed flows past_flows in
    let refused = count_refused c.args.bytes.now n _ c.quantity.result flowed c.quantity.ensures.fault o in
    search rules)

pub returns-in_err-factors-clause-fault : goal.returns-in_err-factors-clause-fault
returns-in_err-factors-clause-fault c = λ o.
    (let n = c.in_ok-n.n in
    let read : c.size.result ≡ Ok n = search rules in
    let sized = size_read c.args.bytes.now n _ _ c.size.result read c.over-rest.ensures c.size.ensures.fault c.size.ensures.value c.size.ensures.moved in
    let points : AreLegal a_coordinate (2 * n) c.size.new.self = search rules in
    let past_points : c.read_points.new.reader ≡ later (2 * n) c.size.new.self = search rules in
    let placed = points_read c.args.bytes.now n _ _ sized points past_points in
    let flows : AreLegal a_flow (n * n) c.read_points.new.reader = search rules in
    let past_flows : c.quantities.new.self ≡ later (n * n) c.read_points.new.reader = search rules in
    let flowed = flows_read c.args.bytes.now n _ _ placed flows past_flows in
    let count : c.quantity.result ≡ Ok c.in_ok-listed_p.field-0 = search rules in
    let counted = count_read c.args.bytes.now n _ _ c.quantity.result c.in_ok-listed_p.field-0 flowed count c.quantity.ensures.fault c.quantity.ensures.moved in
    let refused = factors_refused c.args.bytes.now n _ c.read_factors.result counted c.read_factors.ensures.fault o in
    search rules)

pub returns-clause-front : goal.returns-clause-front
returns-clause-front c =
    let bytes = c.args.bytes.now in
    let n = c.in_ok-n.n in
    let factors = c.in_ok-factors.factors in
    let read : c.size.result ≡ Ok n = search rules in
    let sized = size_read bytes n _ _ c.size.result read c.over-rest.ensures c.size.ensures.fault c.size.ensures.value c.size.ensures.moved in
    let points : AreLegal a_coordinate (2 * n) c.size.new.self = search rules in
    let past_points : c.read_points.new.reader ≡ later (2 * n) c.size.new.self = search rules in
    let placed = points_read bytes n _ _ sized points past_points in
    let flows : AreLegal a_flow (n * n) c.read_points.new.reader = search rules in
    let past_flows : c.quantities.new.self ≡ later (n * n) c.read_points.new.reader = search rules in
    let flowed = flows_read bytes n _ _ placed flows past_flows in
    let count : c.quantity.result ≡ Ok c.in_ok-listed_p.field-0 = search rules in
    let counted = count_read bytes n _ _ c.quantity.result c.in_ok-listed_p.field-0 flowed count c.quantity.ensures.fault c.quantity.ensures.moved in
    let factored : AreLegal a_factor 3 c.quantity.new.self = search rules in
    let past_factors : c.read_factors.new.reader ≡ later 3 c.quantity.new.self = search rules in
    let ready = factors_read bytes n _ _ counted factored past_factors in
    let listed : c.in_ok-listed_p.field-0 ≡ value_here 0 c.quantities.new.self = search rules in
    let collect : natural factors.collect ≡ value_here 3 c.quantity.new.self = search rules in
    let trunk : natural factors.trunk ≡ value_here 3 (later 1 c.quantity.new.self) = search rules in
    let deliver : natural factors.deliver ≡ value_here 3 (later 2 c.quantity.new.self) = search rules in
    let at_points : map coordinates_of c.in_ok-points.points.items ≡ points_front n c.size.new.self = search rules in
    let at_flows : c.in_ok-flows.flows ≡ values_here 6 (n * n) c.read_points.new.reader = search rules in
    record {
      size = sized.size;
      size_limit = search rules;
      points = at_points ∙ ap (points_front n) sized.at;
      flows = at_flows ∙ ap (values_here 6 (n * n)) placed.at;
      listed_p = value_next bytes 0 n (1 + 2 * n + n * n) _ _ _ flowed listed (omega arith);
      collect = value_next bytes 3 n (2 + 2 * n + n * n) _ _ _ counted collect (omega arith);
      trunk = value_after bytes 3 n (2 + 2 * n + n * n) 1 _ _ _ counted trunk (omega arith);
      deliver = value_after bytes 3 n (2 + 2 * n + n * n) 2 _ _ _ counted deliver (omega arith);
      rest = ready.at;
      legal = ready.none;
    }
