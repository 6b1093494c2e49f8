use Rattle.std.proofs.Common.{rules}
use Rattle.instance_cab.proofs.CostsFiles.{AreCostsRead, costs_read, costs_refused, costs_end_refused, has_costs, costs_given, given_costs}
use Rattle.instance_cab.proofs.costs.read_costs.Goals as goal

pub returns-in_err-costs-clause-fault : goal.returns-in_err-costs-clause-fault
returns-in_err-costs-clause-fault c =
    let refused = costs_refused c.args.n c.args.bytes.now _ c.numbers.result c.over-reader.ensures c.numbers.ensures.fault in search rules

pub returns-in_err-map_err-clause-fault : goal.returns-in_err-map_err-clause-fault
returns-in_err-map_err-clause-fault c =
    let read : AreCostsRead c.args.n c.args.bytes.now c.numbers.new.reader =
    costs_read c.args.n c.args.bytes.now _ c.numbers.new.reader c.over-reader.ensures (search rules) (search rules) in
    let refused = costs_end_refused c.args.n c.args.bytes.now _ c.end.result read c.end.ensures in search rules

pub returns-clause-costs : goal.returns-clause-costs
returns-clause-costs c =
    let read : AreCostsRead c.args.n c.args.bytes.now c.numbers.new.reader =
    costs_read c.args.n c.args.bytes.now _ c.numbers.new.reader c.over-reader.ensures (search rules) (search rules) in
    let has = has_costs c.args.n c.args.bytes.now c.in_ok-costs.costs _ _ c.end.result c.over-reader.ensures read (search rules) (search rules) c.end.ensures in
    costs_given c.args.n c.args.bytes.now _ _ has c.into_vec.ensures

pub returns-clause-naturals : goal.returns-clause-naturals
returns-clause-naturals c =
    let read : AreCostsRead c.args.n c.args.bytes.now c.numbers.new.reader =
    costs_read c.args.n c.args.bytes.now _ c.numbers.new.reader c.over-reader.ensures (search rules) (search rules) in
    let has = has_costs c.args.n c.args.bytes.now c.in_ok-costs.costs _ _ c.end.result c.over-reader.ensures read (search rules) (search rules) c.end.ensures in
    given_costs c.args.n c.args.bytes.now _ _ has c.into_vec.ensures
