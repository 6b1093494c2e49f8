use Rattle.std.proofs.Common.{◌≡◌, refl, rules, arith}
use Rattle.file_spec.specs.Places.{a_flow, a_distance, an_index}
use Rattle.token_reader.specs.Unread.{value_here}
use Rattle.instance_cab.specs.ListedRows.{commodity_here, listed_here}
use Rattle.instance_cab.proofs.RowTokens.{IsReadInRow, row_begins, field_read, field_stopped, row_legal}
use Rattle.instance_cab.proofs.rows.read_row.Goals as goal

pub returns-in_err-from-clause-fault : goal.returns-in_err-from-clause-fault
returns-in_err-from-clause-fault c =
    let stopped = field_stopped c.args.n c.args.reader.now 0 (an_index c.args.n) _ c.index.result refl (omega arith) (row_begins c.args.n c.args.reader.now) c.index.ensures.fault in search rules

pub returns-in_err-to-clause-fault : goal.returns-in_err-to-clause-fault
returns-in_err-to-clause-fault c =
    let read_from : IsReadInRow c.args.n c.args.reader.now 1 c.index.new.self =
    field_read c.args.n c.args.reader.now 0 1 (an_index c.args.n) _ _ c.index.result c.in_ok-from.from refl refl (row_begins c.args.n c.args.reader.now) (search rules) c.index.ensures.fault c.index.ensures.moved in
    let stopped = field_stopped c.args.n c.args.reader.now 1 (an_index c.args.n) _ c.index-2.result refl (omega arith) read_from c.index-2.ensures.fault in search rules

pub returns-in_err-flow-clause-fault : goal.returns-in_err-flow-clause-fault
returns-in_err-flow-clause-fault c =
    let read_from : IsReadInRow c.args.n c.args.reader.now 1 c.index.new.self =
    field_read c.args.n c.args.reader.now 0 1 (an_index c.args.n) _ _ c.index.result c.in_ok-from.from refl refl (row_begins c.args.n c.args.reader.now) (search rules) c.index.ensures.fault c.index.ensures.moved in
    let read_to : IsReadInRow c.args.n c.args.reader.now 2 c.index-2.new.self =
    field_read c.args.n c.args.reader.now 1 2 (an_index c.args.n) _ _ c.index-2.result c.in_ok-to.to refl refl read_from (search rules) c.index-2.ensures.fault c.index-2.ensures.moved in
    let stopped = field_stopped c.args.n c.args.reader.now 2 (a_flow) _ c.quantity.result refl (omega arith) read_to c.quantity.ensures.fault in search rules

pub returns-in_err-distance-clause-fault : goal.returns-in_err-distance-clause-fault
returns-in_err-distance-clause-fault c =
    let read_from : IsReadInRow c.args.n c.args.reader.now 1 c.index.new.self =
    field_read c.args.n c.args.reader.now 0 1 (an_index c.args.n) _ _ c.index.result c.in_ok-from.from refl refl (row_begins c.args.n c.args.reader.now) (search rules) c.index.ensures.fault c.index.ensures.moved in
    let read_to : IsReadInRow c.args.n c.args.reader.now 2 c.index-2.new.self =
    field_read c.args.n c.args.reader.now 1 2 (an_index c.args.n) _ _ c.index-2.result c.in_ok-to.to refl refl read_from (search rules) c.index-2.ensures.fault c.index-2.ensures.moved in
    let read_flow : IsReadInRow c.args.n c.args.reader.now 3 c.quantity.new.self =
    field_read c.args.n c.args.reader.now 2 3 (a_flow) _ _ c.quantity.result c.in_ok-flow.flow refl refl read_to (search rules) c.quantity.ensures.fault c.quantity.ensures.moved in
    let stopped = field_stopped c.args.n c.args.reader.now 3 (a_distance) _ c.quantity-2.result refl (omega arith) read_flow c.quantity-2.ensures.fault in search rules

pub returns-clause-commodity : goal.returns-clause-commodity
unfolding commodity_here
returns-clause-commodity c =
    let read_from : IsReadInRow c.args.n c.args.reader.now 1 c.index.new.self =
    field_read c.args.n c.args.reader.now 0 1 (an_index c.args.n) _ _ c.index.result c.in_ok-from.from refl refl (row_begins c.args.n c.args.reader.now) (search rules) c.index.ensures.fault c.index.ensures.moved in
    let from : c.in_ok-from.from ≡ value_here 0 c.args.reader.now = search rules in
    let to : c.in_ok-to.to ≡ value_here 0 c.index.new.self = search rules in
    let at = read_from.at in
    cc

pub returns-clause-listed : goal.returns-clause-listed
unfolding listed_here
returns-clause-listed c =
    let read_from : IsReadInRow c.args.n c.args.reader.now 1 c.index.new.self =
    field_read c.args.n c.args.reader.now 0 1 (an_index c.args.n) _ _ c.index.result c.in_ok-from.from refl refl (row_begins c.args.n c.args.reader.now) (search rules) c.index.ensures.fault c.index.ensures.moved in
    let read_to : IsReadInRow c.args.n c.args.reader.now 2 c.index-2.new.self =
    field_read c.args.n c.args.reader.now 1 2 (an_index c.args.n) _ _ c.index-2.result c.in_ok-to.to refl refl read_from (search rules) c.index-2.ensures.fault c.index-2.ensures.moved in
    let read_flow : IsReadInRow c.args.n c.args.reader.now 3 c.quantity.new.self =
    field_read c.args.n c.args.reader.now 2 3 (a_flow) _ _ c.quantity.result c.in_ok-flow.flow refl refl read_to (search rules) c.quantity.ensures.fault c.quantity.ensures.moved in
    let flow : c.in_ok-flow.flow ≡ value_here 6 c.index-2.new.self = search rules in
    let distance : c.in_ok-distance.distance ≡ value_here 3 c.quantity.new.self = search rules in
    let there = read_to.at in
    let at = read_flow.at in
    cc

pub returns-clause-legal : goal.returns-clause-legal
returns-clause-legal c =
    let read_from : IsReadInRow c.args.n c.args.reader.now 1 c.index.new.self =
    field_read c.args.n c.args.reader.now 0 1 (an_index c.args.n) _ _ c.index.result c.in_ok-from.from refl refl (row_begins c.args.n c.args.reader.now) (search rules) c.index.ensures.fault c.index.ensures.moved in
    let read_to : IsReadInRow c.args.n c.args.reader.now 2 c.index-2.new.self =
    field_read c.args.n c.args.reader.now 1 2 (an_index c.args.n) _ _ c.index-2.result c.in_ok-to.to refl refl read_from (search rules) c.index-2.ensures.fault c.index-2.ensures.moved in
    let read_flow : IsReadInRow c.args.n c.args.reader.now 3 c.quantity.new.self =
    field_read c.args.n c.args.reader.now 2 3 (a_flow) _ _ c.quantity.result c.in_ok-flow.flow refl refl read_to (search rules) c.quantity.ensures.fault c.quantity.ensures.moved in
    let read_distance : IsReadInRow c.args.n c.args.reader.now 4 c.quantity-2.new.self =
    field_read c.args.n c.args.reader.now 3 4 (a_distance) _ _ c.quantity-2.result c.in_ok-distance.distance refl refl read_flow (search rules) c.quantity-2.ensures.fault c.quantity-2.ensures.moved in
    row_legal c.args.n c.args.reader.now c.quantity-2.new.self read_distance

pub returns-clause-moved : goal.returns-clause-moved
returns-clause-moved c =
    let read_from : IsReadInRow c.args.n c.args.reader.now 1 c.index.new.self =
    field_read c.args.n c.args.reader.now 0 1 (an_index c.args.n) _ _ c.index.result c.in_ok-from.from refl refl (row_begins c.args.n c.args.reader.now) (search rules) c.index.ensures.fault c.index.ensures.moved in
    let read_to : IsReadInRow c.args.n c.args.reader.now 2 c.index-2.new.self =
    field_read c.args.n c.args.reader.now 1 2 (an_index c.args.n) _ _ c.index-2.result c.in_ok-to.to refl refl read_from (search rules) c.index-2.ensures.fault c.index-2.ensures.moved in
    let read_flow : IsReadInRow c.args.n c.args.reader.now 3 c.quantity.new.self =
    field_read c.args.n c.args.reader.now 2 3 (a_flow) _ _ c.quantity.result c.in_ok-flow.flow refl refl read_to (search rules) c.quantity.ensures.fault c.quantity.ensures.moved in
    let read_distance : IsReadInRow c.args.n c.args.reader.now 4 c.quantity-2.new.self =
    field_read c.args.n c.args.reader.now 3 4 (a_distance) _ _ c.quantity-2.result c.in_ok-distance.distance refl refl read_flow (search rules) c.quantity-2.ensures.fault c.quantity-2.ensures.moved in
    read_distance.at
