use Rattle.std.proofs.Common.{rules}
use Rattle.instance_cab.proofs.MatrixStages.{sized, size_refused, half_read, first_refused, both_read, second_refused, end_refused, has_contents, has_limits}
use Rattle.instance_cab.proofs.matrix_layout.read_matrix.Goals as goal

pub returns-in_err-n-clause-fault : goal.returns-in_err-n-clause-fault
returns-in_err-n-clause-fault c =
    let refused = size_refused c.args.terms.now c.args.bytes.now _ _ c.over-reader.ensures c.size.ensures.fault in search rules

pub returns-in_err-first-clause-fault : goal.returns-in_err-first-clause-fault
returns-in_err-first-clause-fault c =
    let size = sized c.args.terms.now c.args.bytes.now c.in_ok-n.n _ _ _ (search rules) c.over-reader.ensures c.size.ensures.fault c.size.ensures.value c.size.ensures.moved in
    let refused = first_refused c.args.terms.now c.args.bytes.now c.in_ok-n.n _ _ _ size c.kinds-first_kind.ensures.first c.numbers.ensures.fault in search rules

pub returns-in_err-second-clause-fault : goal.returns-in_err-second-clause-fault
returns-in_err-second-clause-fault c =
    let size = sized c.args.terms.now c.args.bytes.now c.in_ok-n.n _ _ _ (search rules) c.over-reader.ensures c.size.ensures.fault c.size.ensures.value c.size.ensures.moved in
    let half = half_read c.args.terms.now c.args.bytes.now c.in_ok-n.n _ _ c.numbers.new.reader c.in_ok-first.first size c.kinds-first_kind.ensures.first (search rules) (search rules) (search rules) in
    let refused = second_refused c.args.terms.now c.args.bytes.now c.in_ok-n.n _ _ c.in_ok-first.first _ half c.kinds-first_kind.ensures.second c.numbers-2.ensures.fault in search rules

pub returns-in_err-map_err-clause-fault : goal.returns-in_err-map_err-clause-fault
returns-in_err-map_err-clause-fault c =
    let size = sized c.args.terms.now c.args.bytes.now c.in_ok-n.n _ _ _ (search rules) c.over-reader.ensures c.size.ensures.fault c.size.ensures.value c.size.ensures.moved in
    let half = half_read c.args.terms.now c.args.bytes.now c.in_ok-n.n _ _ c.numbers.new.reader c.in_ok-first.first size c.kinds-first_kind.ensures.first (search rules) (search rules) (search rules) in
    let both = both_read c.args.terms.now c.args.bytes.now c.in_ok-n.n _ _ c.numbers-2.new.reader c.in_ok-first.first c.in_ok-second.second half c.kinds-first_kind.ensures.second (search rules) (search rules) (search rules) in
    let refused = end_refused c.args.terms.now c.args.bytes.now c.in_ok-n.n _ _ _ _ both c.end.ensures in search rules

pub parts_of-requires : goal.parts_of-requires
parts_of-requires c =
    let size = sized c.args.terms.now c.args.bytes.now c.in_ok-n.n _ _ _ (search rules) c.over-reader.ensures c.size.ensures.fault c.size.ensures.value c.size.ensures.moved in
    let half = half_read c.args.terms.now c.args.bytes.now c.in_ok-n.n _ _ c.numbers.new.reader c.in_ok-first.first size c.kinds-first_kind.ensures.first (search rules) (search rules) (search rules) in
    let both = both_read c.args.terms.now c.args.bytes.now c.in_ok-n.n _ _ c.numbers-2.new.reader c.in_ok-first.first c.in_ok-second.second half c.kinds-first_kind.ensures.second (search rules) (search rules) (search rules) in
    has_limits c.args.terms.now c.args.bytes.now _ c.kinds-first_kind.ensures.limits
    (has_contents c.args.terms.now c.args.bytes.now c.in_ok-n.n _ _ _ c.end.result both (search rules) c.end.ensures)

pub returns-clause-contents : goal.returns-clause-contents
returns-clause-contents c =
    let size = sized c.args.terms.now c.args.bytes.now c.in_ok-n.n _ _ _ (search rules) c.over-reader.ensures c.size.ensures.fault c.size.ensures.value c.size.ensures.moved in
    let half = half_read c.args.terms.now c.args.bytes.now c.in_ok-n.n _ _ c.numbers.new.reader c.in_ok-first.first size c.kinds-first_kind.ensures.first (search rules) (search rules) (search rules) in
    let both = both_read c.args.terms.now c.args.bytes.now c.in_ok-n.n _ _ c.numbers-2.new.reader c.in_ok-first.first c.in_ok-second.second half c.kinds-first_kind.ensures.second (search rules) (search rules) (search rules) in
    rw c.parts_of.ensures (has_contents c.args.terms.now c.args.bytes.now c.in_ok-n.n _ _ _ c.end.result both (search rules) c.end.ensures)
