use Rattle.std.proofs.Common.{◌≡◌, None, true, false, rules}
use Rattle.token_reader.specs.Unread.{later, has_ended}
use Rattle.instance_cab.specs.ListedRows.{commodity_here, listed_here, IsRowLegal, taken_at, TakesIn}
use Rattle.instance_cab.proofs.RowStages.{rows_begin, size_refused, row_more, row_refused, listing, fewer_left, none_taken}
use Rattle.instance_cab.proofs.row_layout.all_rows.Goals as goal

pub returns-in_err-n-clause-fault : goal.returns-in_err-n-clause-fault
returns-in_err-n-clause-fault c = λ o.
    let refused = size_refused o c.args.bytes.now _ c.size.result c.over-reader.ensures c.size.ensures.fault in search rules

pub loop-reader-init : goal.loop-reader-init
loop-reader-init c =
    rows_begin c.args.bytes.now c.in_ok-n.n _ c.size.new.self c.size.result c.new-taken.result (search rules) c.over-reader.ensures
    c.size.ensures.fault c.size.ensures.value c.size.ensures.moved (none_taken c.new-taken.result c.new-taken.ensures.empty)

pub loop-reader-smaller : goal.loop-reader-smaller
loop-reader-smaller c =
    let more : has_ended c.loop-reader.reader ≡ false = search rules in
    let moved : c.take_row.new.reader ≡ later 4 c.loop-reader.reader = search rules in
    fewer_left c.loop-reader.reader c.take_row.new.reader more moved

pub loop-reader-preserved : goal.loop-reader-preserved
loop-reader-preserved c =
    let more : has_ended c.loop-reader.reader ≡ false = search rules in
    let legal : IsRowLegal c.in_ok-n.n c.loop-reader.reader = search rules in
    let fresh : taken_at c.loop-reader.taken (commodity_here c.in_ok-n.n c.loop-reader.reader) ≡ None = search rules in
    let takes : TakesIn c.loop-reader.taken c.take_row.new.taken (commodity_here c.in_ok-n.n c.loop-reader.reader) (listed_here c.loop-reader.reader) = search rules in
    let moved : c.take_row.new.reader ≡ later 4 c.loop-reader.reader = search rules in
    row_more c.args.bytes.now c.in_ok-n.n c.loop-reader.reader c.take_row.new.reader c.loop-reader.taken c.take_row.new.taken c.loop-reader.invariant
    more legal fresh takes moved

pub returns-in_err-take_row-clause-fault : goal.returns-in_err-take_row-clause-fault
returns-in_err-take_row-clause-fault c = λ o.
    let more : has_ended c.loop-reader.reader ≡ false = search rules in
    let refused = row_refused o c.args.bytes.now c.in_ok-n.n c.loop-reader.reader c.loop-reader.taken c.take_row.result c.loop-reader.invariant more
    c.take_row.ensures.fault in search rules

pub returns-clause-listing : goal.returns-clause-listing
returns-clause-listing c =
    let ended : has_ended c.loop-reader.reader ≡ true = search rules in
    listing c.args.bytes.now c.in_ok-n.n c.loop-reader.reader c.loop-reader.taken c.loop-reader.invariant ended
