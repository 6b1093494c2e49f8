use Rattle.std.proofs.Common.{◌≡◌, ◌*◌, None, ap, ◌∙◌, rules}
use Rattle.instance_cab.specs.ListedRows.{IsListing, first_lack, listed_flows, listed_distances}
use Rattle.instance_cab.proofs.RowFiles.{lack_refused, has_rows, rows_limits}
use Rattle.instance_cab.proofs.row_layout.read_rows.Goals as goal

pub returns-in_err-n-clause-fault : goal.returns-in_err-n-clause-fault
returns-in_err-n-clause-fault c = let refused = c.all_rows.ensures.fault c.args.terms.now in search rules

pub returns-in_err-flows-clause-fault : goal.returns-in_err-flows-clause-fault
returns-in_err-flows-clause-fault c =
    let listing : IsListing c.args.bytes.now c.in_ok-n.n c.in_ok-n.taken = search rules in
    let refused = lack_refused c.args.terms.now c.args.bytes.now c.in_ok-n.n c.in_ok-n.taken c.matrices.result listing c.matrices.ensures.fault in search rules

pub parts-requires : goal.parts-requires
parts-requires c =
    let listing : IsListing c.args.bytes.now c.in_ok-n.n c.in_ok-n.taken = search rules in
    let whole : first_lack c.in_ok-n.n c.in_ok-n.taken (c.in_ok-n.n * c.in_ok-n.n) ≡ None = search rules in
    let flows : c.in_ok-flows.flows ≡ listed_flows c.in_ok-n.taken (c.in_ok-n.n * c.in_ok-n.n) = search rules in
    let distances : c.in_ok-flows.distances ≡ listed_distances c.divisor.result c.in_ok-n.n c.in_ok-n.taken (c.in_ok-n.n * c.in_ok-n.n) = search rules in
    let divided = distances ∙ ap (λ divide. listed_distances divide c.in_ok-n.n c.in_ok-n.taken (c.in_ok-n.n * c.in_ok-n.n)) c.divisor.ensures.value in
    let has = has_rows c.args.terms.now c.args.bytes.now c.in_ok-n.n c.in_ok-n.taken c.in_ok-flows.flows c.in_ok-flows.distances listing whole flows divided in
    rows_limits c.args.terms.now c.args.bytes.now _ c.divisor.ensures.options has

pub returns-clause-contents : goal.returns-clause-contents
returns-clause-contents c =
    let listing : IsListing c.args.bytes.now c.in_ok-n.n c.in_ok-n.taken = search rules in
    let whole : first_lack c.in_ok-n.n c.in_ok-n.taken (c.in_ok-n.n * c.in_ok-n.n) ≡ None = search rules in
    let flows : c.in_ok-flows.flows ≡ listed_flows c.in_ok-n.taken (c.in_ok-n.n * c.in_ok-n.n) = search rules in
    let distances : c.in_ok-flows.distances ≡ listed_distances c.divisor.result c.in_ok-n.n c.in_ok-n.taken (c.in_ok-n.n * c.in_ok-n.n) = search rules in
    let divided = distances ∙ ap (λ divide. listed_distances divide c.in_ok-n.n c.in_ok-n.taken (c.in_ok-n.n * c.in_ok-n.n)) c.divisor.ensures.value in
    let has = has_rows c.args.terms.now c.args.bytes.now c.in_ok-n.n c.in_ok-n.taken c.in_ok-flows.flows c.in_ok-flows.distances listing whole flows divided in
    rw c.parts.ensures has
