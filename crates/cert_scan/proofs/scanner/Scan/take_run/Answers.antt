use Rattle.cert_scan.proofs.AtOnce.{pair_lists, way_lists}
use Rattle.cert_scan.proofs.scanner.Scan.take_run.Goals as goal

pub returns-in-Some : goal.returns-in-Some
returns-in-Some c =
    let found = c.in-Some.ensures in
    pair_lists c.args.self.now c.list_pair-item.new.self found.0 found.1 c.args.bytes.now c.in-Some.pair c.list_pair-item.result found.2
    found.3 c.if-pair.false c.list_pair-item.ensures.given (c.list_pair-item.ensures.after found.0 found.1 found.2)

pub returns : goal.returns
returns c =
    let found = c.in-Some-way_ahead.ensures in
    way_lists c.args.self.now c.list_way-item.new.self found.0 c.args.bytes.now c.in-Some-way_ahead.way c.list_way-item.result found.1 found.2
    c.if-way.false c.list_way-item.ensures.given (c.list_way-item.ensures.after found.0 found.1)
