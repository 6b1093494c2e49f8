use Rattle.std.proofs.Common.{not, ap, ◌∙◌}
use Rattle.cert_scan.proofs.Stepping.{none_of, some_of}
use Rattle.cert_scan.proofs.AtOnce.{stands_at, pair_runs, pair_fails}
use Rattle.cert_scan.proofs.scanner.Scan.end_dual.Goals as goal

pub returns-then-is_none : goal.returns-then-is_none
returns-then-is_none c =
    let ahead = c.requires in
    let found = c.in-ValueNode in
    pair_fails c.args.self.now c.go-item.new.self found.of ahead.1 c.args.bytes.now c.args.pair c.go-item.result c.take_value-next.result
    (stands_at c.args.self.now.position ahead.0 found.of ahead.1 found.field-1 c.in-Number.place c.in-Number.field-1 ahead.2 c.in-Number.is found.is) ahead.3
    c.take_value-next.ensures c.go-item.ensures.given c.go-item.ensures.after (none_of c.go-item.result (c.is_none.ensures ∙ ap not c.if-is_none.true))

pub returns : goal.returns
returns c =
    let ahead = c.requires in
    let found = c.in-ValueNode in
    pair_runs c.args.self.now c.go-item.new.self found.of ahead.1 c.args.bytes.now c.args.pair c.go-item.result c.take_value-next.result
    (stands_at c.args.self.now.position ahead.0 found.of ahead.1 found.field-1 c.in-Number.place c.in-Number.field-1 ahead.2 c.in-Number.is found.is) ahead.3
    c.take_value-next.ensures c.go-item.ensures.given c.go-item.ensures.after (some_of c.go-item.result (c.is_none.ensures ∙ ap not c.if-is_none.false))
