use Rattle.std.proofs.Common.{sym, ap, ◌∙◌}
use Rattle.cert_scan.specs.declared.bytes.Position.TheVariants.{Number}
use Rattle.cert_scan.proofs.Stepping.{none_of}
use Rattle.cert_scan.proofs.NumberRuns.{number_begins, number_takes}
use Rattle.cert_scan.proofs.scanner.Scan.take_number.Goals as goal

pub returns-clause-takes : goal.returns-clause-takes
returns-clause-takes c =
    let place = c.in-Number.place in
    let none = none_of c.in-Number.value (sym c.is_some.ensures ∙ c.if-is_some.false) in
    let number = c.in_ok-number.number in
    number_takes c.args.self.now c.go-item.new.self c.args.bytes.now 0 number.value number.last number.behind c.in-Number.place c.go-item.result c.take-next.result
    (number_begins c.args.self.now c.args.bytes.now c.in-Number.place (c.in-Number.is ∙ ap (Number place) none)) c.in_ok-number.ensures c.take-next.ensures
    c.go-item.ensures.given c.go-item.ensures.after
