use Rattle.std.proofs.Common.{sym, ◌∙◌, arith}
use Rattle.cert_scan.proofs.Stepping.{run_on, run_item, run_end, none_of, some_of}
use Rattle.cert_scan.proofs.scanner.Scan.advance_all.Goals as goal

pub loop-at-preserved : goal.loop-at-preserved
loop-at-preserved c =
    run_on c.args.self.now c.loop-at.self c.take_next-taken.new.self c.args.bytes.now c.loop-at.at c.take_next-taken.result.0 c.take_next-taken.result.1 c.loop-at.invariant
    c.take_next-taken.ensures (none_of c.take_next-taken.result.1 (sym c.is_some.ensures ∙ c.if-is_some.false))

pub returns-then-is_some : goal.returns-then-is_some
returns-then-is_some c =
    run_item c.args.self.now c.loop-at.self c.take_next-taken.new.self c.args.bytes.now c.loop-at.at c.take_next-taken.result.0 c.take_next-taken.result.1 c.loop-at.invariant
    c.take_next-taken.ensures (some_of c.take_next-taken.result.1 (sym c.is_some.ensures ∙ c.if-is_some.true))

pub returns : goal.returns
returns c = run_end c.args.self.now c.loop-at.self c.args.bytes.now c.loop-at.at c.loop-at.invariant (omega arith)
