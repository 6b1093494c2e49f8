use Rattle.std.proofs.Common.{get_or, refl, arith}
use Rattle.cert_scan.proofs.Stepping.{takes_byte, takes_nothing}
use Rattle.cert_scan.proofs.scanner.Scan.take_bytes.Goals as goal

pub returns-then-count-bytes : goal.returns-then-count-bytes
returns-then-count-bytes c =
    takes_nothing c.args.self.now c.take_quietly-count.new.self c.args.bytes.now c.take_quietly-count.result (omega arith)
    (record { within = c.take_quietly-count.ensures.within; after = c.take_quietly-count.ensures.after; nothing = c.take_quietly-count.ensures.nothing })

pub returns : goal.returns
returns c =
    let within = c.take_quietly-count.ensures.within in
    let other = c.if-count-bytes.false in
    takes_byte c.args.self.now c.take_quietly-count.new.self c.advance-item.new.self c.args.bytes.now c.take_quietly-count.result
    (get_or c.args.bytes.now c.take_quietly-count.result 0) c.advance-item.result
    (record { within = c.take_quietly-count.ensures.within; after = c.take_quietly-count.ensures.after; nothing = c.take_quietly-count.ensures.nothing })
    (omega arith) refl c.advance-item.ensures.given c.advance-item.ensures.after
