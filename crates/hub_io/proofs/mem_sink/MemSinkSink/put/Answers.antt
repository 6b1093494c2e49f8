use Rattle.std.proofs.Common.{take, drop, take-append-drop, arith}
use Rattle.hub_io.proofs.mem_sink.MemSinkSink.put.Goals as goal

-- the front that was taken
pub returns-then-is_some-clause-puts : goal.returns-then-is_some-clause-puts
returns-then-is_some-clause-puts c =
    let count = c.take_front-count.result in
    let piece = c.args.piece.now in
    record { whole = tt; front = (take count piece, drop count piece, take-append-drop count piece, cc); later = omega arith; failed = omega arith }
