use Rattle.test_certificates.proofs.certificates.streams.ended.Goals as goal

pub loop-piece-preserved : goal.loop-piece-preserved
loop-piece-preserved c =
    let fed = c.loop-piece.invariant in
    (_, c.in_ok-stream-2.ensures.fed fed.0 fed.1)
