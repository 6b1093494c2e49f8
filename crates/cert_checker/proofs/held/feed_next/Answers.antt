use Rattle.cert_checker.proofs.held.feed_next.Goals as goal

pub returns-clause-fed : goal.returns-clause-fed
returns-clause-fed g c = λ bytes h. c.in_ok-stream-in-Ok.ensures.fed bytes h
