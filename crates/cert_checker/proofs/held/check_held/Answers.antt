use Rattle.cert_checker.proofs.Reading.{judged_over}
use Rattle.cert_checker.proofs.held.check_held.Goals as goal

pub returns-clause-judged : goal.returns-clause-judged
returns-clause-judged g c =
    let s = g.S.Shelf in
    judged_over c.args.instance.now c.in_ok-stream.stream.checks.instance.now (s.held c.args.shelf.now) c.args.name.now
    (s.left c.begin.new.self) (s.left c.feed_all.new.shelf) c.feed_all.result c.size-nodes.ensures.problem c.in_ok-stream.ensures.instance
    c.in_ok-begin.ensures.starts c.feed_all.ensures.ended
