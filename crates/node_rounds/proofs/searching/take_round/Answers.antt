use Rattle.node_rounds.proofs.Settling.{settled_left}
use Rattle.node_rounds.proofs.searching.take_round.Goals as goal

pub returns-clause-left : goal.returns-clause-left
returns-clause-left g c =
    settled_left c.settle.result c.args.task.now c.take_all.new.front.progress c.put_back.new.left c.settle.new.left c.settle.new.lines
    c.in_ok-take_all.ensures.front.going
    (c.in_ok-put_back.ensures.nodes c.args.task.now.instance.now c.take_all.new.front.progress.pool.entries c.in_ok-take_all.ensures.front.nodes
    c.in_ok-take_all.ensures.left.nodes)
    c.settle.ensures.nodes c.settle.ensures.matched c.settle.ensures.few
