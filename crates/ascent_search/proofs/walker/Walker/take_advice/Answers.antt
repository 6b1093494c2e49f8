use Rattle.ascent_search.proofs.Walks.{walk_at_twice}
use Rattle.ascent_search.proofs.walker.Walker.take_advice.Goals as goal

pub loop-preserved : goal.loop-preserved
loop-preserved g c =
    walk_at_twice c.args.self.now.walk c.loop.self.walk c.pass.new.self.walk c.loop.invariant.0 c.loop.invariant.1 c.in_ok-pass.ensures.same
    c.in_ok-pass.ensures.at

pub returns-then-not-branch-clause-at : goal.returns-then-not-branch-clause-at
returns-then-not-branch-clause-at g c =
    let both = walk_at_twice c.args.self.now.walk c.loop.self.walk c.pass.new.self.walk c.loop.invariant.0 c.loop.invariant.1 c.in_ok-pass.ensures.same
    c.in_ok-pass.ensures.at in
    both.1
