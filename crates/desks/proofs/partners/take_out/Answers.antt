use Rattle.std.proofs.Common.{arith}
use Rattle.std.specs.Arc.{arc_value}
use Rattle.desks.proofs.Kept.{others_kept, one_taken}
use Rattle.desks.proofs.partners.take_out.Goals as goal

pub returns-then-turn-clause-kept : goal.returns-then-turn-clause-kept
returns-then-turn-clause-kept g c =
    others_kept (λ a. g.T.Told.holds c.args._desk.now (arc_value a)) c.loop-at.kept.items c.swap_remove.new.self.items c.loop-at.at c.swap_remove.result
    (omega (arith, c.loop-at.kept.ok.0, c.loop-at.invariant.1, c.loop-at-test.true)) c.swap_remove.ensures.value c.swap_remove.ensures.items
    c.loop-at.invariant.0

pub returns-then-turn-clause-holds : goal.returns-then-turn-clause-holds
returns-then-turn-clause-holds g c =
    one_taken (λ a. g.T.Told.holds c.args._desk.now (arc_value a)) c.loop-at.kept.items c.loop-at.at c.swap_remove.result
    (omega (arith, c.loop-at.kept.ok.0, c.loop-at.invariant.1, c.loop-at-test.true)) c.swap_remove.ensures.value c.loop-at.invariant.0
