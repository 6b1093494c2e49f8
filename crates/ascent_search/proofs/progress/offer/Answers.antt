use Rattle.std.proofs.Common.{refl, arith}
use Rattle.ascent_search.proofs.Steps.{offer_at}
use Rattle.ascent_search.proofs.progress.offer.Goals as goal

pub returns-then-cost-progress-clause-at : goal.returns-then-cost-progress-clause-at
returns-then-cost-progress-clause-at c =
    offer_at c.args.task.now c.args.progress.now _ c.requires.going
    (record { cuts = refl; lines = refl; made = refl; stopped = refl; left = refl; cost = omega (arith, c.if-cost-progress.true) }) c.requires.set c.requires.wanted c.requires.cost
