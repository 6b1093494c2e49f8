use Rattle.search_steps.proofs.GivenPools.{find_is_number}
use Rattle.search_steps.proofs.separating.number_of.Goals as goal

pub returns-clause-number : goal.returns-clause-number
returns-clause-number c =
    let s = c.args.progress.now in
    λ p. find_is_number p s.pool.entries c.args.set.now s.hubs s.cost s.made s.stop c.find.result c.find.ensures.some c.find.ensures.only
    c.find.ensures.none
