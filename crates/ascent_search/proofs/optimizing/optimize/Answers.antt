use Rattle.ascent_search.proofs.Ungapped.{closed, spent_closed}
use Rattle.ascent_search.proofs.optimizing.optimize.Goals as goal

pub returns-clause-spent : goal.returns-clause-spent
returns-clause-spent g c = spent_closed c.args.nodes c.optimize_within.result c.optimize_within.ensures.spent c.optimize_within.ensures.within

pub returns-clause-enough : goal.returns-clause-enough
returns-clause-enough g c enough = closed c.optimize_within.result (c.optimize_within.ensures.enough enough) c.optimize_within.ensures.within

pub returns-clause-whole : goal.returns-clause-whole
returns-clause-whole g c none = closed c.optimize_within.result (c.optimize_within.ensures.whole none) c.optimize_within.ensures.within
