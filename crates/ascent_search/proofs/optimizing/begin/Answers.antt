use Rattle.std.proofs.Common.{refl, rules}
use Rattle.ascent_search.proofs.Findings.{begun_going}
use Rattle.ascent_search.proofs.optimizing.begin.Goals as goal

pub returns-clause-going : goal.returns-clause-going
returns-clause-going c =
    begun_going c.args.task.now _ c.first_incumbent.ensures.problem c.requires.gap (search rules) (search rules) (search rules) refl refl refl
