use Rattle.ascent_search.specs.Progressing.{IsAt}
use Rattle.ascent_search.specs.Walking.{IsSameWalk}
use Rattle.ascent_search.proofs.walker.Walker.take_advice.Given as goal

abbrev pub invariant-loop : goal.invariant-loop
invariant-loop g l = IsSameWalk l.fn.self.walk l.self.walk × IsAt l.fn.self.walk.task.now l.fn.self.walk.progress l.self.walk.progress
