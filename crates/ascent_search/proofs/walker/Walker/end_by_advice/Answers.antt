use Rattle.std.proofs.Common.{subst}
use Rattle.std.proofs.lemmas.Result.{IfOk-weaker}
use Rattle.ascent_search.specs.declared.task.SearchTask.{SearchTask}
use Rattle.ascent_search.specs.Progressing.{IsAdvised}
use Rattle.ascent_search.proofs.Steps.{at_advised}
use Rattle.ascent_search.proofs.walker.Walker.end_by_advice.Goals as goal

pub returns-clause-advised : goal.returns-clause-advised
returns-clause-advised g c =
    let t = c.args.self.now.walk.task.now in
    let b = c.args.branch.now in
    let before = c.args.self.now.walk.progress in
    let middle = c.take_advice.new.self.walk.progress in
    let after = c.end_by_values.new.self.progress in
    IfOk-weaker c.end_by_values.result (IsAdvised c.take_advice.new.self.walk.task.now b middle after) (IsAdvised t b before after)
    (λ ended advised. at_advised t b before middle after ended c.in_ok-take_advice.ensures.at
    (subst (λ (x : SearchTask). IsAdvised x b middle after ended) c.in_ok-take_advice.ensures.same.task advised)) c.end_by_values.ensures.advised
