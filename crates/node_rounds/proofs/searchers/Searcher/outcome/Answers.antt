use Rattle.std.proofs.Common.{ap, subst, arith}
use Rattle.std.proofs.lemmas.Result.{IfOk-weaker}
use Rattle.std.specs.Arc.{arc_value}
use Rattle.std.specs.Prelude.{IfSome}
use Rattle.search_core.specs.declared.tasks.Task.{Task}
use Rattle.node_rounds.specs.declared.posts.Worked.{Worked}
use Rattle.node_rounds.specs.Searchers.{IsAsGood, IsWorked}
use Rattle.node_rounds.proofs.Alike.{told_turn}
use Rattle.node_rounds.proofs.searchers.Searcher.outcome.Goals as goal

pub returns-then-deref-place-clause-turn : goal.returns-then-deref-place-clause-turn
returns-then-deref-place-clause-turn c =
    let w : Worked = arc_value c.in-Some.worked in
    let told = subst (λ r. IfSome r (λ a. IsWorked c.args.self.now.partner (arc_value a))) c.in-Some.is c.in_ok-worked.ensures.holds in
    IfOk-weaker c.into_outcome.result (IsAsGood w.outcome) _
    (λ o good. told_turn c.args.task.now c.args.progress.now c.args.left.now w c.args.self.now.round c.args.place o
    (subst (λ (k : Task). IsWorked k w) c.requires.ready.partner told)
    (omega (arith, c.if-deref-self.true, ap (λ (v : Worked). v.round) c.deref.ensures))
    (omega (arith, c.if-deref-place.true, ap (λ (v : Worked). v.place) c.deref-then-deref-self.ensures)) good c.requires.left
    c.requires.ready.stands)
    c.into_outcome.ensures
