use Rattle.std.proofs.Common.{List, length, ap, refl, sym, subst, arith}
use Rattle.search_core.specs.declared.tasks.Task.{Task}
use Rattle.node_rounds.specs.declared.outcomes.Pending.{Pending}
use Rattle.node_rounds.specs.declared.posts.Worked.{Worked}
use Rattle.node_rounds.specs.Searchers.{IsWorked}
use Rattle.node_rounds.proofs.Alike.{worked_there}
use Rattle.node_rounds.proofs.searchers.Searcher.work.Goals as goal

pub tell-requires : goal.tell-requires
tell-requires g c =
    let turn = c.turn_number.result in
    let worked : Worked = record { turn = turn; round = c.loop.self.round; place = c.in-Some.place; outcome = c.in_ok-outcome.outcome } in
    record {
      holds = subst (λ (k : Task). IsWorked k worked) (sym c.loop.invariant.partner)
          (worked_there c.args.task.now c.args.progress.now c.args.left.now worked turn c.loop.self.round c.in-Some.place
          c.in_ok-outcome.outcome c.requires.left c.loop.invariant.stands
          (omega (arith, c.in-Some.ensures, ap (λ (xs : List Pending). length xs) c.turned.ensures.nodes)) c.in_ok-outcome.ensures refl);
    }
