use Rattle.std.proofs.Common.{ℕ, List, length, ap, sym, ◌∙◌, arith}
use Rattle.std.specs.List.{HoldsAt}
use Rattle.search_steps.specs.Advising.{parts_of}
use Rattle.search_spec.specs.Turns.{next_round}
use Rattle.node_rounds.specs.declared.outcomes.Pending.{Pending}
use Rattle.node_rounds.specs.declared.outcomes.Outcome.{Outcome}
use Rattle.node_rounds.specs.Outcomes.{IsTurnOf, IsOutcomeOf}
use Rattle.node_rounds.specs.Left.{turned_of}
use Rattle.node_rounds.specs.Searchers.{IsTurnBy, after_rounds}
use Rattle.node_rounds.proofs.Alike.{after_more}
use Rattle.node_rounds.proofs.InOrder.{in_order, zip_weaker, further}
use Rattle.node_rounds.proofs.searchers.Searcher.turns.Goals as goal

pub loop-place-preserved : goal.loop-place-preserved
loop-place-preserved g c =
    let p = c.args.task.now.instance.now in
    let s = c.args.progress.now in
    let nodes = turned_of c.args.left.now.nodes.items in (
      c.in_ok-outcome.ensures.ready,
      further (λ (i : ℕ) (o : Outcome). HoldsAt (λ x. IsTurnBy p s x o) nodes i) c.loop-place.place c.loop-place.outcomes.items c.push.new.self.items
          c.in_ok-outcome.outcome c.loop-place.invariant.1 c.in_ok-outcome.ensures.turn c.in_ok-push.ensures.items,
    )

pub returns-clause-ready : goal.returns-clause-ready
returns-clause-ready g c =
    let t = c.args.task.now in
    let p = t.instance.now in
    let is = c.loop-place.invariant.0 in
    record {
      partner = c.pass.ensures.partner ∙ is.partner;
      stands = ap (next_round p (parts_of p) t.nodes) is.stands ∙ after_more p t.nodes c.loop-place.self.round
          ∙ ap (after_rounds p t.nodes) (sym c.in_ok-pass.ensures.round);
    }

pub returns-clause-turns : goal.returns-clause-turns
returns-clause-turns g c =
    let p = c.args.task.now.instance.now in
    let s = c.args.progress.now in
    let nodes = turned_of c.args.left.now.nodes.items in
    let long = ap (λ (xs : List Pending). length xs) c.turned-turns.ensures.nodes in
    zip_weaker (λ (x : Pending) (o : Outcome). IsTurnBy p s x o) (IsTurnOf p s.pool.entries s.cost) nodes c.loop-place.outcomes.items (λ x o is. is.turn)
    (in_order (λ (x : Pending) (o : Outcome). IsTurnBy p s x o) nodes c.loop-place.place c.loop-place.outcomes.items
    (omega (arith, c.loop-place-test.false, c.loop-place.auto.place-end, long, c.turned-turns.ensures.few)) c.loop-place.invariant.1)

pub returns-clause-sound : goal.returns-clause-sound
returns-clause-sound g c =
    let p = c.args.task.now.instance.now in
    let s = c.args.progress.now in
    let nodes = turned_of c.args.left.now.nodes.items in
    let long = ap (λ (xs : List Pending). length xs) c.turned-turns.ensures.nodes in
    zip_weaker (λ (x : Pending) (o : Outcome). IsTurnBy p s x o) (IsOutcomeOf p s.pool.entries) nodes c.loop-place.outcomes.items (λ x o is. is.sound)
    (in_order (λ (x : Pending) (o : Outcome). IsTurnBy p s x o) nodes c.loop-place.place c.loop-place.outcomes.items
    (omega (arith, c.loop-place-test.false, c.loop-place.auto.place-end, long, c.turned-turns.ensures.few)) c.loop-place.invariant.1)
