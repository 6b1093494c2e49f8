use Rattle.std.proofs.Common.{◌≡◌, true, false, [], ◌∷◌, ◌++◌, is_some, refl, ap, sym, ◌∙◌, true≢false, rules, arith}
use Rattle.node_rounds.specs.declared.left.TreeSlot.{TreeSlot}
use Rattle.node_rounds.specs.Outcomes.{IsPendingOf}
use Rattle.node_rounds.proofs.Added.{outcome_kept}
use Rattle.node_rounds.proofs.Lefts.{no_items, last_is}
use Rattle.node_rounds.proofs.Turned.{turning_first, turning_line, turning_node, turning_over, last_turn}
use Rattle.node_rounds.proofs.searching.take_all.Goals.{then-loop-front-test+else-is_none, else-loop-front-test}
use Rattle.node_rounds.proofs.searching.take_all.Goals as goal

pub loop-front-init : goal.loop-front-init
loop-front-init g c = (
  turning_first c.args.task.now c.args.front.now c.args.left.now c.args.outcomes.items c.requires.left c.requires.no_place c.requires.turns c.requires.first,
  c.requires.ready,
)

pub loop-front-preserved-in-Continue-1 : goal.loop-front-preserved-in-Continue-1
loop-front-preserved-in-Continue-1 g c =
    let marks = c.in-Some-Line.ensures.items ∙ ap (λ (m : TreeSlot). c.pop.new.self.items ++ m ∷ []) c.in-Some-Line.field-0-is in (
      turning_line c.args.task.now c.args.front.now.progress c.args.left.now c.loop-front.front c.add_line.new.front c.loop-front.left
          (record { marks = c.pop.new.self; nodes = c.loop-front.left.nodes }) c.loop-front.outcomes.items c.in-Some-Line.line c.loop-front.invariant.0 marks refl
          c.in_ok-add_line-in-Some-Line.ensures,
      c.loop-front.invariant.1,
    )

pub take-requires-clause-branch : goal.take-requires-clause-branch
take-requires-clause-branch g c =
    (last_is (IsPendingOf c.args.task.now.instance.now c.loop-front.front.progress.pool.entries) c.pop-in-Some-Node.new.self.items
    c.loop-front.left.nodes.items c.in-Some-Some.node c.in-Some-Some.ensures.items c.loop-front.invariant.0.is_left.nodes).branch

pub take-requires-clause-outcome : goal.take-requires-clause-outcome
take-requires-clause-outcome g c =
    let p = c.args.task.now.instance.now in
    let start = c.args.front.now.progress in
    let is = c.loop-front.invariant.0 in
    outcome_kept p start.pool.entries c.loop-front.front.progress.pool.entries c.in-Some-Some.node c.in-Some-Some.outcome is.kept
    (last_turn p start c.loop-front.left.nodes.items c.pop-in-Some-Node.new.self.items c.in-Some-Some.node c.loop-front.outcomes.items
    c.pop-in-Some-Node-2.new.self.items c.in-Some-Some.outcome is.turns c.in-Some-Some.ensures.items c.in-Some-Some.ensures'.items).1

pub loop-front-preserved : goal.loop-front-preserved
loop-front-preserved g c =
    let marks = c.in-Some-Node.ensures.items ∙ ap (λ (m : TreeSlot). c.pop.new.self.items ++ m ∷ []) c.in-Some-Node.field-0-is in
    let going : is_some c.loop-front.front.progress.stop ≡ false = search rules in (
      turning_node c.args.task.now c.args.front.now.progress c.args.left.now c.loop-front.front c.take.new.front c.loop-front.left
          (record { marks = c.pop.new.self; nodes = c.pop-in-Some-Node.new.self }) c.loop-front.outcomes.items c.pop-in-Some-Node-2.new.self.items
          c.in-Some-Some.node c.in-Some-Some.outcome c.loop-front.invariant.0 going marks c.in-Some-Some.ensures.items c.in-Some-Some.ensures'.items
          c.in_ok-take-in-Some-Some.ensures.taken,
      c.in_ok-take-in-Some-Some.ensures.ready,
    )

pub returns-clause-round : goal.returns-clause-round
returns-clause-round g c =
    turning_over c.args.task.now c.args.front.now.progress c.args.left.now c.loop-front.front c.loop-front.left c.loop-front.outcomes.items
    c.loop-front.invariant.0
    (elim c.loop-front-test.branch [
      | then-loop-front-test+else-is_none w ↦ λ going. absurd (true≢false (sym (let stopped : is_some c.loop-front.front.progress.stop ≡ true = search rules in stopped) ∙ going))
      | else-loop-front-test w ↦ λ going. no_items c.loop-front.outcomes.items (search (rules, arith))
    ])
