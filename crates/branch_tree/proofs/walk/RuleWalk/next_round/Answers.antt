use Rattle.std.proofs.Common.{ℕ, List, refl, sym, ap, ◌∙◌}
use Rattle.std.proofs.lemmas.Result.{IfOk-weaker}
use Rattle.search_spec.specs.Steps.{round}
use Rattle.search_spec.proofs.StepCases.{rounds_over}
use Rattle.search_steps.specs.Weights.{pairs_of}
use Rattle.search_steps.specs.Kinds.{parts_for}
use Rattle.search_steps.proofs.GivenPools.{grown_same}
use Rattle.search_steps.specs.Progressing.{state_of}
use Rattle.branch_tree.specs.Rounding.{round_as}
use Rattle.branch_tree.proofs.NodeCases.{one_round}
use Rattle.branch_tree.proofs.walk.RuleWalk.next_round.Goals as goal

pub returns-then-not-last-clause-round : goal.returns-then-not-last-clause-round
returns-then-not-last-clause-round g c =
    let p = c.args.self.now.task.now.instance.now in
    let parts = parts_for g.S.Separator.kind p in
    let before = c.args.self.now.progress in
    record {
      is = sym (rounds_over 0 p parts c.args.branch.now (round_as p before c.args.last) c.if-not-last.true);
      lines = refl;
      going = c.requires.going;
      kept = grown_same before.pool.entries;
      weights = c.requires.weights;
    }

pub returns-clause-round : goal.returns-clause-round
returns-clause-round g c =
    let p = c.args.self.now.task.now.instance.now in
    let parts = parts_for g.S.Separator.kind p in
    let before = c.args.self.now.progress in
    let after = c.round.new.self.progress in
    IfOk-weaker c.round.result _ _
    (λ r one. record {
      is = one.is ∙ ap (λ (ws : List ℕ). round p parts c.args.branch.now (pairs_of ws) (state_of p before)) c.deref.ensures.value
          ∙ sym (one_round p parts c.args.branch.now (round_as p before c.args.last) c.if-not-last.false);
      lines = one.lines;
      going = one.going;
      kept = one.kept;
      weights = one.weights;
    }) c.round.ensures.round
