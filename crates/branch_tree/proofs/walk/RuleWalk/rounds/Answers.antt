use Rattle.std.proofs.Common.{ap, ◌∙◌}
use Rattle.std.proofs.lemmas.Result.{IfOk-weaker}
use Rattle.search_spec.specs.Steps.{rounds, round}
use Rattle.search_steps.specs.Weights.{pairs_of}
use Rattle.search_steps.specs.Kinds.{parts_for}
use Rattle.search_steps.proofs.GivenPools.{grown_twice}
use Rattle.search_steps.specs.Progressing.{state_of}
use Rattle.branch_tree.proofs.NodeCases.{two_rounds}
use Rattle.branch_tree.proofs.RoundSteps.{next_by}
use Rattle.branch_tree.proofs.walk.RuleWalk.rounds.Goals as goal

pub returns-clause-rounds : goal.returns-clause-rounds
returns-clause-rounds g c =
    let t = c.args.self.now.task.now in
    let p = t.instance.now in
    let b = c.args.branch.now in
    let kind = g.S.Separator.kind in
    let parts = parts_for kind p in
    let first = c.in_ok-first.ensures.round in
    let same = c.in_ok-first.ensures.same in
    let second = next_by kind t c.round.new.self.task.now c.round.new.self.progress c.next_round.new.self.progress b c.in_ok-first.first c.in_ok-second.second same
    c.in_ok-second.ensures.round in
    let begun = round p parts b (pairs_of c.args.weights.now) (state_of p c.args.self.now.progress) in
    IfOk-weaker c.next_round-2.result _ _
    (λ r is. let third = next_by kind t c.next_round.new.self.task.now c.next_round.new.self.progress c.next_round-2.new.self.progress b c.in_ok-second.second r
    (c.in_ok-second.ensures.same ∙ same) is in record {
      is = third.is ∙ ap (rounds 1 p parts b) (second.is ∙ ap (rounds 1 p parts b) first.is) ∙ two_rounds p parts b begun;
      lines = third.lines ∙ second.lines ∙ first.lines;
      going = third.going;
      kept = grown_twice _ _ _ (grown_twice _ _ _ first.kept second.kept) third.kept;
      weights = third.weights;
    }) c.next_round-2.ensures.round
