use Rattle.std.proofs.Common.{◌≡◌, ℕ, ℤ, pos, true, false, is_some, Option, List, get_or, inl, inr, refl, ap, sym, ◌∙◌}
use Rattle.search_spec.specs.States.{number_in_pool}
use Rattle.search_spec.specs.Steps.{better, closes_at}
use Rattle.search_spec.specs.Choices.{others, by_falling}
use Rattle.frac_master.specs.Advice.{advice_of_code}
use Rattle.search_steps.specs.Advising.{told_by}
use Rattle.search_steps.specs.Weights.{pairs_of}
use Rattle.search_steps.proofs.GivenPools.{weights_stay, grown_same}
use Rattle.search_steps.proofs.RuleChoices.{room_when}
use Rattle.search_steps.specs.Progressing.{state_of}
use Rattle.branch_tree.proofs.RoundSteps.{IsTaken, round_ends, round_goes}
use Rattle.branch_tree.proofs.walk.RuleWalk.round.Goals as goal

pub better_weights-requires-clause-room : goal.better_weights-requires-clause-room
better_weights-requires-clause-room g c = room_when c.args.self.now.task.now.instance.now c.args.branch.now c.requires.goes_on.barren

pub closes_cost-requires-clause-room : goal.closes_cost-requires-clause-room
closes_cost-requires-clause-room g c = room_when c.args.self.now.task.now.instance.now c.args.branch.now c.requires.goes_on.barren

pub returns-then-closes_cost-clause-round : goal.returns-then-closes_cost-clause-round
returns-then-closes_cost-clause-round g c =
    let p = c.args.self.now.task.now.instance.now in
    let b = c.args.branch.now in
    let before = c.args.self.now.progress in
    let s = state_of p before in
    let w = pairs_of c.args.weights.now in
    let a = told_by (advice_of_code c.in_ok-advice.advice) in
    let best = pairs_of c.in_ok-weights.weights.items in
    let taken : IsTaken p b w s a best = record {
      advice = c.in_ok-advice.ensures.advice before.hubs before.made before.stop;
      weights = c.in_ok-weights.ensures.better ∙ ap (λ (ws : List ℕ). better p s b w (pairs_of ws)) c.deref.ensures.value;
    } in
    let closes = c.closes_cost.ensures ∙ ap (λ (ws : List ℕ). closes_at p s b (pairs_of ws)) c.deref-2.ensures.value in
    record {
      is = round_ends g.S.Separator.kind p b w s a best taken (inl (sym closes ∙ c.if-closes_cost.true));
      lines = refl;
      going = c.requires.going;
      kept = grown_same before.pool.entries;
      weights = c.in_ok-weights.ensures.weights;
    }

pub returns-then-is_some-clause-round : goal.returns-then-is_some-clause-round
returns-then-is_some-clause-round g c =
    let p = c.args.self.now.task.now.instance.now in
    let b = c.args.branch.now in
    let before = c.args.self.now.progress in
    let s = state_of p before in
    let w = pairs_of c.args.weights.now in
    let a = told_by (advice_of_code c.in_ok-advice.advice) in
    let best = pairs_of c.in_ok-weights.weights.items in
    let taken : IsTaken p b w s a best = record {
      advice = c.in_ok-advice.ensures.advice before.hubs before.made before.stop;
      weights = c.in_ok-weights.ensures.better ∙ ap (λ (ws : List ℕ). better p s b w (pairs_of ws)) c.deref.ensures.value;
    } in
    let closes = c.closes_cost.ensures ∙ ap (λ (ws : List ℕ). closes_at p s b (pairs_of ws)) c.deref-2.ensures.value in
    let set = c.in_ok-set.ensures.picked in
    let known : is_some (number_in_pool s c.in_ok-set.set) ≡ true =
    ap (λ (o : Option ℕ). is_some o) (sym (c.number_of.ensures.number p)) ∙ sym c.is_some.ensures ∙ c.if-is_some.true in
    record {
      is = round_ends g.S.Separator.kind p b w s a best taken (inr (ap (λ (x : List ℕ). is_some (number_in_pool s x)) (sym set) ∙ known));
      lines = refl;
      going = c.requires.going;
      kept = grown_same before.pool.entries;
      weights = c.in_ok-weights.ensures.weights;
    }

pub returns-clause-round : goal.returns-clause-round
returns-clause-round g c =
    let p = c.args.self.now.task.now.instance.now in
    let b = c.args.branch.now in
    let before = c.args.self.now.progress in
    let s = state_of p before in
    let w = pairs_of c.args.weights.now in
    let a = told_by (advice_of_code c.in_ok-advice.advice) in
    let best = pairs_of c.in_ok-weights.weights.items in
    let taken : IsTaken p b w s a best = record {
      advice = c.in_ok-advice.ensures.advice before.hubs before.made before.stop;
      weights = c.in_ok-weights.ensures.better ∙ ap (λ (ws : List ℕ). better p s b w (pairs_of ws)) c.deref.ensures.value;
    } in
    let closes = c.closes_cost.ensures ∙ ap (λ (ws : List ℕ). closes_at p s b (pairs_of ws)) c.deref-2.ensures.value in
    let set = c.in_ok-set.ensures.picked in
    let unknown : is_some (number_in_pool s c.in_ok-set.set) ≡ false =
    ap (λ (o : Option ℕ). is_some o) (sym (c.number_of.ensures.number p)) ∙ sym c.is_some.ensures ∙ c.if-is_some.false in
    let order = c.in_ok-order.ensures.is
    ∙ ap (λ (point : List ℤ). by_falling (λ k. get_or point k (pos 0)) (others p c.in_ok-set.set)) c.deref-3.ensures.value in
    let at = c.in_ok-separate.ensures.at in
    record {
      is = round_goes g.S.Separator.kind p b w s a best c.in_ok-set.set c.in_ok-order.order.items (state_of p c.separate.new.self.progress) taken
          (sym closes ∙ c.if-closes_cost.false) set unknown order at.state;
      lines = at.lines;
      going = at.going;
      kept = at.kept;
      weights = weights_stay before.pool.entries c.separate.new.self.progress.pool.entries c.in_ok-weights.weights.items at.kept c.in_ok-weights.ensures.weights;
    }
