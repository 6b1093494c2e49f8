use Rattle.std.proofs.Common.{◌≡◌, ℕ, List, ap, sym, subst, [], ◌∷◌, ◌∙◌}
use Rattle.std.proofs.lemmas.Result.{on_ok_weaker}
use Rattle.hub_spec.specs.Trees.{IsBranch, branch_on}
use Rattle.hub_spec.proofs.ChildLists.{open_branch, closed_branch}
use Rattle.frac_master.specs.Advice.{advice_of_code}
use Rattle.search_spec.specs.Steps.{two_more}
use Rattle.search_steps.specs.Advising.{told_by, parts_of}
use Rattle.search_steps.specs.Weights.{AreNodeWeights, pairs_of}
use Rattle.search_steps.proofs.GivenPools.{weights_stay, grown_twice}
use Rattle.search_steps.specs.Progressing.{state_of}
use Rattle.search_spec.specs.Places.{line, open_at, Standing}
use Rattle.search_spec.specs.Turns.{fresh}
use Rattle.search_spec.proofs.RoundCases.{halved_full}
use Rattle.node_rounds.specs.Outcomes.{pending_of}
use Rattle.node_rounds.proofs.Added.{taken_then, taken_as, halved_as}
use Rattle.node_rounds.proofs.splitting.halved.Goals as goal

pub returns-then-not-may_split : goal.returns-then-not-may_split
returns-then-not-may_split c =
    let t = c.args.task.now in
    let p = t.instance.now in
    let front = c.args.front.now in
    let is = halved_full p (parts_of p) t.nodes (told_by (advice_of_code c.args.advice.now)) (pending_of c.args.node) (state_of p front.progress)
    (sym c.may_split.ensures ∙ c.if-not-may_split.true) in
    on_ok_weaker c.stop_at.result (λ taken. taken_as t front c.stop_at.new.front _ _ is taken) c.stop_at.ensures

pub add_node-requires-clause-node : goal.add_node-requires-clause-node
add_node-requires-clause-node c =
    let p = c.args.task.now.instance.now in
    let before = c.args.front.now.progress.pool.entries in
    let after = c.add_branch.new.front.progress.pool.entries in
    let node = c.args.node in
    let same = c.in_ok-weights.ensures.items_if_clones_equal (λ x y e. e) ∙ c.deref.ensures.value in
    record {
      branch = subst (IsBranch p) (sym c.in_ok-opened.ensures) (open_branch p node.branch c.nearest-k.result c.requires.node.branch c.nearest-k.ensures.free);
      weights = subst (AreNodeWeights after) (sym same) (weights_stay before after node.weights.items c.in_ok-add_branch.ensures.kept c.requires.node.weights);
    }

pub add_node-requires-2-clause-node : goal.add_node-requires-2-clause-node
add_node-requires-2-clause-node c =
    let p = c.args.task.now.instance.now in
    let before = c.args.front.now.progress.pool.entries in
    let mid = c.add_branch.new.front.progress.pool.entries in
    let after = c.add_node.new.front.progress.pool.entries in
    let node = c.args.node in
    let kept = grown_twice before mid after c.in_ok-add_branch.ensures.kept c.in_ok-add_node.ensures.kept in
    record {
      branch = subst (IsBranch p) (sym c.in_ok-closed.ensures) (closed_branch p node.branch c.nearest-k.result c.requires.node.branch c.nearest-k.ensures.free);
      weights = weights_stay before after node.weights.items kept c.requires.node.weights;
    }

pub returns : goal.returns
returns c =
    let t = c.args.task.now in
    let p = t.instance.now in
    let before = c.args.front.now in
    let one = c.add_branch.new.front in
    let two = c.add_node.new.front in
    let three = c.add_node-2.new.front in
    let k = c.nearest-k.result in
    let s = state_of p before.progress in
    let x = pending_of c.args.node in
    let a = told_by (advice_of_code c.args.advice.now) in
    let opened = c.in_ok-opened.opened in
    let closed = c.in_ok-closed.closed in
    let w = pairs_of c.in_ok-weights.weights.items in
    let split = c.in_ok-add_branch.ensures in
    let first = c.in_ok-add_node.ensures in
    let from_one : Standing = record { state = two_more s; places = line (branch_on k) ∷ [] } in
    let from_two : Standing = record { state = state_of p one.progress; places = open_at (fresh opened w) ∷ [] } in
    let from_both : Standing = record { state = state_of p one.progress; places = line (branch_on k) ∷ open_at (fresh opened w) ∷ [] } in
    let from_three : Standing = record { state = state_of p two.progress; places = open_at (fresh closed x.weights) ∷ [] } in
    let total : Standing = record {
      state = two_more s;
      places = line (branch_on k) ∷ open_at (fresh opened w) ∷ open_at (fresh closed x.weights) ∷ [];
    } in
    let state = first.state ∙ split.state in
    let same : record { state = state_of p two.progress; places = total.places } ≡ total = λ i. record { state = state i; places = total.places } in
    let copied = c.in_ok-weights.ensures.items_if_clones_equal (λ x y e. e) ∙ c.deref.ensures.value in
    let is = same ∙ halved_as p t.nodes a x s w k opened closed (sym c.may_split.ensures ∙ c.if-not-may_split.false) c.nearest-k.ensures.nearest
    (ap (λ (ws : List ℕ). pairs_of ws) copied) c.in_ok-opened.ensures c.in_ok-closed.ensures in
    on_ok_weaker c.add_node-2.result
    (λ last. taken_as t before three _ _ is
    (taken_then t before two three from_both from_three (taken_then t before one two from_one from_two split first) last))
    c.add_node-2.ensures
