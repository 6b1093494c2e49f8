use Rattle.std.proofs.Common.{◌≡◌, ℕ, List, ap, sym, refl, subst, [], ◌∷◌, ◌+◌, ◌∙◌, if◌then◌else◌}
use Rattle.std.proofs.lemmas.Result.{on_ok_weaker}
use Rattle.leaf_bound.specs.declared.sides.Side as code
use Rattle.hub_model.specs.Lines.{tree_line_of}
use Rattle.frac_master.specs.Advice.{advice_of_code}
use Rattle.search_steps.specs.Advising.{told_by, parts_of}
use Rattle.search_steps.specs.Weights.{pairs_of, sides_as}
use Rattle.search_steps.proofs.GivenPools.{weights_stay}
use Rattle.search_steps.specs.Progressing.{state_of}
use Rattle.search_spec.specs.Places as places
use Rattle.search_spec.specs.Turns.{with_set, taken, split_up}
use Rattle.node_rounds.specs.declared.fronts.RoundState.{RoundState}
use Rattle.node_rounds.specs.declared.outcomes.Outcome.{Outcome}
use Rattle.node_rounds.specs.Outcomes.{pending_of, outcome_of, tree_of, IsOutcomeOf}
use Rattle.node_rounds.proofs.Added.{nodes_kept, taken_as, taken_after, taken_ends, taken_asks, taken_splits, more_waits, same_waits}
use Rattle.node_rounds.proofs.taking.take.Goals.{then-waited, else-waited}
use Rattle.node_rounds.proofs.taking.take.Goals as goal

pub returns-in-Ends-clause-taken : goal.returns-in-Ends-clause-taken
returns-in-Ends-clause-taken g c =
    let t = c.args.task.now in
    let p = t.instance.now in
    let front = c.args.front.now in
    let x = pending_of c.args.node in
    let s = state_of p front.progress in
    let own = tree_line_of c.in-Ends.line in
    let outcome = subst (IsOutcomeOf p front.progress.pool.entries c.args.node) c.in-Ends.is c.requires.outcome in
    let is = taken_ends p (parts_of p) t.nodes x (tree_of own) own s outcome
    ∙ ap (λ (o : Outcome). taken p (parts_of p) t.nodes x (outcome_of o) s) (sym c.in-Ends.is) in
    on_ok_weaker c.add_line.result (λ last. taken_as t front c.add_line.new.front _ _ is last) c.add_line.ensures

pub add_node-requires-clause-front : goal.add_node-requires-clause-front
add_node-requires-clause-front g c =
    let p = c.args.task.now.instance.now in
    let front = c.args.front.now in
    let at = c.in_ok-with_set-in-Ask.ensures.at in
    record {
      going = at.going;
      nodes = nodes_kept p front.progress.pool.entries c.with_set.new.progress.pool.entries front.places.items at.kept c.requires.front.nodes;
    }

pub add_node-requires-clause-node : goal.add_node-requires-clause-node
add_node-requires-clause-node g c =
    let p = c.args.task.now.instance.now in
    let before = c.args.front.now.progress.pool.entries in
    let after = c.with_set.new.progress.pool.entries in
    let outcome = subst (IsOutcomeOf p before c.args.node) c.in-Ask.is c.requires.outcome in
    record {
      branch = c.requires.branch;
      weights = weights_stay before after c.in-Ask.weights.items c.in_ok-with_set-in-Ask.ensures.at.kept outcome.2;
    }

pub returns-in-Ask-clause-taken : goal.returns-in-Ask-clause-taken
returns-in-Ask-clause-taken g c =
    let t = c.args.task.now in
    let p = t.instance.now in
    let front = c.args.front.now in
    let mid : RoundState = record { progress = c.with_set.new.progress; places = front.places } in
    let last = c.add_node.new.front in
    let x = pending_of c.args.node in
    let s = state_of p front.progress in
    let at = c.in_ok-with_set-in-Ask.ensures.at in
    let waits : c.if-waited.waits ≡ (if c.in-Ask.waited then x.waits + 1 else x.waits) = elim c.if-waited.branch [
      | then-waited w ↦ more_waits c.in-Ask.waited x.waits c.if-waited.waits w.if-waited.true w.waits-is
      | else-waited w ↦ same_waits c.in-Ask.waited x.waits c.if-waited.waits w.if-waited.false w.waits-is
    ] in
    let is = taken_asks p (parts_of p) t.nodes x c.in-Ask.set c.in-Ask.order.items (pairs_of c.in-Ask.weights.items) c.in-Ask.waited s
    (state_of p mid.progress) c.if-waited.waits at.state waits
    ∙ ap (λ (o : Outcome). taken p (parts_of p) t.nodes x (outcome_of o) s) (sym c.in-Ask.is) in
    let asking : places.Pending = record { branch = x.branch; weights = pairs_of c.in-Ask.weights.items; waits = c.if-waited.waits } in
    let from : places.Standing = record { state = state_of p mid.progress; places = places.open_at asking ∷ [] } in
    let after = with_set (parts_of p) c.in-Ask.set c.in-Ask.order.items s in
    on_ok_weaker c.add_node.result
    (λ added. taken_as t front last from (taken p (parts_of p) t.nodes x (outcome_of c.args.outcome) s) is
    (taken_after t front mid last after from at refl added))
    c.add_node.ensures

pub returns-clause-taken : goal.returns-clause-taken
returns-clause-taken g c =
    let t = c.args.task.now in
    let p = t.instance.now in
    let front = c.args.front.now in
    let x = pending_of c.args.node in
    let s = state_of p front.progress in
    let a = told_by (advice_of_code c.in-Split.advice) in
    let w = pairs_of c.in-Split.weights.items in
    let split : places.Pending = record { branch = x.branch; weights = w; waits = x.waits } in
    let is = ap (λ (fs : List (ℕ × code.Side)). split_up p (parts_of p) t.nodes a (sides_as fs) split s) c.deref.ensures.value
    ∙ taken_splits p (parts_of p) t.nodes x w (sides_as c.in-Split.fixings.items) a s
    ∙ ap (λ (o : Outcome). taken p (parts_of p) t.nodes x (outcome_of o) s) (sym c.in-Split.is) in
    on_ok_weaker c.split_up.result (λ last. taken_as t front c.split_up.new.front _ _ is last) c.split_up.ensures
