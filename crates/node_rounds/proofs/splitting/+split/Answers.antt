use Rattle.std.proofs.Common.{◌≡◌, ℕ, List, ap, sym, subst, [], ◌∷◌, ◌++◌, ◌∙◌, rules, arith}
use Rattle.std.proofs.lemmas.Result.{on_ok_weaker}
use Rattle.hub_spec.specs.Trees.{IsBranch, Branching, branch_on, leaf_of}
use Rattle.hub_spec.proofs.ChildLists.{open_branch, closed_branch}
use Rattle.hub_model.specs.Lines.{tree_line_of}
use Rattle.leaf_bound.specs.declared.sides.Side as code
use Rattle.frac_master.specs.Advice.{advice_of_code}
use Rattle.search_spec.specs.States.{denominator}
use Rattle.search_spec.specs.Steps as steps
use Rattle.search_spec.specs.Steps.{two_more, stays_open, stays_closed}
use Rattle.search_steps.specs.Advising.{told_by, master_advising, parts_of}
use Rattle.search_steps.specs.Weights.{pairs_of, side_as, sides_as}
use Rattle.search_steps.proofs.LeafPairs.{weights_fit}
use Rattle.search_steps.proofs.GivenPools.{weights_stay, grown_twice}
use Rattle.search_steps.specs.Progressing.{state_of}
use Rattle.search_steps.specs.FixingsLeft.{AreOnFree}
use Rattle.search_spec.specs.Places.{line, Standing}
use Rattle.search_spec.specs.Turns.{split_up}
use Rattle.search_spec.proofs.RoundCases.{more_free, split_none, split_full}
use Rattle.node_rounds.specs.Outcomes.{pending_of}
use Rattle.node_rounds.proofs.Added.{taken_then, taken_as, on_child, split_open, split_closed}
use Rattle.search_steps.proofs.LeftFixings.{first_of, others_of, sides_split, none_left, on_free_in_child}
use Rattle.node_rounds.proofs.splitting.+split.Goals as goal

pub returns-in-empty : goal.returns-in-empty
returns-in-empty t c =
    let task = c.args.task.now in
    let p = task.instance.now in
    let front = c.args.front.now in
    let x = pending_of c.args.node in
    let a = told_by (advice_of_code c.args.advice.now) in
    let s = state_of p front.progress in
    let none = none_left c.args.fixings.now c.in-empty.len_below in
    let is = split_none p (parts_of p) task.nodes a x s
    ∙ ap (λ (fs : List (ℕ × steps.Side)). split_up p (parts_of p) task.nodes a fs x s) (sym none) in
    on_ok_weaker c.after_fixings.result (λ taken. taken_as task front c.after_fixings.new.front _ _ is taken) c.after_fixings.ensures

pub returns-then-not-may_split : goal.returns-then-not-may_split
returns-then-not-may_split t c =
    let task = c.args.task.now in
    let p = task.instance.now in
    let front = c.args.front.now in
    let x = pending_of c.args.node in
    let a = told_by (advice_of_code c.args.advice.now) in
    let s = state_of p front.progress in
    let first = first_of c.args.fixings.now in
    let all = sides_split c.args.fixings.now c.in-len1-up.len_at_least in
    let free = subst (AreOnFree x.branch) all c.requires.free in
    let more = more_free p (master_advising p) x.branch first.0 c.requires.plain free.0 in
    let is = split_full p (parts_of p) task.nodes a (first.0, side_as first.1) (sides_as (others_of c.args.fixings.now)) x s more
    (sym c.may_split.ensures ∙ c.if-not-may_split.true)
    ∙ ap (λ (fs : List (ℕ × steps.Side)). split_up p (parts_of p) task.nodes a fs x s) (sym all) in
    on_ok_weaker c.stop_at.result (λ taken. taken_as task front c.stop_at.new.front _ _ is taken) c.stop_at.ensures

pub leaf_line-requires : goal.leaf_line-requires
leaf_line-requires t c = weights_fit c.deref.result.now (search rules)

pub split_up-requires : goal.split_up-requires
split_up-requires t c =
    let p = c.args.task.now.instance.now in
    let before = c.args.front.now.progress.pool.entries in
    let mid = c.add_branch.new.front.progress.pool.entries in
    let node = c.args.node in
    let k = (first_of c.args.fixings.now).0 in
    let rest = sides_as (others_of c.args.fixings.now) in
    let all = sides_split c.args.fixings.now c.in-len1-up.len_at_least in
    let free = subst (AreOnFree node.branch) all c.requires.free in
    let child = c.in_ok-child-in-In.ensures in
    let added = c.in_ok-add_branch.ensures in (
      search (rules, arith),
      (
        c.requires.plain,
        (
          added.front,
          (
            record {
              branch = subst (IsBranch p) (sym child) (open_branch p node.branch k c.requires.node.branch free.0);
              weights = weights_stay before mid node.weights.items added.kept c.requires.node.weights;
            },
            subst (λ (b : Branching). AreOnFree b rest) (sym child) (on_free_in_child stays_open node.branch k rest free.1 free.2),
          ),
        ),
      ),
    )

pub returns-in-In : goal.returns-in-In
returns-in-In t c =
    let task = c.args.task.now in
    let p = task.instance.now in
    let front = c.args.front.now in
    let one = c.add_branch.new.front in
    let two = c.split_up.new.front in
    let three = c.add_line.new.front in
    let x = pending_of c.args.node in
    let a = told_by (advice_of_code c.args.advice.now) in
    let s = state_of p front.progress in
    let k = (first_of c.args.fixings.now).0 in
    let rest = sides_as (others_of c.args.fixings.now) in
    let all = sides_split c.args.fixings.now c.in-len1-up.len_at_least in
    let free = subst (AreOnFree x.branch) all c.requires.free in
    let more = more_free p (master_advising p) x.branch k c.requires.plain free.0 in
    let on_side = all ∙ ap (λ (y : code.Side). (k, side_as y) ∷ rest) c.in-In.is in
    let first = c.in_ok-add_branch.ensures in
    let second = c.in_ok-split_up-in-In.ensures in
    let leaf = tree_line_of c.in_ok-leaf.leaf in
    let is_leaf : leaf ≡ leaf_of denominator x.weights =
    c.in_ok-leaf.ensures ∙ ap (λ (ws : List ℕ). leaf_of denominator (pairs_of ws)) c.deref.ensures.value in
    let child = on_child x c.in_ok-child-in-In.child in
    let kept = split_up p (parts_of p) task.nodes a rest child (state_of p one.progress) in
    let from_one : Standing = record { state = two_more s; places = line (branch_on k) ∷ [] } in
    let from_two : Standing = record { state = kept.state; places = line (branch_on k) ∷ kept.places } in
    let from_three : Standing = record { state = state_of p two.progress; places = line leaf ∷ [] } in
    let total : Standing = record { state = state_of p two.progress; places = line (branch_on k) ∷ (kept.places ++ line leaf ∷ []) } in
    let same : total ≡ record { state = kept.state; places = total.places } = λ i. record { state = second.state i; places = total.places } in
    let is = same ∙ split_open p (parts_of p) task.nodes a x s (state_of p one.progress) k rest (sides_as c.args.fixings.now) child.branch leaf
    more (sym c.may_split.ensures ∙ c.if-not-may_split.false) first.state on_side c.in_ok-child-in-In.ensures is_leaf in
    on_ok_weaker c.add_line.result
    (λ last. taken_as task front three _ _ is
    (taken_then task front two three from_two from_three (taken_then task front one two from_one kept first second) last))
    c.add_line.ensures

pub split_up-requires-in-Out : goal.split_up-requires-in-Out
split_up-requires-in-Out t c =
    let p = c.args.task.now.instance.now in
    let before = c.args.front.now.progress.pool.entries in
    let mid = c.add_branch.new.front.progress.pool.entries in
    let after = c.add_line-in-Out.new.front.progress.pool.entries in
    let node = c.args.node in
    let k = (first_of c.args.fixings.now).0 in
    let rest = sides_as (others_of c.args.fixings.now) in
    let all = sides_split c.args.fixings.now c.in-len1-up.len_at_least in
    let free = subst (AreOnFree node.branch) all c.requires.free in
    let child = c.in_ok-child-in-Out.ensures in
    let added = c.in_ok-add_branch.ensures in
    let leaf = c.in_ok-add_line-in-Out.ensures in (
      search (rules, arith),
      (
        c.requires.plain,
        (
          leaf.front,
          (
            record {
              branch = subst (IsBranch p) (sym child) (closed_branch p node.branch k c.requires.node.branch free.0);
              weights = weights_stay before after node.weights.items (grown_twice before mid after added.kept leaf.kept) c.requires.node.weights;
            },
            subst (λ (b : Branching). AreOnFree b rest) (sym child) (on_free_in_child stays_closed node.branch k rest free.1 free.2),
          ),
        ),
      ),
    )

pub returns : goal.returns
returns t c =
    let task = c.args.task.now in
    let p = task.instance.now in
    let front = c.args.front.now in
    let one = c.add_branch.new.front in
    let two = c.add_line-in-Out.new.front in
    let three = c.split_up-in-Out.new.front in
    let x = pending_of c.args.node in
    let a = told_by (advice_of_code c.args.advice.now) in
    let s = state_of p front.progress in
    let k = (first_of c.args.fixings.now).0 in
    let rest = sides_as (others_of c.args.fixings.now) in
    let all = sides_split c.args.fixings.now c.in-len1-up.len_at_least in
    let free = subst (AreOnFree x.branch) all c.requires.free in
    let more = more_free p (master_advising p) x.branch k c.requires.plain free.0 in
    let on_side = all ∙ ap (λ (y : code.Side). (k, side_as y) ∷ rest) c.in-Out.is in
    let first = c.in_ok-add_branch.ensures in
    let second = c.in_ok-add_line-in-Out.ensures in
    let leaf = tree_line_of c.in_ok-leaf.leaf in
    let is_leaf : leaf ≡ leaf_of denominator x.weights =
    c.in_ok-leaf.ensures ∙ ap (λ (ws : List ℕ). leaf_of denominator (pairs_of ws)) c.deref.ensures.value in
    let child = on_child x c.in_ok-child-in-Out.child in
    let kept = split_up p (parts_of p) task.nodes a rest child (state_of p two.progress) in
    let from_one : Standing = record { state = two_more s; places = line (branch_on k) ∷ [] } in
    let from_leaf : Standing = record { state = state_of p one.progress; places = line leaf ∷ [] } in
    let from_two : Standing = record { state = state_of p one.progress; places = line (branch_on k) ∷ line leaf ∷ [] } in
    let is = split_closed p (parts_of p) task.nodes a x s (state_of p two.progress) k rest (sides_as c.args.fixings.now) child.branch leaf
    more (sym c.may_split.ensures ∙ c.if-not-may_split.false) (second.state ∙ first.state) on_side c.in_ok-child-in-Out.ensures is_leaf in
    on_ok_weaker c.split_up-in-Out.result
    (λ last. taken_as task front three _ _ is
    (taken_then task front two three from_two kept (taken_then task front one two from_one from_leaf first second) last))
    c.split_up-in-Out.ensures
