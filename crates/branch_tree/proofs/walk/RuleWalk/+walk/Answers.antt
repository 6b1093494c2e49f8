use Rattle.std.proofs.Common.{◌≡◌, ◌+◌, ◌-◌, ℕ, List, ◌∷◌, length, Some, ap, sym, subst, ◌∙◌, rules, arith}
use Rattle.std.proofs.lemmas.Result.{on_ok_weaker}
use Rattle.hub_spec.specs.Trees.{Branching, IsBranch, HasRoom, branch_on, leaf}
use Rattle.hub_spec.proofs.ChildLists.{open_branch, closed_branch}
use Rattle.hub_model.specs.Lines.{tree_line_of}
use Rattle.leaf_bound.specs.declared.sides.Side as code
use Rattle.frac_master.specs.Advice.{advice_of_code}
use Rattle.search_spec.specs.States.{State, denominator}
use Rattle.search_spec.specs.Steps as steps
use Rattle.search_spec.specs.Steps.{may_split, two_more, stays_open, stays_closed, child_on, fixings, stopped_leaf, full_on, fixed, after_rounds}
use Rattle.search_spec.specs.Laws.{GoesOn}
use Rattle.search_spec.proofs.StepCases.{after_closed, after_open}
use Rattle.search_spec.proofs.Parting.{length-without}
use Rattle.search_steps.specs.Advising.{told_by, parts_of}
use Rattle.search_steps.specs.Kinds.{parts_for}
use Rattle.search_steps.specs.Weights.{pairs_of, side_as, sides_as, AreNodeWeights}
use Rattle.search_steps.proofs.GivenPools.{weights_stay, grown_twice}
use Rattle.search_steps.proofs.RuleChoices.{room_when}
use Rattle.search_core.specs.declared.tasks.Task.{Task}
use Rattle.branch_tree.specs.Lines.{handling}
use Rattle.search_steps.specs.Progressing.{state_of}
use Rattle.branch_tree.specs.Rounding.{round_as}
use Rattle.search_steps.specs.FixingsLeft.{AreOnFree}
use Rattle.branch_tree.proofs.AddedLines.{line_done, line_going, line_kept, done_as, done_by, going_as, branch_as, room_as}
use Rattle.search_steps.proofs.ToldChoices.{told_end, told_no_end, told_alone, told_none_alone}
use Rattle.search_steps.proofs.ToldChoices.{goes_on, alone_is_set}
use Rattle.branch_tree.proofs.NodeCases.{some_free, child_room, node_ended, node_stopped, node_blocked, node_full, node_explored, fixed_alone, fixed_stopped, fixed_halved, fixed_next, halved_both}
use Rattle.branch_tree.proofs.WalkSteps.{begun_state, both_done, open_done, closed_done, later_done}
use Rattle.search_steps.proofs.LeftFixings.{first_of, others_of, sides_split, none_left, fixings_on_free, on_free_in_child}
use Rattle.branch_tree.proofs.walk.RuleWalk.+walk.Goals as goal

-- ---- fixed

pub fixed-end_branch-requires-clause-alone : goal.fixed-end_branch-requires-clause-alone
fixed-end_branch-requires-clause-alone g t c =
    let p = c.args.self.now.task.now.instance.now in
    let b = c.args.branch.now in
    told_alone ((parts_of p).only b) c.in_ok-hubs.field-0 c.in-Some.hubs c.in_ok-hubs.ensures c.in-Some.is
    ∙ ap (λ (ks : List ℕ). Some ks) (sym c.deref.ensures.value)

pub fixed-returns-in-Some-clause-done : goal.fixed-returns-in-Some-clause-done
fixed-returns-in-Some-clause-done g t c =
    let task = c.args.self.now.task.now in
    let kind = g.S.Separator.kind in
    let p = task.instance.now in
    let before = c.args.self.now.progress in
    let b = c.args.branch.now in
    let alone = told_alone ((parts_of p).only b) c.in_ok-hubs.field-0 c.in-Some.hubs c.in_ok-hubs.ensures c.in-Some.is
    ∙ ap (λ (ks : List ℕ). Some ks) (sym c.deref.ensures.value) in
    let is = fixed_alone kind task (handling kind task c.args.depth) (told_by (advice_of_code c.args.round.now.advice)) (sides_as c.args.fixings.now) b
    (pairs_of c.args.round.now.weights.items) (state_of p before) c.deref.result.now alone in
    on_ok_weaker c.end_branch.result (λ done. done_as task before c.end_branch.new.self.progress _ _ is done) c.end_branch.ensures.ended

pub fixed-returns-then-not-may_split-clause-done : goal.fixed-returns-then-not-may_split-clause-done
fixed-returns-then-not-may_split-clause-done g t c =
    let task = c.args.self.now.task.now in
    let kind = g.S.Separator.kind in
    let p = task.instance.now in
    let before = c.args.self.now.progress in
    let b = c.args.branch.now in
    let s = state_of p before in
    let only = told_none_alone ((parts_of p).only b) c.in_ok-hubs.field-0 c.in_ok-hubs.ensures c.in_default.is in
    let is = ap (λ (ws : List ℕ). stopped_leaf p b (pairs_of ws) s) c.deref-then-not-may_split.ensures.value
    ∙ fixed_stopped kind task (handling kind task c.args.depth) (told_by (advice_of_code c.args.round.now.advice)) (sides_as c.args.fixings.now) b
    (pairs_of c.args.round.now.weights.items) s only (sym c.may_split.ensures ∙ c.if-not-may_split.true) in
    on_ok_weaker c.stopped_leaf.result (λ done. done_as task before c.stopped_leaf.new.self.progress _ _ is done) c.stopped_leaf.ensures.stopped

pub fixed-halved-requires : goal.fixed-halved-requires
fixed-halved-requires g t c κs within =
    let p = c.args.self.now.task.now.instance.now in
    let b = c.args.branch.now in
    let only = told_none_alone ((parts_of p).only b) c.in_ok-hubs.field-0 c.in_ok-hubs.ensures c.in_default.is in (
      search (rules, arith),
      (
        within.0,
        (
          within.1,
          (
            c.requires.ready,
            (
              c.requires.serves,
              (
                c.requires.going,
                (
                  c.requires.branch,
                  (
                    some_free p b c.requires.going.problem c.requires.branch c.requires.room only,
                    (
                      c.requires.weights,
                      c.requires.deep,
                    ),
                  ),
                ),
              ),
            ),
          ),
        ),
      ),
    )

pub fixed-returns-in-empty-clause-done : goal.fixed-returns-in-empty-clause-done
fixed-returns-in-empty-clause-done g t c =
    let task = c.args.self.now.task.now in
    let kind = g.S.Separator.kind in
    let p = task.instance.now in
    let before = c.args.self.now.progress in
    let b = c.args.branch.now in
    let only = told_none_alone ((parts_of p).only b) c.in_ok-hubs.field-0 c.in_ok-hubs.ensures c.in_default.is in
    let is = fixed_halved kind task (handling kind task c.args.depth) (told_by (advice_of_code c.args.round.now.advice)) (sides_as c.args.fixings.now) b
    (pairs_of c.args.round.now.weights.items) (state_of p before) only (sym c.may_split.ensures ∙ c.if-not-may_split.false)
    (none_left c.args.fixings.now c.in-empty.len_below) in
    on_ok_weaker c.halved.result (λ done. done_as task before c.halved.new.self.progress _ _ is done) c.halved.ensures.done

pub fixed-fixed-requires : goal.fixed-fixed-requires
fixed-fixed-requires g t c κs within =
    let task = c.args.self.now.task.now in
    let p = task.instance.now in
    let before = c.args.self.now.progress in
    let begun = c.split_on.new.progress in
    let b = c.args.branch.now in
    let only = told_none_alone ((parts_of p).only b) c.in_ok-hubs.field-0 c.in_ok-hubs.ensures c.in_default.is in
    let first = first_of c.args.fixings.now in
    let k = first.0 in
    let all = sides_split c.args.fixings.now c.in-len1-up.len_at_least in
    let free = subst (AreOnFree b) all c.requires.free in
    let child = c.in_ok-child-in-In.ensures in
    let fewer : length c.in_ok-child-in-In.child.free + 1 ≡ length b.free =
    ap (λ (x : Branching). length x.free + 1) child ∙ length-without k b.free free.0 in (
      search (rules, arith),
      (
        within.0,
        (
          within.1,
          (
            c.requires.ready,
            (
              c.requires.serves,
              (
                line_going task before begun (branch_on k) (before.made + 2) before.stop c.requires.going c.in_ok-split_on.ensures.line c.in_ok-split_on.ensures.few,
                (
                  subst (IsBranch p) (sym child) (open_branch p b k c.requires.branch free.0),
                  (
                    subst (λ (x : Branching). HasRoom p.wanted x) (sym child)
                        (child_room p stays_open b k c.requires.going.problem c.requires.branch c.requires.room only free.0),
                    (
                      weights_stay before.pool.entries begun.pool.entries c.args.round.now.weights.items
                          (line_kept before begun (branch_on k) (before.made + 2) before.stop c.in_ok-split_on.ensures.line) c.requires.weights,
                      (
                        subst (λ (x : Branching). AreOnFree x (sides_as (others_of c.args.fixings.now))) (sym child)
                            (on_free_in_child stays_open b k (sides_as (others_of c.args.fixings.now)) free.1 free.2),
                        omega (arith, fewer, c.requires.deep),
                      ),
                    ),
                  ),
                ),
              ),
            ),
          ),
        ),
      ),
    )

pub fixed-add_leaf-requires-in-Out-clause-going : goal.fixed-add_leaf-requires-in-Out-clause-going
fixed-add_leaf-requires-in-Out-clause-going g t c =
    let before = c.args.self.now.progress in
    let k = (first_of c.args.fixings.now).0 in
    line_going c.args.self.now.task.now before c.split_on.new.progress (branch_on k) (before.made + 2) before.stop c.requires.going c.in_ok-split_on.ensures.line c.in_ok-split_on.ensures.few

pub fixed-fixed-requires-in-Out : goal.fixed-fixed-requires-in-Out
fixed-fixed-requires-in-Out g t c κs within =
    let task = c.args.self.now.task.now in
    let p = task.instance.now in
    let before = c.args.self.now.progress in
    let begun = c.split_on.new.progress in
    let middle = c.add_leaf-in-Out.new.self.progress in
    let b = c.args.branch.now in
    let only = told_none_alone ((parts_of p).only b) c.in_ok-hubs.field-0 c.in_ok-hubs.ensures c.in_default.is in
    let first = first_of c.args.fixings.now in
    let k = first.0 in
    let all = sides_split c.args.fixings.now c.in-len1-up.len_at_least in
    let free = subst (AreOnFree b) all c.requires.free in
    let child = c.in_ok-child-in-Out.ensures in
    let leaf_added = c.in_ok-add_leaf-in-Out.ensures.added in
    let same = c.in_ok-add_leaf-in-Out.ensures.same in
    let fewer : length c.in_ok-child-in-Out.child.free + 1 ≡ length b.free =
    ap (λ (x : Branching). length x.free + 1) child ∙ length-without k b.free free.0 in
    let kept = line_kept before begun (branch_on k) (before.made + 2) before.stop c.in_ok-split_on.ensures.line in (
      search (rules, arith),
      (
        within.0,
        (
          within.1,
          (
            c.requires.ready,
            (
              c.in_ok-add_leaf-in-Out.ensures.serves,
              (
                going_as task c.add_leaf-in-Out.new.self.task.now middle same leaf_added.going,
                (
                  branch_as task c.add_leaf-in-Out.new.self.task.now c.in_ok-child-in-Out.child same
                      (subst (IsBranch p) (sym child) (closed_branch p b k c.requires.branch free.0)),
                  (
                    room_as task c.add_leaf-in-Out.new.self.task.now c.in_ok-child-in-Out.child same
                        (subst (λ (x : Branching). HasRoom p.wanted x) (sym child)
                        (child_room p stays_closed b k c.requires.going.problem c.requires.branch c.requires.room only free.0)),
                    (
                      weights_stay before.pool.entries middle.pool.entries c.args.round.now.weights.items
                          (grown_twice before.pool.entries begun.pool.entries middle.pool.entries kept leaf_added.kept) c.requires.weights,
                      (
                        subst (λ (x : Branching). AreOnFree x (sides_as (others_of c.args.fixings.now))) (sym child)
                            (on_free_in_child stays_closed b k (sides_as (others_of c.args.fixings.now)) free.1 free.2),
                        omega (arith, fewer, c.requires.deep),
                      ),
                    ),
                  ),
                ),
              ),
            ),
          ),
        ),
      ),
    )

pub fixed-returns-in_ok-fixed-in-In-clause-done : goal.fixed-returns-in_ok-fixed-in-In-clause-done
fixed-returns-in_ok-fixed-in-In-clause-done g t c =
    let task = c.args.self.now.task.now in
    let kind = g.S.Separator.kind in
    let p = task.instance.now in
    let before = c.args.self.now.progress in
    let begun = c.split_on.new.progress in
    let middle = c.fixed.new.self.progress in
    let after = c.add_leaf.new.self.progress in
    let go = handling kind task c.args.depth in
    let a = told_by (advice_of_code c.args.round.now.advice) in
    let w = pairs_of c.args.round.now.weights.items in
    let b = c.args.branch.now in
    let s = state_of p before in
    let first = first_of c.args.fixings.now in
    let rest = sides_as (others_of c.args.fixings.now) in
    let k = first.0 in
    let all = sides_split c.args.fixings.now c.in-len1-up.len_at_least in
    let only = told_none_alone ((parts_of p).only b) c.in_ok-hubs.field-0 c.in_ok-hubs.ensures c.in_default.is in
    let on_side = all ∙ ap (λ (x : code.Side). (k, side_as x) ∷ rest) c.in-In.is in
    let kept = fixed p (parts_for kind p) task.nodes go a rest c.in_ok-child-in-In.child w (state_of p begun) in
    let next = begun_state p before begun k c.in_ok-split_on.ensures.line in
    let is = fixed_next kind task go a (k, stays_open) rest (sides_as c.args.fixings.now) b c.in_ok-child-in-In.child w s (state_of p begun)
    only on_side (sym c.may_split.ensures ∙ c.if-not-may_split.false) c.in_ok-child-in-In.ensures next in
    on_ok_weaker c.add_leaf.result
    (λ done. done_as task before after _ _ is
    (open_done task before begun middle after k (before.made + 2) before.stop w kept c.in_ok-split_on.ensures.line c.in_ok-fixed-in-In.ensures.done
    (done_as task middle after _ _
    (ap (λ (ws : List ℕ). record { state = state_of p middle; tree = leaf denominator (pairs_of ws) }) c.deref-in-In.ensures.value)
    (done_by task c.fixed.new.self.task.now middle after
    (λ x. record { state = state_of x.instance.now middle; tree = leaf denominator (pairs_of c.deref-in-In.result.now) })
    c.in_ok-fixed-in-In.ensures.same done))))
    c.add_leaf.ensures.added

pub fixed-returns-in_ok-add_leaf-in-Out-clause-done : goal.fixed-returns-in_ok-add_leaf-in-Out-clause-done
fixed-returns-in_ok-add_leaf-in-Out-clause-done g t c =
    let task = c.args.self.now.task.now in
    let kind = g.S.Separator.kind in
    let p = task.instance.now in
    let before = c.args.self.now.progress in
    let begun = c.split_on.new.progress in
    let middle = c.add_leaf-in-Out.new.self.progress in
    let after = c.fixed-in-Out.new.self.progress in
    let go = handling kind task c.args.depth in
    let a = told_by (advice_of_code c.args.round.now.advice) in
    let w = pairs_of c.args.round.now.weights.items in
    let b = c.args.branch.now in
    let s = state_of p before in
    let first = first_of c.args.fixings.now in
    let rest = sides_as (others_of c.args.fixings.now) in
    let k = first.0 in
    let all = sides_split c.args.fixings.now c.in-len1-up.len_at_least in
    let only = told_none_alone ((parts_of p).only b) c.in_ok-hubs.field-0 c.in_ok-hubs.ensures c.in_default.is in
    let on_side = all ∙ ap (λ (x : code.Side). (k, side_as x) ∷ rest) c.in-Out.is in
    let kept = fixed p (parts_for kind p) task.nodes go a rest c.in_ok-child-in-Out.child w (state_of p middle) in
    let leaf_added = done_as task begun middle _ _
    (ap (λ (ws : List ℕ). record { state = state_of p begun; tree = leaf denominator (pairs_of ws) }) c.deref-in-Out.ensures.value)
    c.in_ok-add_leaf-in-Out.ensures.added in
    let next = leaf_added.state ∙ begun_state p before begun k c.in_ok-split_on.ensures.line in
    let is = fixed_next kind task go a (k, stays_closed) rest (sides_as c.args.fixings.now) b c.in_ok-child-in-Out.child w s (state_of p middle)
    only on_side (sym c.may_split.ensures ∙ c.if-not-may_split.false) c.in_ok-child-in-Out.ensures next in
    on_ok_weaker c.fixed-in-Out.result
    (λ done. done_as task before after _ _ is
    (closed_done task before begun middle after k (before.made + 2) before.stop w kept c.in_ok-split_on.ensures.line leaf_added
    (done_by task c.add_leaf-in-Out.new.self.task.now middle after
    (λ x. fixed x.instance.now (parts_for kind x.instance.now) x.nodes (handling kind x c.args.depth) a rest c.in_ok-child-in-Out.child w (state_of x.instance.now middle))
    c.in_ok-add_leaf-in-Out.ensures.same done)))
    c.fixed-in-Out.ensures.done

-- ---- node

pub node-returns-in-Some-clause-done : goal.node-returns-in-Some-clause-done
node-returns-in-Some-clause-done g t c =
    let task = c.args.self.now.task.now in
    let kind = g.S.Separator.kind in
    let p = task.instance.now in
    let b = c.args.branch.now in
    let before = c.args.self.now.progress in
    let after = c.add_line.new.progress in
    let end = told_end ((parts_of p).barren b) c.end.result c.in-Some.line (c.end.ensures p c.requires.serves) c.in-Some.is in
    let is = node_ended kind task c.args.depth b (pairs_of c.args.weights.now) (state_of p before) end.tree (omega (arith, c.requires.deep)) end.is in
    on_ok_weaker c.add_line.result
    (λ has. done_as task before after _ _ is
    (line_done task before after end.tree (tree_line_of c.in-Some.line) before.made before.stop c.requires.going end.one c.requires.going.made has))
    c.add_line.ensures

pub node-stopped_leaf-requires-clause-room : goal.node-stopped_leaf-requires-clause-room
node-stopped_leaf-requires-clause-room g t c =
    let p = c.args.self.now.task.now.instance.now in
    let b = c.args.branch.now in
    room_when p b (told_no_end ((parts_of p).barren b) c.end.result (c.end.ensures p c.requires.serves) c.in_default.is)

pub node-returns-then-is_some-clause-done : goal.node-returns-then-is_some-clause-done
node-returns-then-is_some-clause-done g t c =
    let task = c.args.self.now.task.now in
    let kind = g.S.Separator.kind in
    let p = task.instance.now in
    let b = c.args.branch.now in
    let before = c.args.self.now.progress in
    let barren = told_no_end ((parts_of p).barren b) c.end.result (c.end.ensures p c.requires.serves) c.in_default.is in
    let is = node_stopped kind task c.args.depth b (pairs_of c.args.weights.now) (state_of p before)
    (omega (arith, c.requires.deep)) barren (sym c.is_some.ensures ∙ c.if-is_some.true) in
    on_ok_weaker c.stopped_leaf.result (λ done. done_as task before c.stopped_leaf.new.self.progress _ _ is done) c.stopped_leaf.ensures.stopped

pub node-blocked-requires-clause-no_end : goal.node-blocked-requires-clause-no_end
node-blocked-requires-clause-no_end g t c =
    let p = c.args.self.now.task.now.instance.now in
    told_no_end ((parts_of p).barren c.args.branch.now) c.end.result (c.end.ensures p c.requires.serves) c.in_default.is

pub node-returns-in-Some-2-clause-done : goal.node-returns-in-Some-2-clause-done
node-returns-in-Some-2-clause-done g t c =
    let task = c.args.self.now.task.now in
    let kind = g.S.Separator.kind in
    let p = task.instance.now in
    let b = c.args.branch.now in
    let before = c.args.self.now.progress in
    let after = c.add_line-in-Some-2.new.progress in
    let barren = told_no_end ((parts_of p).barren b) c.end.result (c.end.ensures p c.requires.serves) c.in_default.is in
    let end = told_end ((parts_of p).blocked b) c.in_ok-line.field-0 c.in-Some-2.line c.in_ok-line.ensures c.in-Some-2.is in
    let is = node_blocked kind task c.args.depth b (pairs_of c.args.weights.now) (state_of p before) end.tree (omega (arith, c.requires.deep)) barren
    (sym c.is_some.ensures ∙ c.if-is_some.false) end.is in
    on_ok_weaker c.add_line-in-Some-2.result
    (λ has. done_as task before after _ _ is
    (line_done task before after end.tree (tree_line_of c.in-Some-2.line) before.made before.stop c.requires.going end.one c.requires.going.made has))
    c.add_line-in-Some-2.ensures

pub node-full_leaf-requires-clause-set : goal.node-full_leaf-requires-clause-set
node-full_leaf-requires-clause-set g t c =
    let p = c.args.self.now.task.now.instance.now in
    let b = c.args.branch.now in
    let barren = told_no_end ((parts_of p).barren b) c.end.result (c.end.ensures p c.requires.serves) c.in_default.is in
    let alone = told_alone ((parts_of p).only b) c.in_ok-hubs.field-0 c.in-Some-3.hubs c.in_ok-hubs.ensures c.in-Some-3.is
    ∙ ap (λ (ks : List ℕ). Some ks) (sym c.deref.ensures.value) in
    alone_is_set p b c.deref.result.now c.requires.going.problem c.requires.branch barren
    (told_no_end ((parts_of p).blocked b) c.in_ok-line.field-0 c.in_ok-line.ensures c.in_default-2.is) alone

pub node-returns-in-Some-3-clause-done : goal.node-returns-in-Some-3-clause-done
node-returns-in-Some-3-clause-done g t c =
    let task = c.args.self.now.task.now in
    let kind = g.S.Separator.kind in
    let p = task.instance.now in
    let b = c.args.branch.now in
    let before = c.args.self.now.progress in
    let barren = told_no_end ((parts_of p).barren b) c.end.result (c.end.ensures p c.requires.serves) c.in_default.is in
    let alone = told_alone ((parts_of p).only b) c.in_ok-hubs.field-0 c.in-Some-3.hubs c.in_ok-hubs.ensures c.in-Some-3.is
    ∙ ap (λ (ks : List ℕ). Some ks) (sym c.deref.ensures.value) in
    let is = node_full kind task c.args.depth b (pairs_of c.args.weights.now) (state_of p before) c.deref.result.now (omega (arith, c.requires.deep)) barren
    (sym c.is_some.ensures ∙ c.if-is_some.false) (told_no_end ((parts_of p).blocked b) c.in_ok-line.field-0 c.in_ok-line.ensures c.in_default-2.is) alone in
    on_ok_weaker c.full_leaf.result (λ done. done_as task before c.full_leaf.new.self.progress _ _ is done) c.full_leaf.ensures.full

pub node-rounds-requires-clause-goes_on : goal.node-rounds-requires-clause-goes_on
node-rounds-requires-clause-goes_on g t c =
    let p = c.args.self.now.task.now.instance.now in
    let b = c.args.branch.now in
    goes_on p b (told_no_end ((parts_of p).barren b) c.end.result (c.end.ensures p c.requires.serves) c.in_default.is)
    (told_no_end ((parts_of p).blocked b) c.in_ok-line.field-0 c.in_ok-line.ensures c.in_default-2.is)
    (told_none_alone ((parts_of p).only b) c.in_ok-hubs.field-0 c.in_ok-hubs.ensures c.in_default-3.is)

pub node-returns-then-closes_cost-clause-done : goal.node-returns-then-closes_cost-clause-done
node-returns-then-closes_cost-clause-done g t c =
    let task = c.args.self.now.task.now in
    let kind = g.S.Separator.kind in
    let p = task.instance.now in
    let b = c.args.branch.now in
    let before = c.args.self.now.progress in
    let middle = c.rounds.new.self.progress in
    let after = c.add_leaf.new.self.progress in
    let s = state_of p before in
    let go = handling kind task (c.args.depth - 1) in
    let on = goes_on p b (told_no_end ((parts_of p).barren b) c.end.result (c.end.ensures p c.requires.serves) c.in_default.is)
    (told_no_end ((parts_of p).blocked b) c.in_ok-line.field-0 c.in_ok-line.ensures c.in_default-2.is)
    (told_none_alone ((parts_of p).only b) c.in_ok-hubs.field-0 c.in_ok-hubs.ensures c.in_default-3.is) in
    let left = c.in_ok-round.ensures.rounds in
    let r = round_as p middle c.in_ok-round.round in
    let same = c.in_ok-round.ensures.same in
    let closes = c.closes_cost.ensures
    ∙ ap (λ (x : Task). steps.closes_at x.instance.now (state_of x.instance.now middle) b (pairs_of c.deref-2.result.now)) same
    ∙ ap (λ (ws : List ℕ). steps.closes_at p (state_of p middle) b (pairs_of ws)) c.deref-2.ensures.value in
    let is = ap (λ (ws : List ℕ). record { state = state_of p middle; tree = leaf denominator (pairs_of ws) }) c.deref-then-closes_cost.ensures.value
    ∙ sym (after_closed p (parts_for kind p) task.nodes go b r (sym closes ∙ c.if-closes_cost.true))
    ∙ node_explored kind task c.args.depth b (pairs_of c.args.weights.now) s r (omega (arith, c.requires.deep)) on
    (sym c.is_some.ensures ∙ c.if-is_some.false) left.is in
    on_ok_weaker c.add_leaf.result
    (λ done. done_as task before after _ _ is (later_done task before middle after _ left.lines left.kept
    (done_by task c.rounds.new.self.task.now middle after
    (λ x. record { state = state_of x.instance.now middle; tree = leaf denominator (pairs_of c.deref-then-closes_cost.result.now) }) same done)))
    c.add_leaf.ensures.added

pub node-closes_cost-requires-clause-room : goal.node-closes_cost-requires-clause-room
node-closes_cost-requires-clause-room g t c =
    let p = c.args.self.now.task.now.instance.now in
    let b = c.args.branch.now in
    let barren = told_no_end ((parts_of p).barren b) c.end.result (c.end.ensures p c.requires.serves) c.in_default.is in
    room_as c.args.self.now.task.now c.rounds.new.self.task.now b c.in_ok-round.ensures.same (room_when p b barren)

pub node-fixings-requires-clause-goes_on : goal.node-fixings-requires-clause-goes_on
node-fixings-requires-clause-goes_on g t c =
    let p = c.args.self.now.task.now.instance.now in
    let b = c.args.branch.now in
    let on = goes_on p b (told_no_end ((parts_of p).barren b) c.end.result (c.end.ensures p c.requires.serves) c.in_default.is)
    (told_no_end ((parts_of p).blocked b) c.in_ok-line.field-0 c.in_ok-line.ensures c.in_default-2.is)
    (told_none_alone ((parts_of p).only b) c.in_ok-hubs.field-0 c.in_ok-hubs.ensures c.in_default-3.is) in
    subst (λ (x : Task). GoesOn (parts_of x.instance.now) b) (sym c.in_ok-round.ensures.same) on

pub node-fixed-requires : goal.node-fixed-requires
node-fixed-requires g t c κs within =
    let task = c.args.self.now.task.now in
    let barren = told_no_end ((parts_of task.instance.now).barren c.args.branch.now) c.end.result (c.end.ensures task.instance.now c.requires.serves)
    c.in_default.is in
    let p = c.rounds.new.self.task.now.instance.now in
    let b = c.args.branch.now in
    let middle = c.rounds.new.self.progress in
    let left = c.in_ok-round.ensures.rounds in
    let w = pairs_of c.in_ok-round.round.weights.items in
    let are = ap (λ (fs : List (ℕ × code.Side)). sides_as fs) c.deref-4.ensures.value ∙ c.in_ok-fixings.ensures
    ∙ ap (λ (ws : List ℕ). fixings p (state_of p middle) b (pairs_of ws)) c.deref-3.ensures.value in (
      search (rules, arith),
      (
        within.0,
        (
          within.1,
          (
            c.in_ok-round.ensures.ready,
            (
              c.in_ok-round.ensures.serves,
              (
                going_as task c.rounds.new.self.task.now middle c.in_ok-round.ensures.same left.going,
                (
                  branch_as task c.rounds.new.self.task.now b c.in_ok-round.ensures.same c.requires.branch,
                  (
                    room_as task c.rounds.new.self.task.now b c.in_ok-round.ensures.same (room_when task.instance.now b barren),
                    (
                      left.weights,
                      (
                        subst (AreOnFree b) (sym are) (fixings_on_free p (state_of p middle) b w c.requires.branch.free_ascends),
                        omega (arith, c.requires.deep),
                      ),
                    ),
                  ),
                ),
              ),
            ),
          ),
        ),
      ),
    )

pub node-returns-clause-done : goal.node-returns-clause-done
node-returns-clause-done g t c =
    let task = c.args.self.now.task.now in
    let kind = g.S.Separator.kind in
    let p = task.instance.now in
    let b = c.args.branch.now in
    let before = c.args.self.now.progress in
    let middle = c.rounds.new.self.progress in
    let after = c.fixed.new.self.progress in
    let s = state_of p before in
    let go = handling kind task (c.args.depth - 1) in
    let on = goes_on p b (told_no_end ((parts_of p).barren b) c.end.result (c.end.ensures p c.requires.serves) c.in_default.is)
    (told_no_end ((parts_of p).blocked b) c.in_ok-line.field-0 c.in_ok-line.ensures c.in_default-2.is)
    (told_none_alone ((parts_of p).only b) c.in_ok-hubs.field-0 c.in_ok-hubs.ensures c.in_default-3.is) in
    let left = c.in_ok-round.ensures.rounds in
    let r = round_as p middle c.in_ok-round.round in
    let same = c.in_ok-round.ensures.same in
    let are = ap (λ (fs : List (ℕ × code.Side)). sides_as fs) c.deref-4.ensures.value ∙ c.in_ok-fixings.ensures
    ∙ ap (λ (x : Task). fixings x.instance.now (state_of x.instance.now middle) b (pairs_of c.deref-3.result.now)) same
    ∙ ap (λ (ws : List ℕ). fixings p (state_of p middle) b (pairs_of ws)) c.deref-3.ensures.value in
    let closes = c.closes_cost.ensures
    ∙ ap (λ (x : Task). steps.closes_at x.instance.now (state_of x.instance.now middle) b (pairs_of c.deref-2.result.now)) same
    ∙ ap (λ (ws : List ℕ). steps.closes_at p (state_of p middle) b (pairs_of ws)) c.deref-2.ensures.value in
    let is = ap (λ (fs : List (ℕ × steps.Side)). fixed p (parts_for kind p) task.nodes go r.advice fs b r.weights r.state) are
    ∙ sym (after_open p (parts_for kind p) task.nodes go b r (sym closes ∙ c.if-closes_cost.false))
    ∙ node_explored kind task c.args.depth b (pairs_of c.args.weights.now) s r (omega (arith, c.requires.deep)) on
    (sym c.is_some.ensures ∙ c.if-is_some.false) left.is in
    on_ok_weaker c.fixed.result
    (λ done. done_as task before after _ _ is (later_done task before middle after _ left.lines left.kept
    (done_by task c.rounds.new.self.task.now middle after
    (λ x. fixed x.instance.now (parts_for kind x.instance.now) x.nodes (handling kind x (c.args.depth - 1)) r.advice (sides_as c.deref-4.result.now) b r.weights
    (state_of x.instance.now middle)) same done)))
    c.fixed.ensures.done

-- ---- halved

pub halved-node-requires : goal.halved-node-requires
halved-node-requires g t c κs within =
    let task = c.args.self.now.task.now in
    let p = task.instance.now in
    let before = c.args.self.now.progress in
    let begun = c.split_on.new.progress in
    let b = c.args.branch.now in
    let k = c.nearest-k.result in
    let free = c.nearest-k.ensures.free in
    let child = c.in_ok-opened.ensures in
    let fewer : length c.in_ok-opened.opened.free + 1 ≡ length b.free =
    ap (λ (x : Branching). length x.free + 1) child ∙ length-without k b.free free in (
      search (rules, arith),
      (
        within.0,
        (
          within.1,
          (
            c.requires.ready,
            (
              c.requires.serves,
              (
                line_going task before begun (branch_on k) (before.made + 2) before.stop c.requires.going c.in_ok-split_on.ensures.line c.in_ok-split_on.ensures.few,
                (
                  subst (IsBranch p) (sym child) (open_branch p b k c.requires.branch free),
                  (
                    subst (AreNodeWeights begun.pool.entries) (sym c.deref.ensures.value)
                        (weights_stay before.pool.entries begun.pool.entries c.args.round.now.weights.items
                        (line_kept before begun (branch_on k) (before.made + 2) before.stop c.in_ok-split_on.ensures.line) c.requires.weights),
                    omega (arith, fewer, c.requires.deep),
                  ),
                ),
              ),
            ),
          ),
        ),
      ),
    )

pub halved-node-requires-2 : goal.halved-node-requires-2
halved-node-requires-2 g t c κs within =
    let task = c.args.self.now.task.now in
    let p = task.instance.now in
    let before = c.args.self.now.progress in
    let begun = c.split_on.new.progress in
    let middle = c.node.new.self.progress in
    let b = c.args.branch.now in
    let k = c.nearest-k.result in
    let free = c.nearest-k.ensures.free in
    let child = c.in_ok-closed.ensures in
    let opened = c.in_ok-node.ensures.done in
    let same = c.in_ok-node.ensures.same in
    let kept = line_kept before begun (branch_on k) (before.made + 2) before.stop c.in_ok-split_on.ensures.line in
    let fewer : length c.in_ok-closed.closed.free + 1 ≡ length b.free =
    ap (λ (x : Branching). length x.free + 1) child ∙ length-without k b.free free in (
      search (rules, arith),
      (
        within.0,
        (
          within.1,
          (
            c.in_ok-node.ensures.ready,
            (
              c.in_ok-node.ensures.serves,
              (
                going_as task c.node.new.self.task.now middle same opened.going,
                (
                  branch_as task c.node.new.self.task.now c.in_ok-closed.closed same
                      (subst (IsBranch p) (sym child) (closed_branch p b k c.requires.branch free)),
                  (
                    subst (AreNodeWeights middle.pool.entries) (sym c.deref-2.ensures.value)
                        (weights_stay before.pool.entries middle.pool.entries c.args.round.now.weights.items
                        (grown_twice before.pool.entries begun.pool.entries middle.pool.entries kept opened.kept) c.requires.weights),
                    omega (arith, fewer, c.requires.deep),
                  ),
                ),
              ),
            ),
          ),
        ),
      ),
    )

pub halved-returns-clause-done : goal.halved-returns-clause-done
halved-returns-clause-done g t c =
    let task = c.args.self.now.task.now in
    let kind = g.S.Separator.kind in
    let p = task.instance.now in
    let before = c.args.self.now.progress in
    let begun = c.split_on.new.progress in
    let middle = c.node.new.self.progress in
    let after = c.node-2.new.self.progress in
    let go = handling kind task c.args.depth in
    let w = pairs_of c.args.round.now.weights.items in
    let b = c.args.branch.now in
    let first = c.in_ok-opened.opened in
    let second = c.in_ok-closed.closed in
    let s = state_of p before in
    let k = c.nearest-k.result in
    let next = begun_state p before begun k c.in_ok-split_on.ensures.line in
    let is = halved_both go b first second w s (state_of p begun) k _ c.nearest-k.ensures.nearest c.in_ok-opened.ensures c.in_ok-closed.ensures next in
    let opened = done_as task begun middle _ (go first w (state_of p begun))
    (ap (λ (ws : List ℕ). go first (pairs_of ws) (state_of p begun)) c.deref.ensures.value) c.in_ok-node.ensures.done in
    on_ok_weaker c.node-2.result
    (λ done. done_as task before after _ _ is
    (both_done task before begun middle after k (before.made + 2) before.stop (go first w (state_of p begun)) (go second w (go first w (state_of p begun)).state)
    c.in_ok-split_on.ensures.line opened
    (done_as task middle after _ _
    (ap (λ (ws : List ℕ). go second (pairs_of ws) (state_of p middle)) c.deref-2.ensures.value ∙ ap (λ (x : State). go second w x) opened.state)
    (done_by task c.node.new.self.task.now middle after
    (λ x. handling kind x c.args.depth second (pairs_of c.deref-2.result.now) (state_of x.instance.now middle)) c.in_ok-node.ensures.same done))))
    c.node-2.ensures.done
