use Rattle.std.proofs.Common.{◌≡◌, ℕ, nat_eq, false, length, is_some, [], ap, refl, sym, subst, ◌∙◌, rules, arith}
use Rattle.std.proofs.lemmas.List.Elements.{All-weaker}
use Rattle.search_steps.specs.Progressing.{state_of}
use Rattle.search_spec.specs.Turns.{goes_on}
use Rattle.node_rounds.specs.Outcomes.{IsPendingOf}
use Rattle.node_rounds.specs.Left.{standing_of}
use Rattle.node_rounds.proofs.Added.{pending_kept}
use Rattle.node_rounds.proofs.Lefts.{no_items, some_items}
use Rattle.node_rounds.proofs.Searched.{goes_on_when, over_when, stopped_when, standing_first, searching_first, searching_next, searching_fewer, searching_over, ended_state, ended_lines}
use Rattle.node_rounds.specs.Searchers.{IsTurnerAt}
use Rattle.node_rounds.proofs.searching.all_rounds.Goals.{then-loop-front-test+else-is_none, else-loop-front-test}
use Rattle.node_rounds.proofs.searching.all_rounds.Goals as goal

pub loop-front-init : goal.loop-front-init
loop-front-init g c =
    let p = c.args.task.now.instance.now in
    let entries = c.args.progress.pool.entries in
    let left = c.in_ok-left.left in (
      searching_first c.args.task.now (record { progress = c.args.progress; places = c.new.result }) left c.requires.start c.requires.going c.requires.no_line
          c.in_ok-left.ensures.root
          (All-weaker (IsPendingOf p []) (IsPendingOf p entries) (λ x is. pending_kept p [] entries x (record { more = entries; is = refl }) is) left.nodes.items
          c.in_ok-left.ensures.nodes)
          c.in_ok-left.ensures.matched c.new.ensures.items,
      c.requires.ready,
      subst (IsTurnerAt c.args.turner.now c.args.task.now) (sym (standing_first p c.args.progress left c.requires.no_line c.in_ok-left.ensures.root))
          c.requires.turner,
    )

pub loop-front-smaller : goal.loop-front-smaller
loop-front-smaller g c =
    let p = c.args.task.now.instance.now in
    let front = c.loop-front.front in
    let left = c.loop-front.left in
    let is = c.loop-front.invariant.0 in
    let long : left.nodes.len ≡ length left.nodes.items = omega (arith, left.nodes.ok.0) in
    let some = some_items left.nodes.items c.is_empty.result (c.is_empty.ensures ∙ ap (λ (n : ℕ). nat_eq n 0) long) (search rules) in
    let going : is_some front.progress.stop ≡ false = search rules in
    searching_fewer c.args.task.now c.args.progress front c.one_round.new.front left c.one_round.new.left is
    (goes_on_when p front.progress left is.is_left.matched some going) c.in_ok-one_round.ensures.round

pub loop-front-preserved : goal.loop-front-preserved
loop-front-preserved g c =
    let p = c.args.task.now.instance.now in
    let front = c.loop-front.front in
    let left = c.loop-front.left in
    let is = c.loop-front.invariant.0 in
    let long : left.nodes.len ≡ length left.nodes.items = omega (arith, left.nodes.ok.0) in
    let some = some_items left.nodes.items c.is_empty.result (c.is_empty.ensures ∙ ap (λ (n : ℕ). nat_eq n 0) long) (search rules) in
    let going : is_some front.progress.stop ≡ false = search rules in (
      searching_next c.args.task.now c.args.progress front c.one_round.new.front left c.one_round.new.left is
          (goes_on_when p front.progress left is.is_left.matched some going) c.in_ok-one_round.ensures.round c.in_ok-one_round.ensures.left
          c.in_ok-one_round.ensures.no_place,
      c.in_ok-one_round.ensures.ready,
      c.in_ok-one_round.ensures.turner,
    )

pub returns-clause-state : goal.returns-clause-state
returns-clause-state g c =
    let t = c.args.task.now in
    let p = t.instance.now in
    let front = c.loop-front.front in
    let left = c.loop-front.left in
    let is = c.loop-front.invariant.0 in
    let over : goes_on (standing_of p front.progress left) ≡ false = elim c.loop-front-test.branch [
      | then-loop-front-test+else-is_none w ↦ stopped_when p front.progress left (search rules)
      | else-loop-front-test w ↦ over_when p front.progress left (no_items left.nodes.items (search (rules, arith))) is.is_left.matched
    ] in
    c.in_ok-close_up.ensures.state
    ∙ ended_state p t.nodes (state_of p c.args.progress) (standing_of p front.progress left) (searching_over t c.args.progress front left is over)

pub returns-clause-lines : goal.returns-clause-lines
returns-clause-lines g c =
    let t = c.args.task.now in
    let p = t.instance.now in
    let front = c.loop-front.front in
    let left = c.loop-front.left in
    let is = c.loop-front.invariant.0 in
    let over : goes_on (standing_of p front.progress left) ≡ false = elim c.loop-front-test.branch [
      | then-loop-front-test+else-is_none w ↦ stopped_when p front.progress left (search rules)
      | else-loop-front-test w ↦ over_when p front.progress left (no_items left.nodes.items (search (rules, arith))) is.is_left.matched
    ] in
    c.in_ok-close_up.ensures.lines
    ∙ ended_lines p t.nodes (state_of p c.args.progress) (standing_of p front.progress left) c.requires.going.problem c.requires.start
    (searching_over t c.args.progress front left is over)
