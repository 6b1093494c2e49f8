use Rattle.std.proofs.Common.{◌≡◌, ℕ, List, Some, ap, sym, subst, ◌∙◌}
use Rattle.std.proofs.lemmas.Result.{IfOk-weaker}
use Rattle.hub_spec.specs.Plans.{IsHubSet}
use Rattle.hub_spec.specs.Trees.{Tree}
use Rattle.hub_model.specs.Lines.{tree_line_of}
use Rattle.search_spec.specs.States.{number_in_pool}
use Rattle.search_steps.specs.Advising.{parts_of}
use Rattle.search_steps.specs.Pools.{state_by, InEachState, InEachStateAt}
use Rattle.search_steps.proofs.ToldChoices.{told_end, told_no_end, told_alone, told_none_alone}
use Rattle.search_spec.specs.Places.{ends}
use Rattle.search_spec.specs.Turns.{turn, turn_alone, turn_advised}
use Rattle.node_rounds.specs.declared.outcomes.Outcome.{Outcome}
use Rattle.node_rounds.specs.Outcomes.{pending_of, outcome_of}
use Rattle.node_rounds.proofs.TurnCases.{end_tree, end_is_one, turn_barren, turn_blocked, turn_only, turn_open}
use Rattle.search_steps.proofs.ToldChoices.{goes_on, alone_is_set}
use Rattle.node_rounds.proofs.turning.turn.Goals as goal

pub returns-in-Some-clause-turn : goal.returns-in-Some-clause-turn
returns-in-Some-clause-turn c = λ hubs made stop.
    let p = c.args.instance.now in
    let x = pending_of c.args.node.now in
    let has = told_end ((parts_of p).barren x.branch) c.end.result c.in-Some.line (c.end.ensures p c.requires.plain) c.in-Some.is in
    ap (λ (t : Tree). ends t) (end_tree ((parts_of p).barren x.branch) (tree_line_of c.in-Some.line) has)
    ∙ turn_barren p (parts_of p) (state_by p c.args.pool.now.entries hubs c.args.cost made stop) x has.tree has.is

pub returns-in-Some-clause-sound : goal.returns-in-Some-clause-sound
returns-in-Some-clause-sound c =
    let p = c.args.instance.now in
    let end = (parts_of p).barren c.args.node.now.branch in
    end_is_one end (tree_line_of c.in-Some.line) (told_end end c.end.result c.in-Some.line (c.end.ensures p c.requires.plain) c.in-Some.is)

pub returns-in-Some-2-clause-turn : goal.returns-in-Some-2-clause-turn
returns-in-Some-2-clause-turn c = λ hubs made stop.
    let p = c.args.instance.now in
    let x = pending_of c.args.node.now in
    let barren = told_no_end ((parts_of p).barren x.branch) c.end.result (c.end.ensures p c.requires.plain) c.in_default.is in
    let has = told_end ((parts_of p).blocked x.branch) c.in_ok-line.field-0 c.in-Some-2.line c.in_ok-line.ensures c.in-Some-2.is in
    ap (λ (t : Tree). ends t) (end_tree ((parts_of p).blocked x.branch) (tree_line_of c.in-Some-2.line) has)
    ∙ turn_blocked p (parts_of p) (state_by p c.args.pool.now.entries hubs c.args.cost made stop) x has.tree barren has.is

pub returns-in-Some-2-clause-sound : goal.returns-in-Some-2-clause-sound
returns-in-Some-2-clause-sound c =
    let end = (parts_of c.args.instance.now).blocked c.args.node.now.branch in
    end_is_one end (tree_line_of c.in-Some-2.line) (told_end end c.in_ok-line.field-0 c.in-Some-2.line c.in_ok-line.ensures c.in-Some-2.is)

pub turn_alone-requires-clause-set : goal.turn_alone-requires-clause-set
turn_alone-requires-clause-set c =
    let p = c.args.instance.now in
    let b = c.args.node.now.branch in
    let barren = told_no_end ((parts_of p).barren b) c.end.result (c.end.ensures p c.requires.plain) c.in_default.is in
    let blocked = told_no_end ((parts_of p).blocked b) c.in_ok-line.field-0 c.in_ok-line.ensures c.in_default-2.is in
    let only = told_alone ((parts_of p).only b) c.in_ok-hubs.field-0 c.in-Some-3.hubs c.in_ok-hubs.ensures c.in-Some-3.is in
    subst (IsHubSet p) (sym c.deref.ensures.value)
    (alone_is_set p b c.in-Some-3.hubs.items c.requires.problem c.requires.node.branch barren blocked only)

pub returns-in-Some-3-clause-turn : goal.returns-in-Some-3-clause-turn
returns-in-Some-3-clause-turn c =
    let p = c.args.instance.now in
    let x = pending_of c.args.node.now in
    let b = x.branch in
    let entries = c.args.pool.now.entries in
    let set = c.deref.result.now in
    let barren = told_no_end ((parts_of p).barren b) c.end.result (c.end.ensures p c.requires.plain) c.in_default.is in
    let blocked = told_no_end ((parts_of p).blocked b) c.in_ok-line.field-0 c.in_ok-line.ensures c.in_default-2.is in
    let only = told_alone ((parts_of p).only b) c.in_ok-hubs.field-0 c.in-Some-3.hubs c.in_ok-hubs.ensures c.in-Some-3.is
    ∙ ap (λ (ks : List ℕ). Some ks) (sym c.deref.ensures.value) in
    IfOk-weaker c.turn_alone.result
    (λ (o : Outcome). InEachState p entries (λ s. outcome_of o ≡ turn_alone (parts_of p) x set (number_in_pool s set)))
    (λ (o : Outcome). InEachStateAt p entries c.args.cost (λ s. outcome_of o ≡ turn p (parts_of p) s x))
    (λ o is. λ hubs made stop. is hubs c.args.cost made stop
    ∙ turn_only p (parts_of p) (state_by p entries hubs c.args.cost made stop) x set barren blocked only)
    c.turn_alone.ensures.turn

pub returns-clause-turn : goal.returns-clause-turn
returns-clause-turn c =
    let p = c.args.instance.now in
    let x = pending_of c.args.node.now in
    let b = x.branch in
    let entries = c.args.pool.now.entries in
    let barren = told_no_end ((parts_of p).barren b) c.end.result (c.end.ensures p c.requires.plain) c.in_default.is in
    let blocked = told_no_end ((parts_of p).blocked b) c.in_ok-line.field-0 c.in_ok-line.ensures c.in_default-2.is in
    let only = told_none_alone ((parts_of p).only b) c.in_ok-hubs.field-0 c.in_ok-hubs.ensures c.in_default-3.is in
    IfOk-weaker c.turn_advised.result
    (λ (o : Outcome). InEachStateAt p entries c.args.cost (λ s. outcome_of o ≡ turn_advised p (parts_of p) s x))
    (λ (o : Outcome). InEachStateAt p entries c.args.cost (λ s. outcome_of o ≡ turn p (parts_of p) s x))
    (λ o is. λ hubs made stop. is hubs made stop
    ∙ turn_open p (parts_of p) (state_by p entries hubs c.args.cost made stop) x (goes_on p b barren blocked only))
    c.turn_advised.ensures.turn
