use Rattle.std.proofs.Common.{ℕ, List, ap, ◌∙◌}
use Rattle.hub_model.specs.Lines.{tree_line_of}
use Rattle.search_spec.specs.Steps.{stopped_leaf}
use Rattle.search_steps.specs.Weights.{pairs_of}
use Rattle.search_steps.specs.Progressing.{state_of}
use Rattle.search_spec.specs.Turns.{stops_at}
use Rattle.node_rounds.specs.declared.fronts.Place.TheVariants.{Line}
use Rattle.node_rounds.specs.declared.fronts.RoundState.{RoundState}
use Rattle.node_rounds.proofs.Added.{pushed_at, taken_as, any_room, one_line}
use Rattle.node_rounds.proofs.fronts.stop_at.Goals as goal

pub stopped_leaf-requires-clause-room : goal.stopped_leaf-requires-clause-room
stopped_leaf-requires-clause-room c = any_room c.args.task.now.instance.now c.args.node.now.branch c.requires.plain

pub returns : goal.returns
returns c =
    let t = c.args.task.now in
    let p = t.instance.now in
    let front = c.args.front.now in
    let after : RoundState = record { progress = c.stopped_leaf.new.progress; places = c.push.new.self } in
    let s = state_of p front.progress in
    let b = c.args.node.now.branch in
    let own = c.in_ok-line.line in
    let told = c.in_ok-line.ensures in
    let g = stopped_leaf p b (pairs_of c.deref.result.now) s in
    let is = one_line g.tree (tree_line_of own) g.state told.line ∙ ap (λ (ws : List ℕ). stops_at p b (pairs_of ws) s) c.deref.ensures.value in
    taken_as t front after _ _ is (pushed_at t front after g.state (Line own) c.requires.front told.at c.in_ok-push.ensures.items tt)
