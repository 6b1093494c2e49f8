use Rattle.hub_model.specs.declared.tree_lines.TreeLine as model
use Rattle.search_spec.specs.Steps.{two_more}
use Rattle.search_steps.specs.Progressing.{state_of}
use Rattle.node_rounds.specs.declared.fronts.Place.TheVariants.{Line}
use Rattle.node_rounds.specs.declared.fronts.RoundState.{RoundState}
use Rattle.node_rounds.proofs.Added.{pushed_at, at_two_more}
use Rattle.node_rounds.proofs.fronts.add_branch.Goals as goal

pub returns : goal.returns
returns c =
    let t = c.args.task.now in
    let front = c.args.front.now in
    let after : RoundState = record { progress = c.two_more.new.progress; places = c.push.new.self } in
    let more = c.in_ok-two_more.ensures in
    pushed_at t front after (two_more (state_of t.instance.now front.progress)) (Line (model.TheVariants.BranchOn c.args.k)) c.requires.front
    (at_two_more t front.progress after.progress c.requires.front.going more.more more.few) c.in_ok-push.ensures.items tt
