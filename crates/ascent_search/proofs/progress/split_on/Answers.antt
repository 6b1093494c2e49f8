use Rattle.std.proofs.Common.{refl}
use Rattle.std.proofs.lemmas.List.Elements.{All-contains}
use Rattle.std.specs.Prelude.{Contains}
use Rattle.hub_spec.proofs.Mixes.{candidate_is_node}
use Rattle.ascent_search.proofs.Steps.{line_halved}
use Rattle.ascent_search.proofs.progress.split_on.Goals as goal

pub returns : goal.returns
returns c =
    let p = c.args.task.now.instance.now in
    let b = c.args.branch.now in
    let k = c.args.k in
    let going = c.requires.going in
    line_halved c.args.task.now b k c.args.progress.now _ _ going refl c.requires.free
    (candidate_is_node p k going.problem (All-contains (Contains p.candidates) b.free k c.requires.branch.free_are c.requires.free))
    c.requires.allowed
    c.in_ok-add_line.ensures.few
    (record { cuts = refl; lines = c.in_ok-add_line.ensures.added; hubs = refl; cost = refl; made = refl; stopped = refl; left = refl })
