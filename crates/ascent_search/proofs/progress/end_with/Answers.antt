use Rattle.std.proofs.Common.{refl}
use Rattle.ascent_search.proofs.Steps.{line_done, line_last}
use Rattle.ascent_search.proofs.progress.end_with.Goals as goal

pub returns-clause-done : goal.returns-clause-done
returns-clause-done c =
    let added = c.in_ok-add_line.ensures in
    line_done c.args.task.now c.args.branch.now c.args.progress.now _ c.args.line c.requires.going c.requires.end c.requires.sound c.requires.in_range
    c.requires.first added.few
    (record { cuts = refl; lines = added.added; hubs = refl; cost = refl; made = refl; stopped = refl; left = refl })

pub returns-clause-last : goal.returns-clause-last
returns-clause-last c =
    line_last c.args.task.now c.args.branch.now c.args.progress.now (record c.args.progress.now { lines = c.add_line.new.lines }) c.args.line c.args.progress.now.made
    (record { cuts = refl; lines = c.in_ok-add_line.ensures.added; hubs = refl; cost = refl; made = refl; stopped = refl; left = refl })
