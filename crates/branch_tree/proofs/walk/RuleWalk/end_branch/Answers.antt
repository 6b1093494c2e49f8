use Rattle.std.proofs.lemmas.Result.{on_ok_weaker}
use Rattle.hub_model.specs.Lines.{tree_line_of}
use Rattle.search_steps.specs.Advising.{parts_of}
use Rattle.search_steps.specs.Progressing.{state_of}
use Rattle.branch_tree.proofs.AddedLines.{line_done, done_as}
use Rattle.search_steps.proofs.ToldChoices.{told_end, told_no_end}
use Rattle.search_steps.proofs.ToldChoices.{alone_is_set}
use Rattle.branch_tree.proofs.NodeCases.{ended_line, ended_blocked, ended_full}
use Rattle.branch_tree.proofs.walk.RuleWalk.end_branch.Goals as goal

pub returns-in-Some-clause-ended : goal.returns-in-Some-clause-ended
returns-in-Some-clause-ended g c =
    let t = c.args.self.now.task.now in
    let p = t.instance.now in
    let before = c.args.self.now.progress in
    let b = c.args.branch.now in
    let end = told_end ((parts_of p).barren b) c.end.result c.in-Some.line (c.end.ensures p c.requires.serves) c.in-Some.is in
    on_ok_weaker c.add_line.result
    (λ has. done_as t before c.add_line.new.progress _ _ (ended_line g.S.Separator.kind p b (state_of p before) c.args.hubs.now end.tree end.is)
    (line_done t before c.add_line.new.progress end.tree (tree_line_of c.in-Some.line) before.made before.stop c.requires.going end.one c.requires.going.made has))
    c.add_line.ensures

pub blocked-requires-clause-no_end : goal.blocked-requires-clause-no_end
blocked-requires-clause-no_end g c =
    let p = c.args.self.now.task.now.instance.now in
    told_no_end ((parts_of p).barren c.args.branch.now) c.end.result (c.end.ensures p c.requires.serves) c.in_default.is

pub returns-in-Some-2-clause-ended : goal.returns-in-Some-2-clause-ended
returns-in-Some-2-clause-ended g c =
    let t = c.args.self.now.task.now in
    let p = t.instance.now in
    let before = c.args.self.now.progress in
    let b = c.args.branch.now in
    let barren = told_no_end ((parts_of p).barren b) c.end.result (c.end.ensures p c.requires.serves) c.in_default.is in
    let end = told_end ((parts_of p).blocked b) c.in_ok-line.field-0 c.in-Some-2.line c.in_ok-line.ensures c.in-Some-2.is in
    on_ok_weaker c.add_line-in-Some-2.result
    (λ has. done_as t before c.add_line-in-Some-2.new.progress _ _ (ended_blocked g.S.Separator.kind p b (state_of p before) c.args.hubs.now end.tree barren end.is)
    (line_done t before c.add_line-in-Some-2.new.progress end.tree (tree_line_of c.in-Some-2.line) before.made before.stop c.requires.going end.one c.requires.going.made has))
    c.add_line-in-Some-2.ensures

pub full_leaf-requires-clause-set : goal.full_leaf-requires-clause-set
full_leaf-requires-clause-set g c =
    let p = c.args.self.now.task.now.instance.now in
    let b = c.args.branch.now in
    let barren = told_no_end ((parts_of p).barren b) c.end.result (c.end.ensures p c.requires.serves) c.in_default.is in
    alone_is_set p b c.args.hubs.now c.requires.going.problem c.requires.branch barren
    (told_no_end ((parts_of p).blocked b) c.in_ok-line.field-0 c.in_ok-line.ensures c.in_default-2.is) c.requires.alone

pub returns-clause-ended : goal.returns-clause-ended
returns-clause-ended g c =
    let t = c.args.self.now.task.now in
    let p = t.instance.now in
    let before = c.args.self.now.progress in
    let b = c.args.branch.now in
    let barren = told_no_end ((parts_of p).barren b) c.end.result (c.end.ensures p c.requires.serves) c.in_default.is in
    let blocked = told_no_end ((parts_of p).blocked b) c.in_ok-line.field-0 c.in_ok-line.ensures c.in_default-2.is in
    on_ok_weaker c.full_leaf.result
    (λ done. done_as t before c.full_leaf.new.self.progress _ _ (ended_full g.S.Separator.kind p b (state_of p before) c.args.hubs.now barren blocked) done)
    c.full_leaf.ensures.full
