use Rattle.std.proofs.Common.{true, false, ◌∙◌}
use Rattle.std.proofs.lemmas.Result.{on_ok_weaker}
use Rattle.hub_model.specs.Lines.{tree_line_of}
use Rattle.frac_master.specs.Advice.{advice_of_code}
use Rattle.search_steps.specs.Advising.{told_by, parts_of}
use Rattle.search_steps.specs.Progressing.{state_of}
use Rattle.search_steps.proofs.ToldChoices.{told_end, told_no_end}
use Rattle.search_spec.proofs.RoundCases.{after_barren, after_alone, after_more}
use Rattle.node_rounds.specs.Outcomes.{pending_of}
use Rattle.node_rounds.proofs.Added.{taken_as, one_line, only_one, only_more, told_empty}
use Rattle.node_rounds.proofs.splitting.after_fixings.Goals as goal

pub returns-in-Some : goal.returns-in-Some
returns-in-Some c =
    let t = c.args.task.now in
    let p = t.instance.now in
    let front = c.args.front.now in
    let b = c.args.node.branch in
    let s = state_of p front.progress in
    let end = told_end ((parts_of p).barren b) c.end.result c.in-Some.line (c.end.ensures p c.requires.plain) c.in-Some.is in
    let is = one_line end.tree (tree_line_of c.in-Some.line) s end.one
    ∙ after_barren p (parts_of p) t.nodes (told_by (advice_of_code c.args.advice.now)) (pending_of c.args.node) s end.tree end.is in
    on_ok_weaker c.add_line.result (λ taken. taken_as t front c.add_line.new.front _ _ is taken) c.add_line.ensures

pub returns-then-is_empty : goal.returns-then-is_empty
returns-then-is_empty c =
    let t = c.args.task.now in
    let p = t.instance.now in
    let front = c.args.front.now in
    let b = c.args.node.branch in
    let barren = told_no_end ((parts_of p).barren b) c.end.result (c.end.ensures p c.requires.plain) c.in_default.is in
    let none = told_empty b.free c.free.result.now c.is_empty.result true c.free.ensures.value c.is_empty.ensures c.if-is_empty.true in
    let is = after_alone p (parts_of p) t.nodes (told_by (advice_of_code c.args.advice.now)) (pending_of c.args.node) (state_of p front.progress)
    barren (only_one p b c.requires.plain none) in
    on_ok_weaker c.add_node.result (λ taken. taken_as t front c.add_node.new.front _ _ is taken) c.add_node.ensures

pub returns : goal.returns
returns c =
    let t = c.args.task.now in
    let p = t.instance.now in
    let front = c.args.front.now in
    let b = c.args.node.branch in
    let barren = told_no_end ((parts_of p).barren b) c.end.result (c.end.ensures p c.requires.plain) c.in_default.is in
    let some = told_empty b.free c.free.result.now c.is_empty.result false c.free.ensures.value c.is_empty.ensures c.if-is_empty.false in
    let is = after_more p (parts_of p) t.nodes (told_by (advice_of_code c.args.advice.now)) (pending_of c.args.node) (state_of p front.progress)
    barren (only_more p b c.requires.plain some) in
    on_ok_weaker c.halved.result (λ taken. taken_as t front c.halved.new.front _ _ is taken) c.halved.ensures
