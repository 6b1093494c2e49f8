use Rattle.std.proofs.Common.{◌≡◌, None, ◌+◌, length, ◌∷◌, [], ap, sym, ◌∙◌, rules, arith}
use Rattle.std.proofs.lemmas.Result.{on_ok_weaker}
use Rattle.hub_spec.specs.Trees.{leaf, TreeLine}
use Rattle.hub_model.specs.Lines.{tree_line_of}
use Rattle.search_spec.specs.States.{denominator, whole_on}
use Rattle.search_spec.specs.Steps.{separated}
use Rattle.search_steps.specs.Kinds.{parts_for}
use Rattle.search_steps.specs.Progressing.{state_of}
use Rattle.branch_tree.proofs.AddedLines.{line_done, line_at, done_as}
use Rattle.branch_tree.proofs.LeafSteps.{found_leaf, new_leaf, one_more}
use Rattle.branch_tree.proofs.walk.RuleWalk.full_leaf.Goals as goal

pub whole_leaf-requires-2 : goal.whole_leaf-requires-2
whole_leaf-requires-2 g c =
    let more = one_more g.S.Separator.kind c.args.self.now.task.now c.args.self.now.progress c.separate.new.self.progress c.in_ok-set.set c.in_ok-order.order.items c.in_ok-separate.ensures.at in
    omega (arith, more, c.len.ensures)

pub returns-in-Some-clause-full : goal.returns-in-Some-clause-full
returns-in-Some-clause-full g c =
    let t = c.args.self.now.task.now in
    let p = t.instance.now in
    let before = c.args.self.now.progress in
    let s = state_of p before in
    let is = found_leaf g.S.Separator.kind p c.in_ok-set.set c.args.hubs.now s c.in-Some.number c.in_ok-set.ensures (sym (c.number_of.ensures.number p) ∙ c.in-Some.is) in
    on_ok_weaker c.add_line.result
    (λ has. done_as t before c.add_line.new.progress _ _ is
    (line_done t before c.add_line.new.progress (leaf denominator (whole_on c.in-Some.number)) (tree_line_of c.in_ok-line.line) before.made before.stop
    c.requires.going (ap (λ (l : TreeLine). l ∷ []) (sym c.in_ok-line.ensures)) c.requires.going.made has))
    c.add_line.ensures

pub returns-clause-full : goal.returns-clause-full
returns-clause-full g c =
    let t = c.args.self.now.task.now in
    let p = t.instance.now in
    let before = c.args.self.now.progress in
    let middle = c.separate.new.self.progress in
    let set = c.in_ok-set.set in
    let order = c.in_ok-order.order.items in
    let s = state_of p before in
    let none : c.number_of.result ≡ None = search rules in
    let last : c.len.result ≡ length s.cuts + 1 = c.len.ensures ∙ one_more g.S.Separator.kind t before middle set order c.in_ok-separate.ensures.at in
    let is = new_leaf g.S.Separator.kind p set c.args.hubs.now order s c.len.result c.requires.going.problem c.in_ok-set.ensures c.in_ok-order.ensures.order
    c.in_ok-order.ensures.ascend (sym (c.number_of.ensures.number p) ∙ none) last in
    on_ok_weaker c.add_line-2.result
    (λ has. done_as t before c.add_line-2.new.progress _ _ is
    (line_at t before middle c.add_line-2.new.progress (separated (parts_for g.S.Separator.kind p) set order s) (leaf denominator (whole_on c.len.result))
    (tree_line_of c.in_ok-line-2.line) c.in_ok-separate.ensures.at (ap (λ (l : TreeLine). l ∷ []) (sym c.in_ok-line-2.ensures)) has))
    c.add_line-2.ensures
