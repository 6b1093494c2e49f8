use Rattle.std.proofs.Common.{◌++◌, ◌∷◌, [], Vec, Global, ap, sym, subst, ◌∙◌, arith}
use Rattle.hub_model.specs.declared.tree_lines.TreeLine as model
use Rattle.hub_model.specs.Lines.{tree_line_of}
use Rattle.search_steps.specs.declared.progress.Progress.{Progress}
use Rattle.search_steps.specs.Progressing.{state_of, IsAt}
use Rattle.search_spec.specs.Turns.{Closed}
use Rattle.node_rounds.specs.declared.outcomes.Pending.{Pending}
use Rattle.node_rounds.specs.declared.left.TreeSlot.{TreeSlot}
use Rattle.node_rounds.specs.declared.left.TreeSlot.TheVariants.{Line}
use Rattle.node_rounds.specs.Outcomes.{pending_of, IsPendingOf}
use Rattle.node_rounds.proofs.Lefts.{no_items, last_is, node_there}
use Rattle.node_rounds.proofs.Closed.{ended_node, IsClosing, closing_first, closing_line, closing_node, closing_over}
use Rattle.node_rounds.proofs.closing.close_up.Goals.{in-Line, in-Node+in-Some-pop+in_ok-line-in-Some-pop}
use Rattle.node_rounds.proofs.closing.close_up.Goals as goal

pub loop-mark-init : goal.loop-mark-init
loop-mark-init c = closing_first c.args.task.now c.args.progress.now c.args.left c.requires.left

pub end_node-requires-clause-node : goal.end_node-requires-clause-node
end_node-requires-clause-node c =
    last_is (IsPendingOf c.args.task.now.instance.now c.loop-mark.progress.pool.entries) c.pop-in-Node.new.self.items c.loop-mark.nodes.items c.in-Some-pop.node
    c.in-Some-pop.ensures.items c.loop-mark.invariant.nodes

pub unreachable-requires : goal.unreachable-requires
unreachable-requires c =
    let marks = c.in-Some.ensures.items ∙ ap (λ (m : TreeSlot). c.pop.new.self.items ++ m ∷ []) c.in-Node.is in
    absurd (omega (
      arith,
      node_there c.pop.new.self.items c.loop-mark.marks.items c.loop-mark.nodes.items marks c.loop-mark.invariant.matched,
      c.in-None.ensures.cases.0,
    ))

pub loop-mark-preserved : goal.loop-mark-preserved
loop-mark-preserved c =
    let t = c.args.task.now in
    let before = c.args.progress.now in
    let left = c.args.left in
    let new = c.add_line.new.lines in
    let ms = c.pop.new.self.items in
    let more = c.loop-mark.marks.items in
    elim c.match-mark.branch [
      | in-Line w ↦
          let marks = c.in-Some.ensures.items ∙ ap (λ (m : TreeSlot). ms ++ m ∷ []) w.in-Line.is in
          let same = subst (λ (x : Progress). IsClosing t before left x more c.loop-mark.nodes.items) (sym w.progress-is) c.loop-mark.invariant in
          let is = subst (λ (v : Vec Pending Global). IsClosing t before left c.match-mark.progress more v.items) (sym w.nodes-is) same in
          let line = c.in_ok-add_line.ensures.added in
          closing_line t before left c.match-mark.progress new ms more c.match-mark.nodes.items c.match-mark.line is (marks ∙ ap (λ (l : model.TreeLine). ms ++ Line l ∷ []) (sym w.line-is)) line c.in_ok-add_line.ensures.few
      | in-Node+in-Some-pop+in_ok-line-in-Some-pop w ↦
          let p = t.instance.now in
          let x = w.in-Some-pop.node in
          let marks = c.in-Some.ensures.items ∙ ap (λ (m : TreeSlot). ms ++ m ∷ []) w.in-Node.is in
          let nodes = w.in-Some-pop.ensures.items ∙ ap (λ (v : Vec Pending Global). v.items ++ x ∷ []) (sym w.nodes-is) in
          let here = ended_node p (pending_of x) (state_of p c.loop-mark.progress) in
          let at = subst (λ (s : Progress). IsAt t c.loop-mark.progress s here.state) (sym w.progress-is) w.in_ok-line-in-Some-pop.ensures.at in
          let one = w.in_ok-line-in-Some-pop.ensures.line ∙ ap (λ (l : model.TreeLine). tree_line_of l ∷ []) (sym w.line-is) in
          closing_node t before left c.loop-mark.progress c.match-mark.progress new ms more c.match-mark.nodes.items c.loop-mark.nodes.items x c.match-mark.line
          c.loop-mark.invariant marks nodes at one c.in_ok-add_line.ensures.added c.in_ok-add_line.ensures.few
    ]

pub returns-clause-state : goal.returns-clause-state
returns-clause-state c =
    ap (λ (x : Closed). x.state) (closing_over c.args.task.now c.args.progress.now c.args.left c.loop-mark.progress c.loop-mark.marks.items c.loop-mark.nodes.items
    c.loop-mark.invariant (no_items c.loop-mark.marks.items (omega (arith, c.in_default.ensures.cases.0))))

pub returns-clause-lines : goal.returns-clause-lines
returns-clause-lines c =
    ap (λ (x : Closed). x.lines) (closing_over c.args.task.now c.args.progress.now c.args.left c.loop-mark.progress c.loop-mark.marks.items c.loop-mark.nodes.items
    c.loop-mark.invariant (no_items c.loop-mark.marks.items (omega (arith, c.in_default.ensures.cases.0))))
