use Rattle.std.proofs.Common.{List, ◌++◌, ◌∷◌, [], ap₂, sym, ◌∙◌, arith}
use Rattle.std.proofs.lemmas.List.{take_more}
use Rattle.hub_model.specs.declared.tree_lines.TreeLine.{TreeLine}
use Rattle.proof_text.proofs.certificates.lines_again.Goals as goal

pub loop-line-preserved : goal.loop-line-preserved
loop-line-preserved c =
    c.in_ok-push.ensures.items
    ∙ ap₂ (λ (ls : List TreeLine) (l : TreeLine). ls ++ l ∷ []) c.loop-line.invariant (c.in_ok-line_again.ensures ∙ c.line-item.is)
    ∙ sym (take_more c.args.lines.now c.loop-line.line-index c.line-item.result (omega arith))
