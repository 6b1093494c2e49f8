use Rattle.std.proofs.Common.{◌+◌, ◌∙◌, ◌++◌, ◌∷◌, [], ap, sym}
use Rattle.frac_rows.proofs.FirstRows.{range_more}
use Rattle.plain_rows.proofs.starts.numbered.Goals as goal

pub loop-i-preserved : goal.loop-i-preserved
loop-i-preserved c =
    c.in_ok-push.ensures.items ∙ ap (λ xs. xs ++ (c.args.first + c.loop-i.i) ∷ []) c.loop-i.invariant ∙ sym (range_more c.args.first c.loop-i.i)
