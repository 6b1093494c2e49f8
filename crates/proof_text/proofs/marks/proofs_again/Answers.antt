use Rattle.std.proofs.Common.{List, ◌++◌, ◌∷◌, [], ap₂, sym, ◌∙◌, arith}
use Rattle.std.proofs.lemmas.List.{take_more}
use Rattle.core_spec.specs.CoreCuts.{CoreProof}
use Rattle.proof_text.proofs.marks.proofs_again.Goals as goal

pub loop-proof-preserved : goal.loop-proof-preserved
loop-proof-preserved c =
    c.in_ok-push.ensures.items
    ∙ ap₂ (λ (ps : List CoreProof) (p : CoreProof). ps ++ p ∷ []) c.loop-proof.invariant (c.in_ok-proof_again.ensures ∙ c.proof-item.is)
    ∙ sym (take_more c.args.proofs.now c.loop-proof.proof-index c.proof-item.result (omega arith))
