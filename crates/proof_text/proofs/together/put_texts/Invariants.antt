use Rattle.cert_format.proofs.Following.{HasPut}
use Rattle.proof_text.proofs.together.put_texts.Given as goal

abbrev pub invariant-loop-text : goal.invariant-loop-text
invariant-loop-text g l =
    let s = g.K.Sink in
    HasPut s.taken s.faults l.initial.sink l.sink l.initial.buffer l.buffer (λ text. text.items) l.texts l.text-index
