use Rattle.std.proofs.Common.{take, length, get_or, sym, ap, ◌∙◌, ◌≡◌, ◌+◌, ◌<◌, subst, arith}
use Rattle.std.proofs.lemmas.List.{take_more, length-take-le}
use Rattle.cert_scan.specs.Moves.{keyword_of}
use Rattle.cert_scan.specs.Runs.{GoesOn}
use Rattle.cert_scan.proofs.LineRuns.{letters_more}
use Rattle.cert_scan.proofs.heads.letters_ahead.Goals as goal

pub loop-i-preserved : goal.loop-i-preserved
loop-i-preserved c =
    let bytes = c.args.bytes.now in
    let matched = c.args.matched in
    let low : c.loop-i.i < length c.args.bytes.now = omega arith in
    let long = length-take-le c.loop-i.i c.args.bytes.now (omega (arith, low)) in
    let word = ap length c.form.ensures.word in
    let is : get_or c.args.bytes.now c.loop-i.i 0 ≡ get_or (keyword_of c.args.head) (c.args.matched + c.loop-i.i) 0 =
    c.if-bytes-i.false ∙ ap (λ w. get_or w (c.args.matched + c.loop-i.i) 0) c.form.ensures.word in
    subst (λ l. GoesOn (keyword_of c.args.head) c.args.matched l) (sym (take_more c.args.bytes.now c.loop-i.i 0 low))
    (letters_more (keyword_of c.args.head) matched (take c.loop-i.i bytes) (get_or bytes c.loop-i.i 0) c.loop-i.invariant (omega (arith, long, word))
    (is ∙ ap (λ k. get_or (keyword_of c.args.head) (matched + k) 0) (sym long)))
