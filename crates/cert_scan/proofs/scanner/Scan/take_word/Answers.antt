use Rattle.std.proofs.Common.{sym, ◌∙◌, ◌≤◌, length, subst}
use Rattle.cert_scan.proofs.LineRuns.{takes_word}
use Rattle.cert_scan.proofs.scanner.Scan.take_word.Goals as goal

pub returns-clause-takes : goal.returns-clause-takes
returns-clause-takes c =
    takes_word c.args.self.now c.in-Start.stage c.in_ok-head.head c.in_ok-place.place c.args.bytes.now c.letters_ahead-count.result c.in-Start.is
    (sym c.head_of.ensures ∙ c.in_ok-head.was) (sym c.form-first.ensures.place ∙ c.in_ok-place.was) c.letters_ahead-count.ensures.letters
    (subst (λ w. length w ≤ c.letters_ahead-count.result) c.form-first.ensures.word c.if-count-word.false) c.if-count-bytes.false c.if-bytes-count-ne32.false
