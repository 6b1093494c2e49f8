use Rattle.std.proofs.Common.{subst}
use Rattle.cert_spec.specs.Grammar.{IsTextFault}
use Rattle.cert_scan.specs.Scanned.{fault_of, Tells}
use Rattle.cert_checker.proofs.Ends.{are_come, is_read, why_ends}
use Rattle.cert_checker.proofs.Judged.{ending_shown}
use Rattle.cert_checker.proofs.streams.Stream.finish.Goals as goal

pub ending_of-requires : goal.ending_of-requires
ending_of-requires c =
    let s = c.args.self.now in
    let a = are_come c.requires.0 s c.if-self.false c.requires.1 in
    let r = is_read c.requires.0 s c.finish.result a c.in-None.is (c.finish.ensures.tells c.requires.0 a.given a.come.scanned a.few)
    (λ k spells. c.finish.ensures.items c.requires.0 a.given k a.come.scanned spells) in
    (r.certificate, r.spelled.in_range, r.taken)

pub returns-in-None-clause-why : goal.returns-in-None-clause-why
returns-in-None-clause-why c = λ bytes h.
    let s = c.args.self.now in
    let a = are_come bytes s c.if-self.false h in
    let r = is_read bytes s c.finish.result a c.in-None.is (c.finish.ensures.tells bytes a.given a.come.scanned a.few)
    (λ k spells. c.finish.ensures.items bytes a.given k a.come.scanned spells) in
    why_ends s.checks.instance.now bytes r.certificate c.ending_of.result a.short r.spelled (c.ending_of.ensures r.certificate r.spelled.in_range r.taken)

pub returns-in-None-clause-proves : goal.returns-in-None-clause-proves
returns-in-None-clause-proves c = λ bytes h.
    let s = c.args.self.now in
    let a = are_come bytes s c.if-self.false h in
    let r = is_read bytes s c.finish.result a c.in-None.is (c.finish.ensures.tells bytes a.given a.come.scanned a.few)
    (λ k spells. c.finish.ensures.items bytes a.given k a.come.scanned spells) in
    (ending_shown s.checks bytes r.certificate c.ending_of.result a.short r.spelled r.taken (c.ending_of.ensures r.certificate r.spelled.in_range r.taken)).0

pub returns-in-None-clause-marked : goal.returns-in-None-clause-marked
returns-in-None-clause-marked c = λ bytes h.
    let s = c.args.self.now in
    let a = are_come bytes s c.if-self.false h in
    let r = is_read bytes s c.finish.result a c.in-None.is (c.finish.ensures.tells bytes a.given a.come.scanned a.few)
    (λ k spells. c.finish.ensures.items bytes a.given k a.come.scanned spells) in
    (ending_shown s.checks bytes r.certificate c.ending_of.result a.short r.spelled r.taken (c.ending_of.ensures r.certificate r.spelled.in_range r.taken)).1

pub returns-in-Some-BadLine-clause-why : goal.returns-in-Some-BadLine-clause-why
returns-in-Some-BadLine-clause-why c = λ bytes h.
    let a = are_come bytes c.args.self.now c.if-self.false h in
    let t = c.finish.ensures.tells bytes a.given a.come.scanned a.few in
    (a.short, subst (λ f. IsTextFault bytes (fault_of f)) c.in-Some-BadLine.field-0-is (subst (λ o. Tells bytes o) c.in-Some-BadLine.is t).of_grammar)

pub returns-in-Some-Ended-clause-why : goal.returns-in-Some-Ended-clause-why
returns-in-Some-Ended-clause-why c = λ bytes h.
    let a = are_come bytes c.args.self.now c.if-self.false h in
    let t = c.finish.ensures.tells bytes a.given a.come.scanned a.few in
    (a.short, subst (λ f. IsTextFault bytes (fault_of f)) c.in-Some-Ended.field-0-is (subst (λ o. Tells bytes o) c.in-Some-Ended.is t).of_grammar)
