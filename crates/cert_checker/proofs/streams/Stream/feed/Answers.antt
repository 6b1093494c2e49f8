use Rattle.std.proofs.Common.{Bool, ◌-◌, ◌++◌, length, sym, subst, ◌∙◌, length-append, arith}
use Rattle.cert_scan.specs.Scans.{given_all}
use Rattle.cert_checker.specs.Fed.{HasFedUnless, BeginsCut, EndsCutLine}
use Rattle.cert_checker.proofs.Refusing.{on_err, items_behind, no_cut_once_counted}
use Rattle.cert_checker.proofs.CutLines.{ends_cut_line, counts_tree}
use Rattle.cert_checker.specs.declared.streams.Stream.{Stream}
use Rattle.cert_checker.proofs.streams.Stream.feed.Goals as goal

pub advance-requires : goal.advance-requires
advance-requires c =
    let f = subst (λ (b : Bool). HasFedUnless b c.requires.0 c.args.self) c.if-self.false c.requires.1 in
    (c.requires.0, f.1.0, f.1.1)

pub returns-clause-fed : goal.returns-clause-fed
returns-clause-fed c = λ bytes h.
    let s = c.args.self in
    let piece = c.args.piece.now in
    let f = subst (λ (b : Bool). HasFedUnless b bytes s) c.if-self.false h in
    let r = c.in_ok-advance.ensures.come bytes f.1.0 f.1.1 in
    let t : Stream = record {
      scan = c.advance.new.self.scan;
      checks = c.advance.new.self.checks;
      room = c.advance.new.self.room - length piece;
      is_too_long = c.advance.new.self.is_too_long;
    } in
    subst (λ (b : Bool). HasFedUnless b (bytes ++ piece) t) (sym (c.in_ok-advance.ensures.short ∙ c.if-self.false))
    (omega (arith, f.0, length-append bytes piece, c.in_ok-advance.ensures.room), (r.0, record { scanned = r.1.scanned; taken = r.1.taken }))

pub returns-in_err-advance-clause-refused : goal.returns-in_err-advance-clause-refused
returns-in_err-advance-clause-refused c = λ bytes h.
    let f = subst (λ (b : Bool). HasFedUnless b bytes c.args.self) c.if-self.false h in
    let cut : BeginsCut (items_behind bytes c.args.piece.now) =
    subst (λ s. BeginsCut (given_all s c.args.piece.now)) (sym f.1.1.scanned.reached) c.in_err-advance.ensures.refused in
    on_err c.from_residual.result (EndsCutLine bytes c.args.piece.now) (ends_cut_line bytes c.args.piece.now cut)

pub returns-in_err-advance-clause-counted : goal.returns-in_err-advance-clause-counted
returns-in_err-advance-clause-counted c = λ bytes h counts.
    let f = subst (λ (b : Bool). HasFedUnless b bytes c.args.self) c.if-self.false h in
    let cut : BeginsCut (items_behind bytes c.args.piece.now) =
    subst (λ s. BeginsCut (given_all s c.args.piece.now)) (sym f.1.1.scanned.reached) c.in_err-advance.ensures.refused in
    absurd (no_cut_once_counted bytes c.args.piece.now (counts_tree bytes counts) cut)

pub returns-in_err-advance-clause-too_long : goal.returns-in_err-advance-clause-too_long
returns-in_err-advance-clause-too_long c = λ bytes h long.
    let f = subst (λ (b : Bool). HasFedUnless b bytes c.args.self) c.if-self.false h in
    absurd (omega (arith, f.0, length-append bytes c.args.piece.now))
