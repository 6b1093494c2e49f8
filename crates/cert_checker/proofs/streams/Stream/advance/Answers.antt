use Rattle.std.proofs.Common.{◌-◌, ◌++◌, length, take, drop, ap, sym, subst, ◌∙◌, append_assoc, length-drop, rules, arith}
use Rattle.std.proofs.Math.Seq.{take-add}
use Rattle.std.proofs.lemmas.List.{take_all}
use Rattle.cert_scan.specs.Scans.{given_all}
use Rattle.cert_checker.specs.Fed.{HasCome, BeginsCut}
use Rattle.cert_checker.proofs.Refusing.{on_err, later_begins_cut}
use Rattle.cert_checker.proofs.streams.Stream.advance.Goals as goal

pub take_next-requires-clause-come : goal.take_next-requires-clause-come
take_next-requires-clause-come c =
    let w = c.loop-at.invariant.come c.requires.0 c.requires.1 c.requires.2 in
    (c.requires.0 ++ take c.loop-at.at c.args.piece.now, w.0, w.1)

pub loop-at-preserved : goal.loop-at-preserved
loop-at-preserved c =
    let piece = c.args.piece.now in
    let at = c.loop-at.at in
    let n = c.in_ok-at.field-0 in
    record {
      within = search rules;
      come = λ bytes given h.
          let w = c.loop-at.invariant.come bytes given h in
          let r = c.in_ok-at.ensures.come (bytes ++ take at piece) w.0 w.1 in (
            r.0,
            subst (λ b. HasCome b r.0 c.take_next.new.self)
                (ap (λ l. bytes ++ take at piece ++ take n l)
                (take_all (length piece - at) (drop at piece) (let long = length-drop at piece in omega arith))
                ∙ append_assoc bytes (take at piece) (take n (drop at piece)) ∙ ap (λ l. bytes ++ l) (sym (take-add at n piece))) r.1,
          );
      room = c.in_ok-at.ensures.room ∙ c.loop-at.invariant.room;
      short = c.in_ok-at.ensures.short ∙ c.loop-at.invariant.short;
      instance = c.in_ok-at.ensures.instance ∙ c.loop-at.invariant.instance;
    }

pub returns-clause-come : goal.returns-clause-come
returns-clause-come c = λ bytes given h.
    let w = c.loop-at.invariant.come bytes given h in
    (w.0, subst (λ l. HasCome (bytes ++ l) w.0 c.loop-at.self) (take_all c.loop-at.at c.args.piece.now (omega arith)) w.1)

pub returns-in_err-at-clause-refused : goal.returns-in_err-at-clause-refused
returns-in_err-at-clause-refused c =
    let begun = c.requires.2 in
    let w = c.loop-at.invariant.come c.requires.0 c.requires.1 begun in
    on_err c.from_residual.result (BeginsCut (given_all c.args.self.now.scan c.args.piece.now))
    (later_begins_cut c.requires.0 c.args.piece.now c.loop-at.at c.args.self.now.scan c.loop-at.self.scan begun.scanned.reached w.1.scanned.reached
    c.in_err-at.ensures.refused)
