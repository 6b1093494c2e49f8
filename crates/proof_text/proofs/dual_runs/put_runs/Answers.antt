use Rattle.std.proofs.Common.{◌≡◌, ◌<◌, ◌-◌, length, refl, sym, ap, subst, ◌∙◌, is_ok, is_err, arith}
use Rattle.std.proofs.lemmas.Bool.{false≢true}
use Rattle.hub_spec.specs.Problem.{Problem}
use Rattle.hub_spec.specs.Cuts.{Prices}
use Rattle.cert_format.proofs.Following.{as_text, front_start, front_more, front_stop}
use Rattle.cut_pool.specs.Kept.{kept_of}
use Rattle.dual_lender.specs.Lenders.{kept_dual, made_dual, LenderState}
use Rattle.dual_lender.proofs.Lending.{still_has, few_values}
use Rattle.proof_text.proofs.RowLines.{text_from, IsRunOf, run_begins, run_grows, run_ended, run_last}
use Rattle.proof_text.proofs.dual_runs.put_runs.Goals as goal
use Rattle.proof_text.proofs.dual_runs.put_runs.Goals.{then-not-holds+in_ok-put_run, else-not-holds}

pub hold-requires : goal.hold-requires
hold-requires g c =
    let p = c.args.instance.now in
    let same = ap (λ (d : Prices). length d.u) c.make.ensures.made in
    let size = ap (λ (q : Problem). q.size) c.make.ensures.duals.lender in
    record {
      few = omega (
        arith,
        same,
        size,
        few_values p (kept_of c.args.kept.now) c.args.i 0 c.size-size.ensures.problem c.requires.fits c.requires.origin
            (omega (arith, c.requires.origin)),
      );
    }

pub loop-j-init : goal.loop-j-init
loop-j-init g c =
    let p = c.args.instance.now in
    let kept = kept_of c.args.kept.now in
    let d = kept_dual p kept in
    let held : c.hold.new.self.held ≡ d (c.args.i, 0) = ap (λ (s : LenderState). s.held) c.hold.ensures ∙ c.make.ensures.made in
    record {
      duals = still_has p kept c.args.i c.make.new.self c.hold.new.self (made_dual kept c.make.new.self) c.hold.ensures c.make.ensures.duals;
      run = run_begins p.size d c.args.i 0 c.hold.new.self.held (omega (arith, c.requires.origin)) held;
      put = front_start c.args.sink.now c.args.buffer.now refl;
    }

pub returns-in_err-put_run-clause-lines : goal.returns-in_err-put_run-clause-lines
returns-in_err-put_run-clause-lines g c =
    let p = c.args.instance.now in
    let d = kept_dual p (kept_of c.args.kept.now) in
    let run = subst (IsRunOf p.size d c.args.i c.loop-j.first c.loop-j.j) (sym c.make-in-loop-j.ensures.held) c.loop-j.invariant.run in
    front_stop (text_from 2 p.size d c.args.i c.loop-j.j)
    c.loop-j.invariant.put c.put_run.ensures (ap is_err c.in_err-put_run.was) c.from_residual.ensures.0
    (run_ended p.size d c.args.i c.loop-j.first c.loop-j.j (c.loop-j.j - c.loop-j.first) c.make-in-loop-j.new.self.held refl run
    (omega (arith, c.loop-j-test.true, c.size-size.ensures.value))
    (λ same. false≢true (sym c.if-not-holds.true ∙ c.holds.ensures.1 (same ∙ sym c.make-in-loop-j.ensures.made))))

pub hold-requires-then-not-holds : goal.hold-requires-then-not-holds
hold-requires-then-not-holds g c =
    let p = c.args.instance.now in
    let same = ap (λ (d : Prices). length d.u) c.make-in-loop-j.ensures.made in
    let size = ap (λ (q : Problem). q.size) c.make-in-loop-j.ensures.duals.lender in
    record {
      few = omega (
        arith,
        same,
        size,
        few_values p (kept_of c.args.kept.now) c.args.i c.loop-j.j c.size-size.ensures.problem c.requires.fits
            c.requires.origin (omega (arith, c.loop-j-test.true, c.size-size.ensures.value)),
      );
    }

pub loop-j-preserved : goal.loop-j-preserved
loop-j-preserved g c =
    let p = c.args.instance.now in
    let kept = kept_of c.args.kept.now in
    let d = kept_dual p kept in
    let held = c.make-in-loop-j.new.self.held in
    let less : c.loop-j.j < p.size = omega (arith, c.loop-j-test.true, c.size-size.ensures.value) in
    let run = subst (IsRunOf p.size d c.args.i c.loop-j.first c.loop-j.j) (sym c.make-in-loop-j.ensures.held) c.loop-j.invariant.run in
    elim c.if-not-holds.branch [
      | then-not-holds+in_ok-put_run w ↦
          let now : w.hold-then-not-holds.new.self.held ≡ d (c.args.i, c.loop-j.j) =
          ap (λ (s : LenderState). s.held) w.hold-then-not-holds.ensures ∙ c.make-in-loop-j.ensures.made in
          rw (w.lender-is, w.buffer-is, w.sink-is, w.first-is) (record {
            duals = still_has p kept c.args.i c.make-in-loop-j.new.self w.hold-then-not-holds.new.self (made_dual kept c.make-in-loop-j.new.self)
                w.hold-then-not-holds.ensures c.make-in-loop-j.ensures.duals;
            run = run_begins p.size d c.args.i c.loop-j.j w.hold-then-not-holds.new.self.held less now;
            put = front_more (text_from 2 p.size d c.args.i c.loop-j.j) c.loop-j.invariant.put w.put_run.ensures (ap is_ok w.in_ok-put_run.was)
                (run_ended p.size d c.args.i c.loop-j.first c.loop-j.j (c.loop-j.j - c.loop-j.first) held refl run less
                (λ same. false≢true (sym w.if-not-holds.true ∙ c.holds.ensures.1 (same ∙ sym c.make-in-loop-j.ensures.made))));
          })
      | else-not-holds w ↦ rw (w.lender-is, w.buffer-is, w.sink-is, w.first-is) (record {
        duals = c.make-in-loop-j.ensures.duals;
        run = run_grows p.size d c.args.i c.loop-j.first c.loop-j.j held less (c.holds.ensures.0 w.if-not-holds.false ∙ c.make-in-loop-j.ensures.made) run;
        put = c.loop-j.invariant.put;
      })
    ]

pub returns-clause-lines : goal.returns-clause-lines
returns-clause-lines g c =
    let p = c.args.instance.now in
    let d = kept_dual p (kept_of c.args.kept.now) in
    c.loop-j.invariant.put.follow _ _ _
    (as_text (run_last p.size d c.args.i c.loop-j.first c.loop-j.j (c.size-size.result - c.loop-j.first) c.loop-j.lender.held
    (ap (λ n. n - c.loop-j.first) c.size-size.ensures.value) c.loop-j.invariant.run
    (omega (arith, c.loop-j-test.false, c.size-size.ensures.value)))
    c.put_run-2.ensures)
