use Rattle.std.proofs.Common.{◌++◌, [], ◌∷◌, take, ap, subst, ◌∙◌, append-nil, ⊎_elim}
use Rattle.std.proofs.lemmas.Bool.{false≢true}
use Rattle.std.specs.Prelude.{option_to_list}
use Rattle.cert_scan.specs.Scans.{given_all}
use Rattle.cert_scan.specs.Given.{IsGiven}
use Rattle.cert_scan.specs.Scanned.{HasScanned}
use Rattle.cert_scan.specs.Runs.{Runs}
use Rattle.cert_checker.specs.Fed.{BeginsCut}
use Rattle.cert_checker.proofs.Refusing.{on_err, run_begins_cut}
use Rattle.cert_checker.proofs.streams.Stream.take_next.Goals as goal

pub returns-in-None-clause-come : goal.returns-in-None-clause-come
returns-in-None-clause-come c = λ front given h.
    let bytes = front ++ take c.run-count.result.0 c.args.bytes.now in (
      given,
      record {
        scanned = subst (λ g. HasScanned bytes g c.run-count.new.self) (ap (λ o. given ++ option_to_list o) c.in-None.is ∙ append-nil given)
            (c.run-count.ensures.scanned front given h.scanned);
        taken = h.taken;
      },
    )

pub returns-in_ok-take-in-Some-clause-come : goal.returns-in_ok-take-in-Some-clause-come
returns-in_ok-take-in-Some-clause-come c = λ front given h.
    let bytes = front ++ take c.run-count.result.0 c.args.bytes.now in (
      given ++ c.in-Some.item ∷ [],
      record {
        scanned = subst (λ o. HasScanned bytes (given ++ option_to_list o) c.run-count.new.self) c.in-Some.is
            (c.run-count.ensures.scanned front given h.scanned);
        taken = c.in_ok-take-in-Some.ensures.taken given h.taken
            (subst (λ o. IsGiven (given ++ option_to_list o)) c.in-Some.is (c.run-count.ensures.in_order front given h.scanned));
      },
    )

pub returns-in_err-take-in-Some-clause-refused : goal.returns-in_err-take-in-Some-clause-refused
returns-in_err-take-in-Some-clause-refused c =
    let old = c.args.self.now.scan in
    let bytes = c.args.bytes.now in
    let runs = subst (λ o. Runs old bytes c.run-count.result.0 o c.run-count.new.self) c.in-Some.is c.run-count.ensures.runs in
    on_err c.from_residual.result (BeginsCut (given_all old bytes))
    (⊎_elim (run_begins_cut old c.run-count.new.self bytes c.run-count.result.0 c.in-Some.item runs) (λ ok. absurd (false≢true ok)) c.in_err-take-in-Some.ensures.no_memory)
