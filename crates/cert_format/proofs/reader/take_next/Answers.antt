use Rattle.std.proofs.Common.{◌++◌, [], ◌∷◌, take, ap, sym, subst, ◌∙◌, append-nil}
use Rattle.std.specs.Prelude.{option_to_list}
use Rattle.cert_scan.specs.Given.{IsGiven}
use Rattle.cert_scan.specs.Scanned.{HasScanned}
use Rattle.cert_format.specs.Gathered.{at_start, taken}
use Rattle.cert_format.specs.Gatherings.{standing_of}
use Rattle.cert_format.proofs.Collecting.{taken_all-append}
use Rattle.cert_format.proofs.Fitting.{may_take}
use Rattle.cert_format.proofs.reader.take_next.Goals as goal

pub take-requires : goal.take-requires
take-requires c =
    let front = c.requires.read.0 in
    let h = c.requires.read.1 in
    may_take h.given c.in-Some.item (standing_of c.args.gathering.now) h.gathered h.in_order
    (subst (λ o. IsGiven (h.given ++ option_to_list o)) c.in-Some.is (c.run-count.ensures.in_order front h.given h.scanned))

pub returns-in-None-clause-read : goal.returns-in-None-clause-read
returns-in-None-clause-read c = λ front h.
    let bytes = front ++ take c.run-count.result.0 c.args.bytes.now in
    record {
      given = h.given;
      scanned = subst (λ g. HasScanned bytes g c.run-count.new.self) (ap (λ o. h.given ++ option_to_list o) c.in-None.is ∙ append-nil h.given)
          (c.run-count.ensures.scanned front h.given h.scanned);
      in_order = h.in_order;
      gathered = h.gathered;
    }

pub returns-in_ok-take-in-Some-clause-read : goal.returns-in_ok-take-in-Some-clause-read
returns-in_ok-take-in-Some-clause-read c = λ front h.
    let bytes = front ++ take c.run-count.result.0 c.args.bytes.now in
    let item = c.in-Some.item in
    record {
      given = h.given ++ item ∷ [];
      scanned = subst (λ o. HasScanned bytes (h.given ++ option_to_list o) c.run-count.new.self) c.in-Some.is
          (c.run-count.ensures.scanned front h.given h.scanned);
      in_order = subst (λ o. IsGiven (h.given ++ option_to_list o)) c.in-Some.is (c.run-count.ensures.in_order front h.given h.scanned);
      gathered = c.in_ok-take-in-Some.ensures ∙ ap (λ s. taken s item) h.gathered ∙ sym (taken_all-append at_start h.given (item ∷ []));
    }
