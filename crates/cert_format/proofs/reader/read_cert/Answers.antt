use Rattle.std.proofs.Common.{◌≡◌, ◌-◌, ◌^◌, ◌<◌, ◌++◌, length, take, drop, None, sym, ap, subst, ◌∙◌, length-drop, rules, arith}
use Rattle.std.proofs.Math.Seq.{take-add}
use Rattle.std.proofs.lemmas.List.{take_all}
use Rattle.cert_spec.specs.Text.{Spells}
use Rattle.cert_scan.specs.Scanned.{Tells}
use Rattle.cert_format.specs.Faults.{ToldFault}
use Rattle.cert_format.specs.Readings.{HasRead}
use Rattle.cert_format.proofs.Steps.{IsRead, read_faulty, read_whole}
use Rattle.cert_format.proofs.reader.read_cert.Goals as goal
use Rattle.cert_format.proofs.reader.read_cert.Goals.{After-finish}

pub take_next-requires-clause-read : goal.take_next-requires-clause-read
take_next-requires-clause-read c = (take c.loop-at.at c.args.bytes.now, c.loop-at.invariant.read)

pub loop-at-preserved : goal.loop-at-preserved
loop-at-preserved c =
    let bytes = c.args.bytes.now in
    let at = c.loop-at.at in
    let n = c.in_ok-at.field-0 in
    record {
      within = search rules;
      read = subst (λ b. HasRead b c.take_next.new.scan c.take_next.new.gathering)
          (ap (λ l. take at bytes ++ take n l) (take_all (length bytes - at) (drop at bytes) (let long = length-drop at bytes in omega arith))
          ∙ sym (take-add at n bytes))
          (c.in_ok-at.ensures.read (take at bytes) c.loop-at.invariant.read);
    }

-- all bytes were read
read : (c : After-finish) → HasRead c.args.bytes.now c.loop-at.scan c.loop-at.gathering
read c = subst (λ b. HasRead b c.loop-at.scan c.loop-at.gathering) (take_all c.loop-at.at c.args.bytes.now (omega arith)) c.loop-at.invariant.read

tells : (c : After-finish) → Tells c.args.bytes.now c.finish.result
tells c =
    let few : length c.args.bytes.now < 2 ^ 64 - 1 = search rules in
    c.finish.ensures.tells c.args.bytes.now (read c).given (read c).scanned few

whole : (c : After-finish) → c.finish.result ≡ None → IsRead c.args.bytes.now c.loop-at.gathering
whole c none =
    read_whole c.args.bytes.now c.loop-at.scan c.loop-at.gathering c.finish.result (read c) none (tells c)
    (λ k spells. c.finish.ensures.items c.args.bytes.now (read c).given k (read c).scanned spells)

pub finish-requires-in-None : goal.finish-requires-in-None
finish-requires-in-None c =
    let r = whole (goal.at.finish-requires-in-None c).After-finish c.in-None.is in
    (r.stated, r.in_range, r.gathered)

pub returns-in-None-clause-spells : goal.returns-in-None-clause-spells
returns-in-None-clause-spells c =
    let r = whole (goal.at.returns-in-None-clause-spells c).After-finish c.in-None.is in
    subst (Spells c.args.bytes.now) (sym (c.finish-in-None.ensures r.stated r.in_range r.gathered)) r.spells

pub returns-in-Some-clause-fault : goal.returns-in-Some-clause-fault
returns-in-Some-clause-fault c =
    subst (ToldFault c.args.bytes.now) (sym c.told.ensures)
    (read_faulty c.args.bytes.now c.finish.result c.in-Some.fault c.in-Some.is (tells (goal.at.returns-in-Some-clause-fault c).After-finish))
