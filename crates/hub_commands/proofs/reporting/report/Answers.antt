use Rattle.std.proofs.lemmas.Result.{err_from_is_err_and}
use Rattle.hub_words.specs.Views.{source_of}
use Rattle.hub_commands.specs.Checks.{LacksCertificate}
use Rattle.hub_sources.proofs.Halting.{source_halts}
use Rattle.std.proofs.Common.{Option, inl, inr, subst}
use Rattle.hub_io.specs.Outside.{Files}
use Rattle.hub_io.proofs.Names.{begins_then, begins_more}
use Rattle.cert_checker.specs.declared.tested.Tested.TheVariants.{Whole}
use Rattle.hub_commands.specs.Judging.{IsReadFrom}
use Rattle.hub_commands.proofs.ReadFiles.{report_made, report_refused}
use Rattle.hub_commands.proofs.reporting.report.Goals as goal
use Rattle.hub_commands.proofs.reporting.report.Given.{Over}
use Rattle.hub_commands.proofs.reporting.report.Goals.{In_ok-certificate}

pub returns-in_err-instance-clause-halted : goal.returns-in_err-instance-clause-halted
returns-in_err-instance-clause-halted g c =
    let e = err_from_is_err_and c.from_residual.result c.from_residual.ensures.1 in
    rw (e.1, e.2) (source_halts g.S.Shelf.held g.S.Shelf.faults g.S.Shelf.sound c.args.shelf.now c.read_instance.new.shelf
    (source_of c.args.source.now) (λ files. LacksCertificate files (source_of c.args.source.now) c.args.certificate.now) _ c.in_err-instance.ensures.halted)

pub returns-in_err-instance-clause-begins : goal.returns-in_err-instance-clause-begins
returns-in_err-instance-clause-begins g c = begins_more (λ name is. inl is) c.in_err-instance.ensures.begins

pub returns-in_err-certificate-clause-begins : goal.returns-in_err-certificate-clause-begins
returns-in_err-certificate-clause-begins g c =
    begins_then (begins_more (λ name is. inl is) c.in_ok-instance.ensures.begins) (begins_more (λ name is. inr is) c.in_err-certificate.ensures.begins)

pub returns-in-Ok-clause-begins : goal.returns-in-Ok-clause-begins
returns-in-Ok-clause-begins g c =
    begins_then (begins_more (λ name is. inl is) c.in_ok-instance.ensures.begins) (begins_more (λ name is. inr is) c.in_ok-certificate.ensures.begins)

pub returns-in-Err-clause-begins : goal.returns-in-Err-clause-begins
returns-in-Err-clause-begins g c =
    begins_then (begins_more (λ name is. inl is) c.in_ok-instance.ensures.begins) (begins_more (λ name is. inr is) c.in_ok-certificate.ensures.begins)

-- what is read of the file that is held
read : (g : Over) (c : In_ok-certificate g) → IsReadFrom c.in_ok-instance.instance Whole (g.S.Shelf.held c.args.shelf.now) c.args.certificate.now c.in_ok-certificate.field-0
read g c =
    subst (λ (held : Option Files). IsReadFrom c.in_ok-instance.instance Whole held c.args.certificate.now c.in_ok-certificate.field-0)
    c.in_ok-instance.ensures.stays.same c.in_ok-certificate.ensures.read

pub returns-in-Ok-clause-reported : goal.returns-in-Ok-clause-reported
returns-in-Ok-clause-reported g c =
    let held = g.S.Shelf.held c.args.shelf.now in
    let p = c.in_ok-instance.instance in
    let at = (goal.at.returns-in-Ok-clause-reported g c).In_ok-certificate in
    report_made held (source_of c.args.source.now) c.args.certificate.now p c.in-Ok.certificate c.in_ok-instance.ensures.given
    (subst (IsReadFrom p Whole held c.args.certificate.now) c.in-Ok.is (read g at))

pub returns-in-Err-clause-reported : goal.returns-in-Err-clause-reported
returns-in-Err-clause-reported g c =
    let held = g.S.Shelf.held c.args.shelf.now in
    let p = c.in_ok-instance.instance in
    let at = (goal.at.returns-in-Err-clause-reported g c).In_ok-certificate in
    report_refused held (source_of c.args.source.now) c.args.certificate.now p c.in-Err.ending c.in_ok-instance.ensures.given
    (subst (IsReadFrom p Whole held c.args.certificate.now) c.in-Err.is (read g at))
