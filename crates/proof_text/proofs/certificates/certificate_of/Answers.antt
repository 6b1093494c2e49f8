use Rattle.std.proofs.Common.{◌∙◌}
use Rattle.hub_spec.specs.Trees.{empty}
use Rattle.cert_scan.specs.Versions.{version_number}
use Rattle.proof_text.proofs.FoundCertificates.{AreParts, certificate_parts, found_certificate}
use Rattle.proof_text.proofs.certificates.certificate_of.Goals as goal
use Rattle.proof_text.proofs.certificates.certificate_of.Goals.{In_ok-tree}

parts : (c : In_ok-tree) → AreParts (version_number c.args.version) c.args.instance.now c.args.found.now c.heading_of-heading.result
    c.in_ok-plan.plan c.in_ok-cuts.cuts.items c.in_ok-marks.marks.items c.in_ok-tree.tree.items
parts c =
    record {
      heading_is = c.heading_of-heading.ensures.heading empty;
      plan_is = c.in_ok-plan.ensures;
      cuts_are = c.in_ok-cuts.ensures;
      marks_are = c.in_ok-marks.ensures;
      lines_are = c.in_ok-tree.ensures ∙ c.deref.ensures.value;
    }

pub new-requires : goal.new-requires
new-requires c =
    certificate_parts (version_number c.args.version) c.args.instance.now c.args.found.now _ _ _ _ _ c.requires.version c.requires.found (parts c)

pub returns : goal.returns
returns c =
    found_certificate (version_number c.args.version) c.args.instance.now c.args.found.now _ _ _ _ _ _
    (parts (goal.at.returns c).In_ok-tree) c.new.ensures
