use Rattle.std.proofs.Common.{◌∙◌, sym, subst, flat_map, ap, is_ok, is_err}
use Rattle.cert_spec.specs.Text.{line_bytes}
use Rattle.cert_scan.specs.Versions.{version_number}
use Rattle.cert_format.proofs.Following.{as_text, then_put, then_none}
use Rattle.proof_text.specs.Certificates.{CanBeStated}
use Rattle.proof_text.specs.Texts.{kept_items}
use Rattle.proof_text.proofs.FoundLines.{found_lines}
use Rattle.proof_text.proofs.PlaceCuts.{cuts_found}
use Rattle.proof_text.proofs.written.put_found.Goals as goal

pub put_cuts-requires-clause-lines : goal.put_cuts-requires-clause-lines
put_cuts-requires-clause-lines g c κs within = cuts_found _ c.args.finding.now.found.now
    (subst (λ p. CanBeStated p c.args.finding.now.found.now) (sym (c.tables.ensures ∙ c.requires.lender)) c.requires.found)
    (λ _. c.args.finding.now.found.now.cuts)

pub returns-in_err-put_found_top-clause-lines : goal.returns-in_err-put_found_top-clause-lines
returns-in_err-put_found_top-clause-lines g c =
    as_text (found_lines (version_number c.args.finding.now.version) c.args.finding.now.instance.now c.args.finding.now.found.now (λ _. c.args.finding.now.found.now.cuts) (λ _. c.args.finding.now.found.now.tree.items))
    (then_none _ c.put_found_top.ensures (ap is_err c.in_err-put_found_top.was) c.from_residual.ensures.0)

pub returns-in_err-put_cuts-clause-lines : goal.returns-in_err-put_cuts-clause-lines
returns-in_err-put_cuts-clause-lines g c =
    as_text (found_lines (version_number c.args.finding.now.version) c.args.finding.now.instance.now c.args.finding.now.found.now (λ _. c.args.finding.now.found.now.cuts) (λ _. c.args.finding.now.found.now.tree.items))
    (then_put c.put_found_top.ensures (ap is_ok c.in_ok-put_found_top.was)
    (then_none _ (as_text (λ t. flat_map line_bytes (kept_items (version_number c.args.finding.now.version) ((c.tables.ensures ∙ c.requires.lender) t) c.args.finding.now.found.now.cuts.cuts)) c.put_cuts.ensures.lines) (ap is_err c.in_err-put_cuts.was) c.from_residual-in_err-put_cuts.ensures.0))

pub returns-clause-lines : goal.returns-clause-lines
returns-clause-lines g c =
    as_text (found_lines (version_number c.args.finding.now.version) c.args.finding.now.instance.now c.args.finding.now.found.now (λ _. c.args.finding.now.found.now.cuts) c.deref.ensures.value)
    (then_put c.put_found_top.ensures (ap is_ok c.in_ok-put_found_top.was)
    (then_put (as_text (λ t. flat_map line_bytes (kept_items (version_number c.args.finding.now.version) ((c.tables.ensures ∙ c.requires.lender) t) c.args.finding.now.found.now.cuts.cuts)) c.put_cuts.ensures.lines) (ap is_ok c.in_ok-put_cuts.was) c.put_tree.ensures))
