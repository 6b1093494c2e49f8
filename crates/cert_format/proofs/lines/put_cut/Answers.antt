use Rattle.std.proofs.Common.{◌≡◌, ℕ, ◌⊎◌, inl, inr, Some, None, refl, sym, ap, ◌∙◌}
use Rattle.cert_spec.specs.Lines.{says_cut}
use Rattle.cert_spec.specs.Text.{line_bytes, part_said}
use Rattle.cert_scan.specs.Versions.{version_number}
use Rattle.cert_scan.specs.declared.items.Version.{Version}
use Rattle.cert_scan.specs.declared.items.Version.TheVariants.{Second, Third}
use Rattle.cert_format.proofs.Written.{line_of}
use Rattle.cert_format.proofs.Following.{as_text}
use Rattle.cert_format.proofs.lines.put_cut.Goals as goal

-- a later version says the part
later_said : (version : Version) (part : ℕ) → (version ≡ Second) ⊎ (version ≡ Third) → Some part ≡ part_said (version_number version) part
later_said version part (inl e) = ap (λ (v : Version). part_said (version_number v) part) (sym e)
later_said version part (inr e) = ap (λ (v : Version). part_said (version_number v) part) (sym e)

pub returns-in-First : goal.returns-in-First
returns-in-First g c =
    as_text (line_of (says_cut c.args.x None) refl
    ∙ ap (λ (v : Version). line_bytes (says_cut c.args.x (part_said (version_number v) c.args.part))) (sym c.in-First.is))
    c.put_line.ensures

pub returns-in-Second : goal.returns-in-Second
returns-in-Second g c =
    as_text (line_of (says_cut c.args.x (Some c.args.part)) refl
    ∙ ap (λ said. line_bytes (says_cut c.args.x said)) (later_said c.args.version c.args.part c.in-Second.is))
    c.put_line-in-Second.ensures
