use Rattle.std.proofs.Common.{ap, flat_map, ◌∙◌}
use Rattle.std.specs.List.{range_with_len}
use Rattle.cert_spec.specs.Text.{line_bytes}
use Rattle.cert_format.proofs.Following.{as_text}
use Rattle.cert_format.proofs.Joined.{texts_joined}
use Rattle.proof_text.specs.Places.{items_of}
use Rattle.proof_text.proofs.Ranges.{stretch_of}
use Rattle.proof_text.proofs.together.put_stretch.Goals as goal

pub returns-in-Ok-clause-lines : goal.returns-in-Ok-clause-lines
returns-in-Ok-clause-lines g c =
    let s = c.args.stretch.now in
    let items = items_of s.lines.now in
    as_text
    (ap (flat_map (λ text. text.items)) c.deref.ensures.value
    ∙ stretch_of (λ text. text.items) (λ t. flat_map line_bytes (items t)) s.first s.count c.in-Ok.texts.items c.in-Ok.ensures
    ∙ texts_joined items (range_with_len s.first s.count))
    c.put_texts.ensures
