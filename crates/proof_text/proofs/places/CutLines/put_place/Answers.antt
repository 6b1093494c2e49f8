use Rattle.std.proofs.Common.{flat_map}
use Rattle.cert_spec.specs.Text.{line_bytes}
use Rattle.cert_scan.specs.Versions.{version_number}
use Rattle.cert_format.proofs.Following.{as_text}
use Rattle.proof_text.specs.Texts.{origin_items}
use Rattle.proof_text.proofs.places.CutLines.put_place.Goals as goal

pub returns-clause-lines : goal.returns-clause-lines
returns-clause-lines g c =
    let l = c.args.self.now in
    as_text (λ t. flat_map line_bytes (origin_items (version_number l.version) (c.instance.ensures.value t) (c.cut_number-number.ensures t) (c.kept-kept.ensures.value t) (c.origin-i.ensures.value t)))
    c.put_cut_origin.ensures.lines
