use Rattle.std.proofs.Common.{Option, flat_map, sym, ap}
use Rattle.core_spec.specs.CoreCuts.{Mark}
use Rattle.cert_spec.specs.Text.{line_bytes, cut_items_as}
use Rattle.cert_scan.specs.Versions.{version_number}
use Rattle.cert_format.proofs.Following.{as_text}
use Rattle.cert_format.proofs.writer.put_whole_cut.Goals as goal

pub returns-in-None : goal.returns-in-None
returns-in-None g c =
    as_text (ap (λ (m : Option Mark). flat_map line_bytes (cut_items_as (version_number c.args.version) c.args.n c.args.x c.args.cut.now m)) (sym c.in-None.is))
    c.put_unmarked.ensures

pub returns-in-Some : goal.returns-in-Some
returns-in-Some g c =
    as_text (ap (λ (m : Option Mark). flat_map line_bytes (cut_items_as (version_number c.args.version) c.args.n c.args.x c.args.cut.now m)) (sym c.in-Some.is))
    c.put_marked.ensures
