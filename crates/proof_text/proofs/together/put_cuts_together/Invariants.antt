use Rattle.std.proofs.Common.{◌≤◌, ◌-◌, flat_map}
use Rattle.cert_spec.specs.Text.{line_bytes}
use Rattle.cert_scan.specs.Versions.{version_number}
use Rattle.cert_format.proofs.Following.{HasPutFront}
use Rattle.dual_lender.specs.Lenders.{IsLenderFor}
use Rattle.proof_text.specs.Places.{place_count}
use Rattle.proof_text.specs.Texts.{stretch_items, kept_items}
use Rattle.proof_text.proofs.together.put_cuts_together.Given as goal

abbrev pub invariant-loop-first : goal.invariant-loop-first
invariant-loop-first g l =
    let s = g.K.Sink in
    let v = version_number l.lines.version in
    let p = l.lines.tables.now in
    let cuts = l.lines.cuts.now.cuts in
    record {
      lender : IsLenderFor p l.lender;
      within : l.first ≤ place_count l.lines;
      put : HasPutFront s.taken s.faults l.initial.sink l.sink l.initial.buffer l.buffer
          (flat_map line_bytes (stretch_items v p cuts l.first (place_count l.lines - l.first)))
          (flat_map line_bytes (kept_items v p cuts));
    }

abbrev pub decreases-loop-first : goal.decreases-loop-first
decreases-loop-first g l = l.places - l.first
