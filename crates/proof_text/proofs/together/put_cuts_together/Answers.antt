use Rattle.std.proofs.Common.{◌≡◌, ℕ, ◌+◌, ◌-◌, ◌≤◌, flat_map, refl, ap, ◌∙◌, is_ok, is_err, arith}
use Rattle.cert_spec.specs.Text.{line_bytes}
use Rattle.cert_scan.specs.Versions.{version_number}
use Rattle.cert_format.proofs.Following.{front_start, front_more, front_stop, front_end}
use Rattle.proof_text.specs.Places.{place_count}
use Rattle.proof_text.specs.Texts.{stretch_items}
use Rattle.proof_text.proofs.PlaceLines.{all_places, stretch_and_rest}
use Rattle.proof_text.proofs.together.put_cuts_together.Goals as goal

pub loop-first-init : goal.loop-first-init
loop-first-init g c =
    let l = c.args.lines.now in
    let v = version_number l.version in
    let p = l.tables.now in
    let cuts = l.cuts.now.cuts in
    let all : place_count l - 0 ≡ place_count l = omega arith in
    record {
      lender = c.requires.lender;
      within = omega arith;
      put = front_start c.args.sink.now c.args.buffer.now
          (ap (λ (k : ℕ). flat_map line_bytes (stretch_items v p cuts 0 k)) all ∙ all_places v p cuts c.requires.lines.some c.requires.lines.fit);
    }

pub returns-in_err-put_stretch-clause-lines : goal.returns-in_err-put_stretch-clause-lines
returns-in_err-put_stretch-clause-lines g c =
    let l = c.args.lines.now in
    let first = c.loop-first.first in
    let count = c.min-count.result in
    let few : count ≤ place_count l - first = omega (arith, c.min-count.ensures, c.places-places.ensures) in
    front_stop _ c.loop-first.invariant.put c.put_stretch.ensures.lines (ap is_err c.in_err-put_stretch.was) c.from_residual.ensures.0
    (stretch_and_rest (version_number l.version) l.tables.now l.cuts.now.cuts first count (first + count) (place_count l - (first + count))
    (place_count l - first) refl (omega (arith, few)))

pub loop-first-preserved : goal.loop-first-preserved
loop-first-preserved g c =
    let l = c.args.lines.now in
    let v = version_number l.version in
    let first = c.loop-first.first in
    let count = c.min-count.result in
    let left = place_count l - (first + count) in
    let few : count ≤ place_count l - first = omega (arith, c.min-count.ensures, c.places-places.ensures) in
    record {
      lender = c.put_stretch.ensures.lender;
      within = omega (arith, few, c.loop-first.invariant.within);
      put = front_more (flat_map line_bytes (stretch_items v l.tables.now l.cuts.now.cuts (first + count) left))
          c.loop-first.invariant.put c.put_stretch.ensures.lines (ap is_ok c.in_ok-put_stretch.was)
          (stretch_and_rest v l.tables.now l.cuts.now.cuts first count (first + count) left (place_count l - first) refl (omega (arith, few)));
    }

pub returns-clause-lines : goal.returns-clause-lines
returns-clause-lines g c =
    let l = c.args.lines.now in
    let none : 0 ≡ place_count l - c.loop-first.first = omega (arith, c.loop-first-test.false, c.places-places.ensures) in
    front_end c.loop-first.invariant.put
    (ap (λ (k : ℕ). flat_map line_bytes (stretch_items (version_number l.version) l.tables.now l.cuts.now.cuts c.loop-first.first k)) none)
