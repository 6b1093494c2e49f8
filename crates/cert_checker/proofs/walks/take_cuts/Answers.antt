use Rattle.std.proofs.Common.{◌+◌, drop, flat_map, zip, refl, sym, ap, subst, ◌∙◌, arith}
use Rattle.std.proofs.lemmas.List.{drop_all}
use Rattle.std.proofs.lemmas.List.Elements.{All-get_or}
use Rattle.std.proofs.lemmas.List.FromFn.{length-enumerate_from}
use Rattle.hub_spec.specs.Ranges.{IsCutInRange}
use Rattle.cert_spec.specs.Text.{cut_items_as, cut_items}
use Rattle.cert_scan.specs.Versions.{version_number}
use Rattle.cert_format.proofs.CutLines.{numbered, length-marked, marked_cut_at}
use Rattle.cert_format.proofs.Putting.{proved_at}
use Rattle.cert_checker.specs.Walks.{SaysPart}
use Rattle.cert_checker.proofs.Walking.{front_start, front_more, front_may, front_end, next_by}
use Rattle.cert_checker.proofs.walks.take_cuts.Goals as goal

pub loop-x-init : goal.loop-x-init
loop-x-init g c = record {
  front = front_start c.args.checks.now (flat_map (cut_items (version_number c.args.version) c.args.n) (numbered (zip c.args.cuts.now c.args.marks.now)));
  instance = refl;
}

pub take_cut-requires-clause-size : goal.take_cut-requires-clause-size
take_cut-requires-clause-size g c κs within = c.requires.size ∙ ap (λ i. i.now.size) (sym c.loop-x.invariant.instance)

pub take_cut-requires-clause-cut : goal.take_cut-requires-clause-cut
take_cut-requires-clause-cut g c κs within =
    subst (IsCutInRange c.args.n) (sym c.index-cuts-x.is) (All-get_or (IsCutInRange c.args.n) c.args.cuts.now c.loop-x.x c.index-cuts-x.result (omega arith) c.requires.cuts)

pub take_cut-requires-clause-part : goal.take_cut-requires-clause-part
take_cut-requires-clause-part g c κs within =
    let P = SaysPart (version_number c.args.version) in
    subst P (sym c.index-cuts-x.is) (All-get_or P c.args.cuts.now c.loop-x.x c.index-cuts-x.result (omega arith) c.requires.parts)

pub take_cut-requires-clause-proved : goal.take_cut-requires-clause-proved
take_cut-requires-clause-proved g c κs within =
    proved_at c.args.n c.args.marks.now c.loop-x.x c.index-marks-x.result (omega (arith, c.requires.one_for_each)) c.index-marks-x.is c.requires.proved

pub take_cut-requires-clause-may : goal.take_cut-requires-clause-may
take_cut-requires-clause-may g c κs within =
    let v = version_number c.args.version in
    let n = c.args.n in
    let cuts = c.args.cuts.now in
    let marks = c.args.marks.now in
    let x = c.loop-x.x in
    let cut = c.index-cuts-x.result in
    let mark = c.index-marks-x.result in
    let all = numbered (zip cuts marks) in
    let lines = cut_items_as v n (x + 1) cut mark in
    let e = next_by (cut_items v n) all x (0, (cut, mark)) lines
    (omega (arith, length-enumerate_from 1 (zip cuts marks), length-marked cuts marks c.requires.one_for_each))
    (ap (cut_items v n) (marked_cut_at cuts marks x cut mark c.requires.one_for_each (omega arith) c.index-cuts-x.is c.index-marks-x.is)) in
    front_may lines (flat_map (cut_items v n) (drop (x + 1) all)) c.requires.may c.loop-x.invariant.front e

pub loop-x-preserved : goal.loop-x-preserved
loop-x-preserved g c =
    let v = version_number c.args.version in
    let n = c.args.n in
    let cuts = c.args.cuts.now in
    let marks = c.args.marks.now in
    let x = c.loop-x.x in
    let cut = c.index-cuts-x.result in
    let mark = c.index-marks-x.result in
    let all = numbered (zip cuts marks) in
    let lines = cut_items_as v n (x + 1) cut mark in
    let e = next_by (cut_items v n) all x (0, (cut, mark)) lines
    (omega (arith, length-enumerate_from 1 (zip cuts marks), length-marked cuts marks c.requires.one_for_each))
    (ap (cut_items v n) (marked_cut_at cuts marks x cut mark c.requires.one_for_each (omega arith) c.index-cuts-x.is c.index-marks-x.is)) in
    record {
      front = front_more lines (flat_map (cut_items v n) (drop (x + 1) all)) c.loop-x.invariant.front e c.in_ok-take_cut.ensures.taken;
      instance = c.in_ok-take_cut.ensures.instance ∙ c.loop-x.invariant.instance;
    }

pub returns-clause-taken : goal.returns-clause-taken
returns-clause-taken g c =
    let cuts = c.args.cuts.now in
    let marks = c.args.marks.now in
    let all = numbered (zip cuts marks) in
    front_end c.loop-x.invariant.front
    (ap (flat_map (cut_items (version_number c.args.version) c.args.n)) (drop_all c.loop-x.x all
    (omega (arith, length-enumerate_from 1 (zip cuts marks), length-marked cuts marks c.requires.one_for_each))))
