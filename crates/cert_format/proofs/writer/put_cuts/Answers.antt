use Rattle.std.proofs.Common.{ap, is_ok, is_err, zip, arith}
use Rattle.std.proofs.lemmas.List.FromFn.{length-enumerate_from}
use Rattle.cert_scan.specs.Versions.{version_number}
use Rattle.cert_format.proofs.CutLines.{numbered, length-marked, marked_at}
use Rattle.cert_format.proofs.Putting.{cut_texts, whole_at, proved_at}
use Rattle.cert_format.proofs.Following.{as_text, list_more, list_stop, list_end}
use Rattle.cert_format.proofs.writer.put_cuts.Goals as goal

pub returns-in_err-put_whole_cut : goal.returns-in_err-put_whole_cut
returns-in_err-put_whole_cut g c =
    let v = version_number c.args.version in
    let cuts = c.args.cuts.now in
    let marks = c.args.marks.now in
    as_text (cut_texts v c.args.n (numbered (zip cuts marks)))
    (list_stop (0, (c.index-cuts-x.result, c.index-marks-x.result)) c.loop-x.invariant c.put_whole_cut.ensures
    (ap is_err c.in_err-put_whole_cut.was) c.from_residual.ensures.0
    (omega (arith, length-enumerate_from 1 (zip cuts marks), length-marked cuts marks c.requires.one_for_each))
    (marked_at v c.args.n cuts marks c.loop-x.x c.index-cuts-x.result c.index-marks-x.result c.requires.one_for_each (omega arith)
    c.index-cuts-x.is c.index-marks-x.is))

pub loop-x-preserved : goal.loop-x-preserved
loop-x-preserved g c =
    let v = version_number c.args.version in
    let cuts = c.args.cuts.now in
    let marks = c.args.marks.now in
    list_more (0, (c.index-cuts-x.result, c.index-marks-x.result)) c.loop-x.invariant c.put_whole_cut.ensures (ap is_ok c.in_ok-put_whole_cut.was)
    (omega (arith, length-enumerate_from 1 (zip cuts marks), length-marked cuts marks c.requires.one_for_each))
    (marked_at v c.args.n cuts marks c.loop-x.x c.index-cuts-x.result c.index-marks-x.result c.requires.one_for_each (omega arith)
    c.index-cuts-x.is c.index-marks-x.is)

pub returns : goal.returns
returns g c =
    let cuts = c.args.cuts.now in
    let marks = c.args.marks.now in
    as_text (cut_texts (version_number c.args.version) c.args.n (numbered (zip cuts marks)))
    (list_end c.loop-x.invariant (omega (arith, length-enumerate_from 1 (zip cuts marks), length-marked cuts marks c.requires.one_for_each)))

pub put_whole_cut-requires-clause-whole : goal.put_whole_cut-requires-clause-whole
put_whole_cut-requires-clause-whole g c =
    whole_at c.args.n c.args.cuts.now c.loop-x.x c.index-cuts-x.result (omega arith) c.index-cuts-x.is c.requires.whole

pub put_whole_cut-requires-clause-proved : goal.put_whole_cut-requires-clause-proved
put_whole_cut-requires-clause-proved g c =
    proved_at c.args.n c.args.marks.now c.loop-x.x c.index-marks-x.result (omega (arith, c.requires.one_for_each)) c.index-marks-x.is c.requires.proved
