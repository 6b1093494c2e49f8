use Rattle.std.proofs.Common.{ap, is_ok, is_err, arith}
use Rattle.std.proofs.lemmas.List.FromFn.{length-range_with_len}
use Rattle.cert_scan.specs.Versions.{version_number}
use Rattle.cert_format.proofs.DualRows.{row_text, rows_text}
use Rattle.cert_format.proofs.Following.{as_text, list_more, list_stop, list_end}
use Rattle.cert_format.proofs.rows.put_duals.Goals as goal

pub returns-in_err-put_row : goal.returns-in_err-put_row
returns-in_err-put_row g c =
    as_text (rows_text (version_number c.args.version) c.args.n c.args.cut.now.duals c.requires.some c.requires.whole)
    (list_stop 0 c.loop-i.invariant c.put_row.ensures (ap is_err c.in_err-put_row.was) c.from_residual.ensures.0
    (omega (arith, length-range_with_len 0 c.args.n))
    (row_text (version_number c.args.version) c.args.n c.args.cut.now.duals c.loop-i.i c.of-row.result c.of-row.ensures.row (omega arith)))

pub loop-i-preserved : goal.loop-i-preserved
loop-i-preserved g c =
    list_more 0 c.loop-i.invariant c.put_row.ensures (ap is_ok c.in_ok-put_row.was) (omega (arith, length-range_with_len 0 c.args.n))
    (row_text (version_number c.args.version) c.args.n c.args.cut.now.duals c.loop-i.i c.of-row.result c.of-row.ensures.row (omega arith))

pub returns : goal.returns
returns g c =
    as_text (rows_text (version_number c.args.version) c.args.n c.args.cut.now.duals c.requires.some c.requires.whole)
    (list_end c.loop-i.invariant (omega (arith, length-range_with_len 0 c.args.n)))
