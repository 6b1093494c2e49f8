use Rattle.std.proofs.Common.{◌+◌, drop, flat_map, sym, ap, is_ok, is_err, arith}
use Rattle.cert_spec.specs.Text.{line_bytes}
use Rattle.cert_scan.specs.Versions.{version_number}
use Rattle.cert_format.specs.DualItems.{row_items_from}
use Rattle.cert_format.proofs.DualRows.{next_stated, no_lines}
use Rattle.cert_format.proofs.Following.{front_more, front_stop, front_end}
use Rattle.cert_format.proofs.rows.put_row.Goals as goal

pub returns-in_err-put_stated_dual : goal.returns-in_err-put_stated_dual
returns-in_err-put_stated_dual g c =
    front_stop _ c.loop-j.invariant.put c.put_stated_dual.ensures (ap is_err c.in_err-put_stated_dual.was) c.from_residual.ensures.0
    (next_stated (version_number c.args.version) c.args.n c.args.i c.loop-j.j c.run_at-run.result c.args.row.now c.dual-dual.result
    c.requires.whole c.run_at-run.ensures c.dual-dual.ensures)

pub loop-j-preserved : goal.loop-j-preserved
loop-j-preserved g c =
    let v = version_number c.args.version in
    let after = c.loop-j.j + c.run_at-run.result in
    record {
      within = c.run_at-run.ensures.equal.within;
      put = front_more (flat_map line_bytes (row_items_from v c.args.n c.args.i after (drop after c.args.row.now)))
          c.loop-j.invariant.put c.put_stated_dual.ensures (ap is_ok c.in_ok-put_stated_dual.was)
          (next_stated v c.args.n c.args.i c.loop-j.j c.run_at-run.result c.args.row.now c.dual-dual.result
          c.requires.whole c.run_at-run.ensures c.dual-dual.ensures);
    }

pub returns : goal.returns
returns g c =
    front_end c.loop-j.invariant.put
    (ap (flat_map line_bytes) (sym (no_lines (version_number c.args.version) c.args.n c.args.i c.loop-j.j c.args.row.now (omega arith))))
