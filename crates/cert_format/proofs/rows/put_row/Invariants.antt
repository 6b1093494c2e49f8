use Rattle.std.proofs.Common.{◌≤◌, ◌-◌, length, drop, flat_map}
use Rattle.cert_spec.specs.Text.{line_bytes}
use Rattle.cert_scan.specs.Versions.{version_number}
use Rattle.cert_format.specs.DualItems.{row_items_from, row_items}
use Rattle.cert_format.proofs.Following.{HasPutFront}
use Rattle.cert_format.proofs.rows.put_row.Given as goal

abbrev pub invariant-loop-j : goal.invariant-loop-j
invariant-loop-j g l = (let s = g.K.Sink in record {
  within : l.j ≤ length l.row;
  put : HasPutFront s.taken s.faults l.initial.sink l.sink l.initial.buffer l.buffer
      (flat_map line_bytes (row_items_from (version_number l.version) l.n l.i l.j (drop l.j l.row)))
      (flat_map line_bytes (row_items (version_number l.version) l.n l.i l.row));
})

abbrev pub decreases-loop-j : goal.decreases-loop-j
decreases-loop-j g l = length l.row - l.j
