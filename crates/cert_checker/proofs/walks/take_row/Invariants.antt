use Rattle.std.proofs.Common.{◌≡◌, ◌≤◌, ◌-◌, length, drop}
use Rattle.cert_scan.specs.Versions.{version_number}
use Rattle.cert_format.specs.DualItems.{row_items_from, row_items}
use Rattle.cert_checker.proofs.Walking.{HasFront}
use Rattle.cert_checker.proofs.walks.take_row.Given as goal

abbrev pub invariant-loop-j : goal.invariant-loop-j
invariant-loop-j l = (let v = version_number l.version in record {
  within : l.j ≤ length l.row;
  front : HasFront l.fn.checks l.checks (row_items_from v l.n l.i l.j (drop l.j l.row)) (row_items v l.n l.i l.row);
  instance : l.checks.instance ≡ l.fn.checks.instance;
})

abbrev pub decreases-loop-j : goal.decreases-loop-j
decreases-loop-j l = length l.row - l.j
