use Rattle.std.proofs.Common.{◌≡◌, ◌∷◌, drop, flat_map}
use Rattle.std.specs.List.{range_with_len}
use Rattle.cert_spec.specs.Lines.{says_cut}
use Rattle.cert_spec.specs.Text.{part_said, dual_items}
use Rattle.cert_scan.specs.Versions.{version_number}
use Rattle.cert_checker.proofs.Walking.{HasFront}
use Rattle.cert_checker.proofs.Holding.{row_lines}
use Rattle.cert_checker.proofs.walks.take_unmarked.Given as goal

abbrev pub invariant-loop-i : goal.invariant-loop-i
invariant-loop-i l = (let v = version_number l.version in record {
  front : HasFront l.fn.checks l.checks (flat_map (row_lines v l.n l.cut.duals) (drop l.i (range_with_len 0 l.n)))
      (says_cut l.x (part_said v l.cut.part) ∷ dual_items v l.n l.cut.duals);
  instance : l.checks.instance ≡ l.fn.checks.instance;
})
