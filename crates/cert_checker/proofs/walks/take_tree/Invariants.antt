use Rattle.std.proofs.Common.{◌≡◌, drop, map}
use Rattle.cert_spec.specs.Text.{tree_items}
use Rattle.hub_model.specs.Lines.{tree_line_of}
use Rattle.cert_checker.proofs.Walking.{HasFront}
use Rattle.cert_checker.proofs.Holding.{tree_left}
use Rattle.cert_checker.proofs.walks.take_tree.Given as goal

abbrev pub invariant-loop-line : goal.invariant-loop-line
invariant-loop-line l = record {
  front : HasFront l.fn.checks l.checks (tree_left (drop l.line-index l.lines)) (tree_items (map tree_line_of l.lines));
  instance : l.checks.instance ≡ l.fn.checks.instance;
}
