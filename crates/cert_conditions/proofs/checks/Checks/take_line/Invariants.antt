use Rattle.std.proofs.Common.{◌≡◌, ◌≤◌, List, [], ◌∷◌, ◌++◌}
use Rattle.cert_spec.specs.Lines.{Item as Line}
use Rattle.cert_conditions.specs.Taken.{HasTaken}
use Rattle.cert_conditions.specs.ListLines.{line_of, open_items, CanLead, HasLines}
use Rattle.cert_conditions.proofs.ListLines.{given_at}
use Rattle.cert_conditions.proofs.checks.Checks.take_line.Given as goal

abbrev pub invariant-loop-at : goal.invariant-loop-at
invariant-loop-at l = record {
  within : l.at ≤ open_items (line_of l.line);
  taken : (lines : List Line) → HasLines lines l.fn.self → CanLead (lines ++ line_of l.line ∷ [])
      → HasTaken (given_at lines (line_of l.line) l.at) l.self;
  instance : l.self.instance ≡ l.fn.self.instance;
}
