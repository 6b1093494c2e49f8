use Rattle.std.proofs.Common.{◌≡◌, ◌∷◌}
use Rattle.cert_spec.specs.Lines.{says_marked}
use Rattle.cert_spec.specs.Text.{proved_items}
use Rattle.cert_format.proofs.MarkedLines.{proved_from}
use Rattle.cert_checker.proofs.Walking.{HasFront}
use Rattle.cert_checker.proofs.walks.take_marked.Given as goal

abbrev pub invariant-loop-t : goal.invariant-loop-t
invariant-loop-t l = record {
  front : HasFront l.fn.checks l.checks (proved_from l.n l.t l.cut.duals l.mark.proofs)
      (says_marked l.x l.cut.part l.mark.hubs ∷ proved_items l.n 0 l.cut.duals l.mark.proofs);
  instance : l.checks.instance ≡ l.fn.checks.instance;
}
