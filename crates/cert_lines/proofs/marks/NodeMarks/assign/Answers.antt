use Rattle.std.proofs.Common.{ℕ, List, Contains, ap, subst, ◌∙◌, arith}
use Rattle.std.proofs.Common.{get_or}
use Rattle.hub_spec.specs.Sums.{with_node}
use Rattle.cert_lines.proofs.Marking.{next_is_new, next_is_last}
use Rattle.cert_lines.proofs.marks.NodeMarks.assign.Goals as goal

pub add-requires-clause-new : goal.add-requires-clause-new
add-requires-clause-new c there =
    next_is_new c.args.nodes.now c.loop-i.i c.requires.ascend (omega arith)
    (subst (λ (ks : List ℕ). Contains ks (get_or c.args.nodes.now c.loop-i.i 0)) c.loop-i.invariant.nodes there)

pub loop-i-preserved : goal.loop-i-preserved
loop-i-preserved c = record {
  size = omega (arith, c.add.ensures.size, c.loop-i.invariant.size);
  nodes = c.add.ensures.nodes ∙ ap (λ (ks : List ℕ). with_node (get_or c.args.nodes.now c.loop-i.i 0) ks) c.loop-i.invariant.nodes
      ∙ next_is_last c.args.nodes.now c.loop-i.i c.requires.ascend (omega arith);
}
