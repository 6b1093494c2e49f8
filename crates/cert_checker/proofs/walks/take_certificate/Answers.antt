use Rattle.std.proofs.Common.{ℕ, ◌*◌, List, ◌++◌, length, All, ap, sym, subst, ◌∙◌, arith}
use Rattle.std.proofs.lemmas.List.{length-map}
use Rattle.hub_spec.specs.Cuts.{Cut}
use Rattle.hub_spec.specs.Trees.{TreeLine}
use Rattle.hub_spec.specs.Ranges.{IsCutInRange}
use Rattle.hub_spec.proofs.Preorders.{length-preorder}
use Rattle.hub_model.specs.Lines.{tree_line_of}
use Rattle.cert_spec.proofs.ByLines.{parts_said}
use Rattle.cert_scan.specs.Versions.{version_number}
use Rattle.cert_format.proofs.Putting.{proved_marks}
use Rattle.cert_conditions.specs.ListLines.{MayTakeLines, TakesLines}
use Rattle.cert_conditions.specs.declared.checks.Checks.{Checks}
use Rattle.cert_checker.specs.Walks.{SaysPart, HasSmallDenominator}
use Rattle.cert_checker.proofs.Walking.{may_first, may_then, then_takes}
use Rattle.cert_checker.proofs.Holding.{small_denominators}
use Rattle.cert_checker.proofs.WholeLines.{Parts, ArePartsOf, top_lines, cuts_lines, tree_lines, behind_top, parts_may, whole_taken}
use Rattle.cert_checker.proofs.walks.take_certificate.Goals as goal
use Rattle.cert_checker.proofs.walks.take_certificate.Given.{Over}
use Rattle.cert_checker.proofs.walks.take_certificate.Goals.{After-tree-tree}

-- what the walk has of the certificate
abbrev parts : (g : Over) → After-tree-tree g → Parts
parts g c = record {
  heading = c.heading-heading.result.now;
  version = version_number c.version-version.result;
  size = c.size-n.result;
  plan = c.plan-plan.result.now;
  cuts = c.cuts-cuts.result.now;
  marks = c.marks-marks.result.now;
  tree = c.tree-tree.result.now;
}

are_parts : (g : Over) (c : After-tree-tree g) → ArePartsOf c.args.certificate.now (parts g c)
are_parts g c = record {
  heading_is = c.heading-heading.ensures.value;
  version_is = c.version-version.ensures;
  size_is = c.size-n.ensures.value;
  plan_is = c.plan-plan.ensures.value;
  cuts_are = c.cuts-cuts.ensures.value;
  marks_are = c.marks-marks.ensures.value;
  tree_is = c.tree-tree.ensures.value;
}

may_come : (g : Over) (c : After-tree-tree g) → MayTakeLines c.args.checks.now (top_lines (parts g c) ++ behind_top (parts g c))
may_come g c = parts_may c.args.checks.now c.args.certificate.now (parts g c) (are_parts g c) c.size-n.ensures.in_range c.requires.none

-- ---- the top

pub take_top-requires-clause-some : goal.take_top-requires-clause-some
take_top-requires-clause-some g c = omega (arith, c.heading-heading.ensures.value.size, c.heading-heading.ensures.in_range.proof.some_node)

pub take_top-requires-clause-few : goal.take_top-requires-clause-few
take_top-requires-clause-few g c = omega (arith, c.heading-heading.ensures.value.size, c.heading-heading.ensures.in_range.proof.size)

pub take_top-requires-clause-whole : goal.take_top-requires-clause-whole
take_top-requires-clause-whole g c =
    ap (λ plan. length plan.routes) c.plan-plan.ensures.value ∙ c.plan-plan.ensures.in_range.proof.one_route_each
    ∙ ap (λ (n : ℕ). n * n) (sym c.heading-heading.ensures.value.size)

pub take_top-requires-clause-may : goal.take_top-requires-clause-may
take_top-requires-clause-may g c =
    let t = (goal.at.take_top-requires-clause-may g c).After-tree-tree in
    may_first (top_lines (parts g t)) (behind_top (parts g t)) (may_come g t)

-- ---- the cuts

-- where the top came, the rest may
behind_may : (g : Over) (c : After-tree-tree g) {now : Checks} → TakesLines c.args.checks.now (top_lines (parts g c)) now
    → MayTakeLines now (behind_top (parts g c))
behind_may g c taken = may_then (top_lines (parts g c)) (behind_top (parts g c)) (may_come g c) taken

pub take_cuts-requires-clause-size : goal.take_cuts-requires-clause-size
take_cuts-requires-clause-size g c κs within = c.size-n.ensures.value ∙ c.requires.size ∙ ap (λ i. i.now.size) (sym c.in_ok-take_top.ensures.instance)

pub take_cuts-requires-clause-some : goal.take_cuts-requires-clause-some
take_cuts-requires-clause-some g c κs within = omega (arith, c.size-n.ensures.value, c.size-n.ensures.in_range.proof.some_node)

pub take_cuts-requires-clause-nodes : goal.take_cuts-requires-clause-nodes
take_cuts-requires-clause-nodes g c κs within = omega (arith, c.size-n.ensures.value, c.size-n.ensures.in_range.proof.size)

pub take_cuts-requires-clause-few : goal.take_cuts-requires-clause-few
take_cuts-requires-clause-few g c κs within = omega (arith, ap length c.cuts-cuts.ensures.value, c.cuts-cuts.ensures.in_range.proof.cut_count)

pub take_cuts-requires-clause-cuts : goal.take_cuts-requires-clause-cuts
take_cuts-requires-clause-cuts g c κs within =
    let n = c.size-n.result in
    subst (λ (cs : List Cut). All (IsCutInRange n) cs) (sym c.cuts-cuts.ensures.value)
    (subst (λ (m : ℕ). All (IsCutInRange m) c.args.certificate.now.proof.cuts) (sym c.size-n.ensures.value) c.cuts-cuts.ensures.in_range.proof.cuts)

pub take_cuts-requires-clause-parts : goal.take_cuts-requires-clause-parts
take_cuts-requires-clause-parts g c κs within =
    let k = c.args.certificate.now in
    subst (λ (cs : List Cut). All (SaysPart (version_number c.version-version.result)) cs) (sym c.cuts-cuts.ensures.value)
    (subst (λ (v : ℕ). All (SaysPart v) k.proof.cuts) (sym c.version-version.ensures) (parts_said k c.cuts-cuts.ensures.in_range))

pub take_cuts-requires-clause-one_for_each : goal.take_cuts-requires-clause-one_for_each
take_cuts-requires-clause-one_for_each g c κs within =
    ap length c.marks-marks.ensures.value ∙ c.marks-marks.ensures.in_range.one_for_each ∙ sym (ap length c.cuts-cuts.ensures.value)

pub take_cuts-requires-clause-proved : goal.take_cuts-requires-clause-proved
take_cuts-requires-clause-proved g c κs within =
    proved_marks c.size-n.result c.args.certificate.now c.marks-marks.result.now c.marks-marks.ensures.in_range c.marks-marks.ensures.value c.size-n.ensures.value

pub take_cuts-requires-clause-may : goal.take_cuts-requires-clause-may
take_cuts-requires-clause-may g c κs within =
    let t = (goal.at.take_cuts-requires-clause-may g c).After-tree-tree in
    may_first (cuts_lines (parts g t)) (tree_lines (parts g t)) (behind_may g t c.in_ok-take_top.ensures.taken)

-- ---- the tree

pub take_tree-requires-clause-few : goal.take_tree-requires-clause-few
take_tree-requires-clause-few g c =
    let k = c.args.certificate.now in
    omega (
      arith,
      length-map c.tree-tree.result.now tree_line_of,
      ap length c.tree-tree.ensures.value,
      length-preorder k.proof.tree,
      c.tree-tree.ensures.in_range.proof.line_count,
    )

pub take_tree-requires-clause-lines : goal.take_tree-requires-clause-lines
take_tree-requires-clause-lines g c =
    let k = c.args.certificate.now in
    subst (λ (ls : List TreeLine). All HasSmallDenominator ls) (sym c.tree-tree.ensures.value)
    (small_denominators k.proof.size _ c.tree-tree.ensures.in_range.proof.tree)

pub take_tree-requires-clause-may : goal.take_tree-requires-clause-may
take_tree-requires-clause-may g c =
    let t = (goal.at.take_tree-requires-clause-may g c).After-tree-tree in
    may_then (cuts_lines (parts g t)) (tree_lines (parts g t)) (behind_may g t c.in_ok-take_top.ensures.taken) c.in_ok-take_cuts.ensures.taken

pub returns-clause-taken : goal.returns-clause-taken
returns-clause-taken g c =
    let t = (goal.at.returns-clause-taken g c).After-tree-tree in
    let s = parts g t in
    whole_taken c.args.checks.now c.take_tree.new.checks c.args.certificate.now s (are_parts g t) c.size-n.ensures.in_range c.requires.none
    (then_takes (top_lines s) (behind_top s) c.in_ok-take_top.ensures.taken
    (then_takes (cuts_lines s) (tree_lines s) c.in_ok-take_cuts.ensures.taken c.in_ok-take_tree.ensures.taken))
