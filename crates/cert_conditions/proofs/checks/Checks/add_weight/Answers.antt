use Rattle.std.proofs.Common.{◌≡◌, ℕ, List, None, refl, arith, ap, subst, ◌∙◌}
use Rattle.std.proofs.lemmas.Grind.{common_steps}
use Rattle.cert_lines.specs.Tallies.{IsMultipleOf, IsAdded}
use Rattle.cert_conditions.specs.Sums.{CutTally, numbered}
use Rattle.cert_conditions.specs.Steps.{added}
use Rattle.cert_conditions.proofs.checks.Checks.add_weight.Goals as goal

pub returns : goal.returns
returns c =
    let s = c.args.self.now in
    let t = numbered s.cuts c.args.c in
    let part : c.part-part.result ≡ t.part = c.part-part.ensures.part ∙ ap (λ (t : CutTally). t.part) c.numbered-sums.ensures in
    let total : c.total.result ≡ t.total = c.total.ensures ∙ ap (λ (t : CutTally). t.total) c.numbered-sums.ensures in
    let loads : c.loads.result.now ≡ t.loads = c.loads.ensures ∙ ap (λ (t : CutTally). t.loads) c.numbered-sums.ensures in
    let is : IsAdded s.leaf c.args.w t.part t.total t.loads c.add.new.self =
    subst (λ (x : ℕ). IsAdded s.leaf c.args.w x t.total t.loads c.add.new.self) part
    (subst (λ (x : ℕ). IsAdded s.leaf c.args.w c.part-part.result x t.loads c.add.new.self) total
    (subst (λ (l : List ℕ). IsAdded s.leaf c.args.w c.part-part.result c.total.result l c.add.new.self) loads c.add.ensures)) in
    let multiple : IsMultipleOf t.part c.args.w = subst (λ (x : ℕ). IsMultipleOf x c.args.w) part (c.is_multiple.ensures.0 c.if-not-is_multiple.false) in
    let none : s.leaf_failure ≡ None = grind (arith, common_steps) in
    added c.add.new.self (omega (arith, c.len.ensures)) multiple none (omega arith) is refl
