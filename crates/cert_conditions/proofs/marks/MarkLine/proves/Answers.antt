use Rattle.std.proofs.Common.{ℕ, ◌≤◌, All, sym, subst, ◌∙◌, arith}
use Rattle.std.proofs.lemmas.List.{with_items_is}
use Rattle.std.proofs.lemmas.List.Elements.{All-from_get_or}
use Rattle.core_lines.specs.Tests.{most_amount}
use Rattle.cert_conditions.proofs.Loads.{dual_value_short}
use Rattle.cert_conditions.proofs.marks.MarkLine.proves.Goals as goal

pub proves-requires-clause-values : goal.proves-requires-clause-values
proves-requires-clause-values c =
    let row = c.list_values.new.row in
    let same = with_items_is c.self.inside.values row (omega (arith, c.list_values.auto.row, c.deref_mut.ensures.len)) in
    subst (All (λ (v : ℕ). v ≤ most_amount)) (sym (c.deref-2.ensures.value ∙ same))
    (All-from_get_or (λ (v : ℕ). v ≤ most_amount) row 0
    (λ k below. subst (λ (v : ℕ). v ≤ most_amount) (sym (c.list_values.ensures k)) (dual_value_short c.args.self.now.proof.problem.size _ k c.requires.dual)))
