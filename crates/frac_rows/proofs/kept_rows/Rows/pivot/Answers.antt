use Rattle.std.proofs.Common.{◌∙◌, List, ℤ, length, sym, ap, subst, arith}
use Rattle.std.proofs.lemmas.List.{with_items_is}
use Rattle.frac_rows.specs.Rows.{Table, objective}
use Rattle.frac_rows.specs.Steps.{AreEntering}
use Rattle.frac_rows.proofs.Pivots.{basis_of}
use Rattle.frac_rows.proofs.TableFacts.{width_is}
use Rattle.frac_rows.proofs.kept_rows.Rows.pivot.Goals as goal

pub write_entering-requires-clause-within : goal.write_entering-requires-clause-within
write_entering-requires-clause-within c =
    let s = c.self.inside in
    let width = ap (λ (t : Table). length (objective t)) (sym c.self.view_is) ∙ width_is s.columns s.numbers.items s.basis.items c.self.invariant.stored in
    omega (arith, width, c.requires.column)

pub pivot_on-requires-clause-row : goal.pivot_on-requires-clause-row
pivot_on-requires-clause-row c =
    let s = c.self.inside in
    let constraints = ap (λ (t : Table). length t.basis) (sym c.self.view_is) ∙ ap length (basis_of s.columns s.numbers.items s.basis.items) in
    omega (arith, constraints, c.requires.row, ap length c.deref_mut-4.ensures.value)

pub pivot_on-requires-clause-column : goal.pivot_on-requires-clause-column
pivot_on-requires-clause-column c =
    let s = c.self.inside in
    let width = ap (λ (t : Table). length (objective t)) (sym c.self.view_is) ∙ width_is s.columns s.numbers.items s.basis.items c.self.invariant.stored in
    omega (arith, width, c.requires.column)

pub pivot_on-requires-clause-entering : goal.pivot_on-requires-clause-entering
pivot_on-requires-clause-entering c =
    let s = c.self.inside in
    let same = c.deref-2.ensures.value ∙ with_items_is s.entering c.write_entering.new.entering (omega (arith, c.write_entering.auto.entering, c.deref_mut.ensures.len)) in
    subst (λ (numbers : List ℤ). AreEntering s.columns numbers c.args.column c.deref-2.result.now) (c.deref.ensures.value ∙ sym c.deref_mut-2.ensures.value)
    (subst (AreEntering s.columns c.deref.result.now c.args.column) (sym same) c.write_entering.ensures.entering)
