use Rattle.std.proofs.Common.{List, length, sym, ap, subst, ◌∙◌, get_or, arith}
use Rattle.hub_spec.specs.Cuts.{Cut}
use Rattle.cut_model.specs.Runs.{no_dual, run_dual, IsRunAt}
use Rattle.cut_model.specs.declared.values.StatedValue.{StatedValue}
use Rattle.cut_model.specs.declared.runs.Run.{Run}
use Rattle.cut_model.proofs.RunLists.{duals_counted, number_found}
use Rattle.cut_model.proofs.cuts.StatedCut.dual.Goals as goal

pub place_of-place-requires-clause-below : goal.place_of-place-requires-clause-below
place_of-place-requires-clause-below c =
    omega (
      arith,
      duals_counted c.self.inside.values.items c.self.inside.runs.items c.self.inside.count c.self.invariant.ends,
      ap (λ (cut : Cut). length cut.duals) c.self.view_is,
      c.requires,
    )

pub returns : goal.returns
returns c =
    let values = c.self.inside.values.items in
    let runs = c.self.inside.runs.items in
    let number = c.args.number in
    let place = c.place_of-place.result in
    let at = subst (λ (rs : List Run). IsRunAt rs number place) c.deref.ensures.value c.place_of-place.ensures in
    c.lend.ensures
    ∙ ap (λ (vs : List StatedValue). run_dual vs c.index.result.now) c.deref-2.ensures.value
    ∙ ap (run_dual values) c.index.ensures
    ∙ sym (number_found values runs number place no_dual c.index.result.now at)
    ∙ ap (λ (cut : Cut). get_or cut.duals number no_dual) c.self.view_is
