use Rattle.std.proofs.Common.{◌≡◌, List, length, get_or, refl, sym, ap, subst, ◌∙◌, arith}
use Rattle.hub_spec.specs.Cuts.{Cut}
use Rattle.cut_model.specs.Runs.{no_dual, no_run, run_dual, IsRunAt}
use Rattle.cut_model.specs.declared.values.StatedValue.{StatedValue}
use Rattle.cut_model.specs.declared.runs.Run.{Run}
use Rattle.cut_model.proofs.RunLists.{duals_counted, number_found}
use Rattle.cut_model.proofs.cuts.StatedCut.is_same.Goals as goal

pub place_of-one-requires-clause-below : goal.place_of-one-requires-clause-below
place_of-one-requires-clause-below c =
    omega (
      arith,
      duals_counted c.self.inside.values.items c.self.inside.runs.items c.self.inside.count c.self.invariant.ends,
      ap (λ (cut : Cut). length cut.duals) c.self.view_is,
      c.requires.first,
    )

pub place_of-other-requires-clause-below : goal.place_of-other-requires-clause-below
place_of-other-requires-clause-below c =
    omega (
      arith,
      duals_counted c.self.inside.values.items c.self.inside.runs.items c.self.inside.count c.self.invariant.ends,
      ap (λ (cut : Cut). length cut.duals) c.self.view_is,
      c.requires.second,
    )

pub returns-then-one-other : goal.returns-then-one-other
returns-then-one-other c =
    let values = c.self.inside.values.items in
    let runs = c.self.inside.runs.items in
    let first = subst (λ (rs : List Run). IsRunAt rs c.args.first c.place_of-one.result) c.deref.ensures.value c.place_of-one.ensures in
    let second = subst (λ (rs : List Run). IsRunAt rs c.args.second c.place_of-other.result) c.deref-2.ensures.value c.place_of-other.ensures in
    let same : get_or c.args.self.now.duals c.args.first no_dual ≡ get_or c.args.self.now.duals c.args.second no_dual =
    ap (λ (cut : Cut). get_or cut.duals c.args.first no_dual) (sym c.self.view_is)
    ∙ number_found values runs c.args.first c.place_of-one.result no_dual no_run first
    ∙ ap (λ place. run_dual values (get_or runs place no_run)) c.if-one-other.true
    ∙ sym (number_found values runs c.args.second c.place_of-other.result no_dual no_run second)
    ∙ ap (λ (cut : Cut). get_or cut.duals c.args.second no_dual) c.self.view_is in
    (λ _. same, λ _. refl)

pub returns : goal.returns
returns c =
    let values = c.self.inside.values.items in
    let runs = c.self.inside.runs.items in
    let first = subst (λ (rs : List Run). IsRunAt rs c.args.first c.place_of-one.result) c.deref.ensures.value c.place_of-one.ensures in
    let second = subst (λ (rs : List Run). IsRunAt rs c.args.second c.place_of-other.result) c.deref-2.ensures.value c.place_of-other.ensures in
    let one : c.lend.result ≡ get_or c.args.self.now.duals c.args.first no_dual =
    c.lend.ensures
    ∙ ap (λ (vs : List StatedValue). run_dual vs c.index.result.now) c.deref-3.ensures.value
    ∙ ap (run_dual values) c.index.ensures
    ∙ sym (number_found values runs c.args.first c.place_of-one.result no_dual c.index.result.now first)
    ∙ ap (λ (cut : Cut). get_or cut.duals c.args.first no_dual) c.self.view_is in
    let other : c.lend-2.result ≡ get_or c.args.self.now.duals c.args.second no_dual =
    c.lend-2.ensures
    ∙ ap (λ (vs : List StatedValue). run_dual vs c.index-2.result.now) c.deref-4.ensures.value
    ∙ ap (run_dual values) c.index-2.ensures
    ∙ sym (number_found values runs c.args.second c.place_of-other.result no_dual c.index-2.result.now second)
    ∙ ap (λ (cut : Cut). get_or cut.duals c.args.second no_dual) c.self.view_is in
    (λ t. sym one ∙ c.is_same.ensures.0 t ∙ other, λ s. c.is_same.ensures.1 (one ∙ s ∙ sym other))
