use Rattle.std.proofs.Common.{length, sym, ap, subst, ◌∙◌, ◌≤◌, List, sum_by}
use Rattle.hub_spec.specs.Cuts.{Prices, Cut, total}
use Rattle.cut_model.specs.Totals.{most_duals}
use Rattle.cut_model.specs.Runs.{begun, run_total}
use Rattle.cut_model.specs.declared.runs.Run.{Run}
use Rattle.cut_model.proofs.RunLists.{few_runs}
use Rattle.cut_model.proofs.RunSums.{sum_of_runs}
use Rattle.cut_model.proofs.cuts.StatedCut.total.Goals as goal

pub total_of-requires-clause-few : goal.total_of-requires-clause-few
total_of-requires-clause-few c =
    subst (λ (runs : List Run). begun runs (length runs) ≤ most_duals) (sym c.deref.ensures.value)
    (few_runs c.self.inside.values.items c.self.inside.runs.items c.self.inside.count c.self.invariant.ends
    (subst (λ (cut : Cut). length cut.duals ≤ most_duals) (sym c.self.view_is) c.requires.few))

pub returns : goal.returns
returns c =
    c.total_of.ensures
    ∙ ap (sum_by run_total) c.deref.ensures.value
    ∙ sum_of_runs (λ (d : Prices). d.a) c.self.inside.values.items c.self.inside.runs.items
    ∙ ap total c.self.view_is
