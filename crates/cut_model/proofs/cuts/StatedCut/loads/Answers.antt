use Rattle.std.proofs.Common.{length, sym, ap, ap₂, subst, ◌∙◌, ◌≤◌, List, sum_by, All}
use Rattle.std.proofs.lemmas.Result.{IfOk-weaker}
use Rattle.hub_spec.specs.Cuts.{Prices, Cut, value_at, load}
use Rattle.hub_spec.specs.Ranges.{IsDualInRange}
use Rattle.cut_model.specs.Totals.{most_duals}
use Rattle.cut_model.specs.Runs.{begun, run_dual, run_load}
use Rattle.cut_model.specs.declared.values.StatedValue.{StatedValue}
use Rattle.cut_model.specs.declared.runs.Run.{Run}
use Rattle.cut_model.proofs.RunLists.{few_runs}
use Rattle.cut_model.proofs.RunSums.{sum_of_runs, all_of_runs}
use Rattle.cut_model.proofs.cuts.StatedCut.loads.Goals as goal

pub loads_of-requires-clause-few : goal.loads_of-requires-clause-few
loads_of-requires-clause-few c =
    subst (λ (runs : List Run). begun runs (length runs) ≤ most_duals) (sym c.deref-2.ensures.value)
    (few_runs c.self.inside.values.items c.self.inside.runs.items c.self.inside.count c.self.invariant.ends
    (subst (λ (cut : Cut). length cut.duals ≤ most_duals) (sym c.self.view_is) c.requires.few))

pub loads_of-requires-clause-duals : goal.loads_of-requires-clause-duals
loads_of-requires-clause-duals c =
    subst (λ (runs : List Run). All (λ r. IsDualInRange c.args.n (run_dual c.deref.result.now r)) runs) (sym c.deref-2.ensures.value)
    (subst (λ (values : List StatedValue). All (λ r. IsDualInRange c.args.n (run_dual values r)) c.self.inside.runs.items) (sym c.deref.ensures.value)
    (all_of_runs (IsDualInRange c.args.n) c.self.inside.values.items c.self.inside.runs.items c.self.inside.count c.self.invariant.ends
    (subst (λ (cut : Cut). All (IsDualInRange c.args.n) cut.duals) (sym c.self.view_is) c.requires.duals)))

pub returns-clause-are : goal.returns-clause-are
returns-clause-are c =
    let values = c.self.inside.values.items in
    let runs = c.self.inside.runs.items in
    IfOk-weaker c.loads_of.result _ _
    (λ loads are k. are k
    ∙ ap₂ (λ (vs : List StatedValue) (rs : List Run). sum_by (run_load vs k) rs) c.deref.ensures.value c.deref-2.ensures.value
    ∙ sum_of_runs (λ (d : Prices). value_at d.u k) values runs
    ∙ ap (λ (cut : Cut). load cut k) c.self.view_is)
    c.loads_of.ensures.are
