use Rattle.std.proofs.Common.{◌≤◌, All, sym, subst}
use Rattle.cut_model.specs.Totals.{most_sum}
use Rattle.cut_model.proofs.RunSums.{loads_limit}
use Rattle.cut_model.proofs.sums.loads_of.Goals as goal

pub add_values-requires-clause-most : goal.add_values-requires-clause-most
add_values-requires-clause-most c =
    subst (All (λ x. x ≤ most_sum)) (sym c.deref_mut.ensures.value)
    (loads_limit c.args.n c.args.values.now c.args.runs.now c.loop-run.run-index c.loop-run.loads.items c.requires.few c.requires.duals
    c.loop-run.invariant.sums)

pub returns-clause-most : goal.returns-clause-most
returns-clause-most c =
    loads_limit c.args.n c.args.values.now c.args.runs.now c.loop-run.run-index c.loop-run.loads.items c.requires.few c.requires.duals
    c.loop-run.invariant.sums
