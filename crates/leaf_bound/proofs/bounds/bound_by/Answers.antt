use Rattle.std.proofs.Common.{ℕ, ℤ, pos, ◌+ℤ◌, length, get_or, ap, ap₂, ◌∙◌}
use Rattle.std.specs.Int.{int_min}
use Rattle.hub_spec.specs.Sums.{sum_ints}
use Rattle.leaf_bound.proofs.LentNumbers.{few_listed, gain_nodes, base_within, parts_passed}
use Rattle.leaf_bound.proofs.bounds.bound_by.Goals as goal

pub sum_of_gains-inside-requires-clause-few : goal.sum_of_gains-inside-requires-clause-few
sum_of_gains-inside-requires-clause-few c =
    few_listed c.inside.result.now c.args.branch.now.inside (length c.args.gains.now) c.inside.ensures.value c.inside.ensures.split.inside_ascends
    (gain_nodes c.args.gains.now c.args.branch.now.inside c.requires.gains.inside) c.requires.few

pub sum_of_losses-free-requires-clause-few : goal.sum_of_losses-free-requires-clause-few
sum_of_losses-free-requires-clause-few c =
    few_listed c.free.result.now c.args.branch.now.free (length c.args.gains.now) c.free.ensures.value c.free.ensures.split.free_ascends
    (gain_nodes c.args.gains.now c.args.branch.now.free c.requires.gains.free) c.requires.few

pub returns-clause-value : goal.returns-clause-value
returns-clause-value c =
    let by : ℕ → ℤ = λ k. get_or c.args.gains.now k (pos 0) in
    let inside = c.sum_of_gains-inside.ensures.value ∙ ap (sum_ints by) c.inside.ensures.value in
    let free = c.sum_of_losses-free.ensures.value ∙ ap (sum_ints (λ k. int_min (pos 0) (by k))) c.free.ensures.value in
    parts_passed c.signed-base.result c.sum_of_gains-inside.result c.sum_of_losses-free.result
    (base_within c.signed-base.result c.args.base c.signed-base.ensures c.requires.base)
    c.sum_of_gains-inside.ensures.limit c.sum_of_losses-free.ensures.limit
    ∙ ap₂ (λ (x y : ℤ). x +ℤ y) (ap₂ (λ (x y : ℤ). x +ℤ y) c.signed-base.ensures inside) free
