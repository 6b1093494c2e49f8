use Rattle.std.proofs.Common.{◌+◌, Some, refl, sym, subst, ◌∙◌, to_z, of_z, FitsSigned, rules, arith}
use Rattle.std.specs.Int.{w128}
use Rattle.std.proofs.lemmas.Int.{to_z-of_z}
use Rattle.std.proofs.lemmas.List.{length-map}
use Rattle.leaf_bound.specs.Weighing.{most_bound, IsWithin}
use Rattle.cut_pool.specs.Kept.{kept_cut}
use Rattle.ascent_search.specs.Progressing.{cuts_of}
use Rattle.ascent_search.specs.declared.leaves.Choice.{Choice}
use Rattle.ascent_search.proofs.Choices.{first_choice, next_choice, next_within}
use Rattle.ascent_search.proofs.leaves.best_choice.Goals as goal

pub loop-before-init : goal.loop-before-init
loop-before-init c =
    let p = c.args.task.now.instance.now in
    let fits : FitsSigned w128 c.bare_bound.result = search rules in
    let same = to_z-of_z w128 c.bare_bound.result fits in (
      first_choice p (cuts_of p c.args.progress.now) c.args.branch.now _ refl (same ∙ c.bare_bound.ensures.bound),
      subst (IsWithin most_bound) (sym same) c.bare_bound.ensures.limit,
    )

pub loop-before-preserved : goal.loop-before-preserved
loop-before-preserved c =
    let p = c.args.task.now.instance.now in
    let s = c.args.progress.now in
    let fits : FitsSigned w128 c.kept_bound.result = search rules in
    let same = to_z-of_z w128 c.kept_bound.result fits in
    let other : Choice = record { number = Some (c.loop-before.before + 1); bound = to_z w128 (of_z w128 c.kept_bound.result) } in (
      next_choice p (cuts_of p s) c.args.branch.now c.loop-before.best other c.better_of-best.result (c.loop-before.before + 1) c.loop-before.invariant.0
          refl (omega arith) (omega (arith, length-map s.cuts.cuts (kept_cut p), c.loop-before-test.true, c.len-before-end.ensures))
          (same ∙ c.kept_bound.ensures.bound) c.better_of-best.ensures,
      next_within c.loop-before.best other c.better_of-best.result c.loop-before.invariant.1
          (subst (IsWithin most_bound) (sym same) c.kept_bound.ensures.limit) c.better_of-best.ensures,
    )
