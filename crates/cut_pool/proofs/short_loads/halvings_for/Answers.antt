use Rattle.std.proofs.Common.{◌≡◌, ◌/◌, ◌^◌, ◌<◌, get_or, subst, ⊎_elim, arith}
use Rattle.std.proofs.lemmas.Bool.{cases_lt}
use Rattle.cut_pool.proofs.ShortRows.{halved_fits}
use Rattle.cut_pool.proofs.short_loads.halvings_for.Goals as goal

pub loop-load-preserved : goal.loop-load-preserved
loop-load-preserved c =
    let loads = c.args.loads.now in
    let i = c.loop-load.load-index in
    let h = c.halvings_of-halvings.result in
    let is = c.halvings_of-halvings.ensures in
    record {
      few = is.few;
      least = omega (arith, is.above);
      fit = λ k low.
          ⊎_elim
          (λ before. halved_fits c.loop-load.halvings h (get_or loads k 0) (2 ^ 31) is.above (c.loop-load.invariant.fit k before))
          (λ rest. let at : i ≡ k = omega arith in subst (λ j. get_or loads j 0 / 2 ^ h < 2 ^ 31) at is.fits)
          (cases_lt k i);
    }
