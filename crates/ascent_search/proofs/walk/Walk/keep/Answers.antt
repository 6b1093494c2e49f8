use Rattle.std.proofs.Common.{refl, sym, subst, arith}
use Rattle.std.proofs.lemmas.Result.{on_ok_weaker}
use Rattle.cut_pool.specs.Kept.{kept_of, kept_cut}
use Rattle.ascent_search.specs.SingleCuts.{AreLoads}
use Rattle.ascent_search.proofs.Steps.{cut_at_step}
use Rattle.ascent_search.proofs.walk.Walk.keep.Goals as goal

pub returns-clause-at : goal.returns-clause-at
returns-clause-at c =
    let p = c.args.self.now.task.now.instance.now in
    let loads = c.loads.result.now in
    let sums = subst (AreLoads p (kept_cut p (kept_of c.args.cut)) c.args.total) (sym c.loads.ensures) c.requires.sums in
    on_ok_weaker c.keep.result
    (λ kept. cut_at_step c.args.self.now.task.now c.args.self.now.progress _ (kept_of c.args.cut) c.args.total loads c.requires.going
    (record { cuts = kept; lines = refl; hubs = refl; cost = refl; made = refl; stopped = refl; left = refl }) c.requires.own c.requires.fit sums
    (omega (arith, c.len.ensures, c.if-len.false)))
    c.keep.ensures.kept
