use Rattle.std.proofs.Common.{max, ap, ◌∙◌}
use Rattle.std.specs.Prelude.{fold}
use Rattle.std.proofs.lemmas.List.{take_all}
use Rattle.frac_master.proofs.Scalings.{greatest_within}
use Rattle.frac_master.proofs.scaling.greatest_by_totals.Goals as goal

pub returns : goal.returns
returns c =
    c.max.ensures
    ∙ greatest_within c.args.totals.now c.args.fixed.now _ c.args.branch.now c.args.most_load c.loop-total.most c.greatest_of_candidates.result
    c.requires.within c.requires.reached
    (c.loop-total.invariant ∙ ap (fold max 0) (take_all c.loop-total.total-index c.args.totals.now c.loop-total-test.false))
    c.greatest_of_candidates.ensures
