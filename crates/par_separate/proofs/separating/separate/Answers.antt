use Rattle.hub_spec.specs.Cuts.{cut_by}
use Rattle.hub_spec.proofs.SetCuts.{set_cut_is_cut}
use Rattle.hub_spec.proofs.SetCutFunction.{set_cut_is_one_lem}
use Rattle.hub_model.proofs.WholeCuts.{one_for_each, set_cut_in_range}
use Rattle.par_separate.proofs.separating.separate.Goals as goal

pub gather-requires-clause-one_each : goal.gather-requires-clause-one_each
gather-requires-clause-one_each g c =
    let p = c.args.instance.now in
    let cut = cut_by c.in_ok-duals.duals.items in
    let meets = (set_cut_is_one_lem p c.args.set c.args.order.now cut c.size.ensures.problem c.requires.set c.requires.order).1 c.in_ok-duals.ensures in
    rw c.size.ensures.value (one_for_each p c.args.set c.args.order.now c.in_ok-duals.duals.items meets)

pub gather-requires-clause-range : goal.gather-requires-clause-range
gather-requires-clause-range g c =
    let p = c.args.instance.now in
    let cut = cut_by c.in_ok-duals.duals.items in
    let meets = (set_cut_is_one_lem p c.args.set c.args.order.now cut c.size.ensures.problem c.requires.set c.requires.order).1 c.in_ok-duals.ensures in
    rw c.size.ensures.value
    (set_cut_in_range p c.args.set c.args.order.now c.in_ok-duals.duals.items c.size.ensures.problem c.requires.order meets
    (set_cut_is_cut p c.args.set c.args.order.now cut c.size.ensures.problem c.requires.set c.requires.order meets))
