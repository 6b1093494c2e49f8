use Rattle.std.proofs.Common.{◌≡◌, ◌+◌, ℕ, Contains, subst, sym}
use Rattle.std.proofs.lemmas.Result.{IfOk-weaker}
use Rattle.hub_spec.specs.Problem.{opening_cost}
use Rattle.hub_spec.specs.Plans.{IsSetCost}
use Rattle.hub_spec.specs.Cuts.{cut_by, IsTight, total, load}
use Rattle.hub_spec.proofs.SetCuts.{no_load_on_hubs, set_cut_cost, set_cut_is_tight}
use Rattle.hub_model.specs.HubCuts.{HubCut}
use Rattle.hub_model.proofs.WholeCuts.{one_for_each, set_cut_in_range}
use Rattle.pareto_cuts.proofs.set_cuts.cut_of.Goals as goal

pub returns-clause-no_load : goal.returns-clause-no_load
returns-clause-no_load c =
    let made : HubCut = record { hubs = c.args.set; size = c.size.result; cut = cut_by c.in_ok-rows.rows.items } in
    let P : HubCut → Type 0 = λ cut. (k : ℕ) → Contains c.args.set k → load cut.cut k ≡ 0 in
    IfOk-weaker c.gather.result (λ cut. cut ≡ made) P
    (λ cut e. subst P (sym e)
    (λ k hub. no_load_on_hubs c.args.instance.now c.args.set c.args.order.now (cut_by c.in_ok-rows.rows.items) k c.in_ok-rows.ensures.set_cut hub))
    c.gather.ensures

pub returns-clause-cost : goal.returns-clause-cost
returns-clause-cost c =
    let made : HubCut = record { hubs = c.args.set; size = c.size.result; cut = cut_by c.in_ok-rows.rows.items } in
    let P : HubCut → Type 0 = λ cut. IsSetCost c.args.instance.now c.args.set (total cut.cut + opening_cost c.args.instance.now c.args.set) in
    IfOk-weaker c.gather.result (λ cut. cut ≡ made) P
    (λ cut e. subst P (sym e)
    (set_cut_cost c.args.instance.now c.args.set c.args.order.now (cut_by c.in_ok-rows.rows.items) c.requires.set c.in_ok-rows.ensures.set_cut))
    c.gather.ensures

pub returns-clause-tight : goal.returns-clause-tight
returns-clause-tight c =
    let made : HubCut = record { hubs = c.args.set; size = c.size.result; cut = cut_by c.in_ok-rows.rows.items } in
    let P : HubCut → Type 0 = λ cut. IsTight c.args.instance.now c.args.set cut.cut in
    IfOk-weaker c.gather.result (λ cut. cut ≡ made) P
    (λ cut e. subst P (sym e)
    (set_cut_is_tight c.args.instance.now c.args.set c.args.order.now (cut_by c.in_ok-rows.rows.items) c.requires.set c.in_ok-rows.ensures.set_cut))
    c.gather.ensures

pub gather-requires-clause-one_each : goal.gather-requires-clause-one_each
gather-requires-clause-one_each c =
    rw c.size.ensures.value
    (one_for_each c.args.instance.now c.args.set c.args.order.now c.in_ok-rows.rows.items c.in_ok-rows.ensures.set_cut)

pub gather-requires-clause-range : goal.gather-requires-clause-range
gather-requires-clause-range c =
    rw c.size.ensures.value
    (set_cut_in_range c.args.instance.now c.args.set c.args.order.now c.in_ok-rows.rows.items c.size.ensures.problem c.requires.order
    c.in_ok-rows.ensures.set_cut c.in_ok-rows.ensures.cut)
