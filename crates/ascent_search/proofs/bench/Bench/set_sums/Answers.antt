use Rattle.std.proofs.Common.{◌≡◌, length, sym, ap, subst, ◌∙◌, rules}
use Rattle.hub_spec.specs.Problem.{Problem}
use Rattle.hub_spec.specs.Plans.{IsHubSet}
use Rattle.hub_spec.specs.Separation.{IsOrder, set_cut}
use Rattle.ascent_search.specs.SingleCuts.{AreLoads}
use Rattle.ascent_search.proofs.SetLeaves.{taken, set_loads}
use Rattle.ascent_search.proofs.bench.Bench.set_sums.Goals as goal

pub returns-clause-sums : goal.returns-clause-sums
returns-clause-sums c =
    let p = c.self.inside.tables in
    let view : c.args.self.now.problem ≡ p = sym (ap (λ b. b.problem) c.self.view_is) in
    let is = c.cut_sums.ensures in
    let ok = c.self.invariant.pricing.problem in
    let long : length c.cut_sums.new.loads ≡ c.self.inside.pricing.loads.len =
    is.long ∙ ap (λ q. q.size) c.instance-instance.ensures.value ∙ search rules in
    subst (AreLoads p (set_cut p c.args.set.now c.args.order.now) c.cut_sums.result)
    (sym (taken c.self.inside.pricing.loads.len c.cut_sums.new.loads _ long))
    (set_loads p c.instance-instance.result.now c.args.set.now c.args.order.now c.cut_sums.new.loads c.cut_sums.result c.instance-instance.ensures.value
    ok (subst (λ (q : Problem). IsHubSet q c.args.set.now) view c.requires.set) (subst (λ (q : Problem). IsOrder q c.args.set.now c.args.order.now) view c.requires.order)
    is.total is.long is.loads)
