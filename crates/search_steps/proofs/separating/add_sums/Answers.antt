use Rattle.std.proofs.Common.{ap, ◌∙◌, rules, arith}
use Rattle.hub_spec.specs.Problem.{opening_cost}
use Rattle.cut_pool.specs.Entries.{entry_of}
use Rattle.search_steps.proofs.PoolLoads.{entry_total}
use Rattle.search_steps.proofs.AddedCuts.{sums_added}
use Rattle.search_steps.proofs.separating.add_sums.Goals as goal

pub overflow_add-cost : goal.overflow_add-cost
overflow_add-cost c =
    let most = entry_total c.args.instance.now (entry_of c.args.sums c.args.order.items) c.requires.problem c.requires.sums in
    omega (arith, most, c.total.ensures, c.opening_cost-opening.ensures.limit)

pub returns : goal.returns
returns c =
    let p = c.args.instance.now in
    sums_added p c.args.pool.now.entries c.add.new.self.entries c.add.result c.args.sums c.args.order.items
    c.total.result c.opening_cost-opening.result c.requires.problem
    (search rules) c.add.ensures.added c.requires.sums c.total.ensures
    (c.opening_cost-opening.ensures.value ∙ ap (opening_cost p) (c.members.ensures.value ∙ c.set.ensures))
