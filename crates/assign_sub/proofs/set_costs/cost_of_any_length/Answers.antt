use Rattle.std.proofs.Common.{◌≡◌, ℕ, ◌*◌, ap, arith}
use Rattle.hub_spec.specs.Edges.{IsLeastCost}
use Rattle.assign_sub.proofs.HubNodes.{few_hubs}
use Rattle.assign_sub.proofs.LeastSums.{IsWholeSum, summed_limit, summed_more, summed_all}
use Rattle.assign_sub.proofs.UnitCosts.{least_length_costs}
use Rattle.assign_sub.proofs.set_costs.cost_of_any_length.Goals as goal
use Rattle.assign_sub.proofs.set_costs.cost_of_any_length.Goals.{After-loop-i, After-flow_between}

pub set_reaches-requires-clause-room : goal.set_reaches-requires-clause-room
set_reaches-requires-clause-room c =
    let ok = c.size-n.ensures.problem in
    omega (arith, few_hubs c.args.instance.now c.args.hubs.now ok c.requires.set, ok.size_limit, c.loop-i-test.array_long)

pub length_to-length-requires-clause-room : goal.length_to-length-requires-clause-room
length_to-length-requires-clause-room c =
    let ok = c.size-n.ensures.problem in
    omega (arith, few_hubs c.args.instance.now c.args.hubs.now ok c.requires.set, ok.size_limit, c.loop-j-test.array_long)

cost_here : (c : After-flow_between) → IsLeastCost c.args.instance.now c.args.hubs.now (c.loop-i.i, c.loop-j.j)
    (c.flow_between.result * c.length_to-length.result)
cost_here c =
    rw (c.flow_between.ensures.value, c.length_to-length.ensures)
    (least_length_costs c.args.instance.now c.args.hubs.now c.loop-i.i c.loop-j.j c.requires.any c.requires.set)

pub overflow_add-total : goal.overflow_add-total
overflow_add-total c =
    let fits = summed_limit c.args.instance.now c.args.hubs.now c.loop-i.i c.loop-j.j c.loop-j.total
    (c.flow_between.result * c.length_to-length.result) c.size-n.ensures.problem c.requires.set (omega arith) (omega arith)
    c.loop-j.invariant (cost_here (goal.at.overflow_add-total c).After-flow_between) in
    omega (arith, fits)

pub loop-j-preserved : goal.loop-j-preserved
loop-j-preserved c =
    summed_more c.args.instance.now c.args.hubs.now c.loop-i.i c.loop-j.j c.loop-j.total
    (c.flow_between.result * c.length_to-length.result) (omega arith) (omega arith) c.loop-j.invariant
    (cost_here (goal.at.loop-j-preserved c).After-flow_between)

whole : (c : After-loop-i) → IsWholeSum c.args.instance.now c.args.hubs.now c.loop-i.total
whole c =
    let p = c.args.instance.now in
    let all : c.loop-i.i ≡ p.size = omega arith in
    summed_all p c.args.hubs.now (c.loop-i.i * p.size) c.loop-i.total c.size-n.ensures.problem c.requires.set
    (ap (λ (m : ℕ). m * p.size) all) c.loop-i.invariant

pub returns-clause-value : goal.returns-clause-value
returns-clause-value c = (whole (goal.at.returns-clause-value c).After-loop-i).set_cost

pub returns-clause-limit : goal.returns-clause-limit
returns-clause-limit c = (whole (goal.at.returns-clause-limit c).After-loop-i).limit
