use Rattle.std.proofs.Common.{◌≡◌, ℕ, min, sym, ◌∙◌, arith}
use Rattle.hub_spec.specs.Problem.{route_cost}
use Rattle.core_spec.proofs.EdgeCosts.{pair_cost_is}
use Rattle.core_cuts.proofs.edges.single_cost.Goals as goal

min_same : (n : ℕ) → min n n ≡ n
min_same n = omega arith

pub returns : goal.returns
returns c =
    let p = c.args.instance.now in
    c.cost_of_route.ensures.value
    ∙ sym (pair_cost_is p (c.args.i, c.args.j) c.args.k c.args.k c.requires.any_length ∙ min_same (route_cost p c.args.i c.args.j c.args.k c.args.k))
