use Rattle.std.proofs.Common.{ℕ, ◌+◌, ap₂, ◌∙◌, arith}
use Rattle.hub_spec.specs.Problem.{Problem, flow}
use Rattle.pareto_cuts.proofs.Columns.{total_is}
use Rattle.pareto_cuts.proofs.sums.total_of.Goals as goal

pub returns : goal.returns
returns c =
    let s = c.args.separation.now in
    c.weighted.ensures.value
    ∙ total_is s c.args.i c.flows_from-flows.result.now c.args.prices.now c.args.values.now c.requires.duals
    (c.flows_from-flows.ensures.long ∙ c.requires.duals.prices_long)
    (λ j below. c.flows_from-flows.ensures.each j (omega (arith, below, c.requires.duals.prices_long))
    ∙ ap₂ (λ (p : Problem) (b : ℕ). flow p c.args.i (b + j)) c.instance.ensures.value c.start.ensures.value)
