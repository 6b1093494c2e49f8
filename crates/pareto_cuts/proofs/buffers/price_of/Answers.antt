use Rattle.std.proofs.Common.{◌≡◌, ℕ, ◌+◌, ◌*◌, pos, slice_index, ap, ap₂, ◌∙◌, arith}
use Rattle.hub_spec.specs.Problem.{Problem, flow}
use Rattle.hub_spec.specs.Separation.{minimal_dual}
use Rattle.hub_model.proofs.SignedCosts.{handed_on}
use Rattle.pareto_cuts.proofs.Columns.{minimal_of}
use Rattle.pareto_cuts.proofs.DualLists.{price_limit}
use Rattle.pareto_cuts.proofs.buffers.price_of.Goals as goal

pub returns : goal.returns
returns c =
    let s = c.args.separation.now in
    let j = c.args.j in
    let is = c.instance.ensures.separation in
    let a = (minimal_dual s.problem s.hubs s.order (c.args.i, s.start + j)).a in
    let there = c.flows_from.ensures.each j (omega (arith, c.requires.destination, c.requires.duals.prices_long))
    ∙ ap₂ (λ (p : Problem) (b : ℕ). flow p c.args.i (b + j)) c.instance.ensures.value c.start.ensures.value in
    let product : slice_index c.flows_from.result.now j * slice_index c.args.prices.now j ≡ a =
    ap (λ w. w * slice_index c.args.prices.now j) there ∙ c.requires.duals.price j c.requires.destination in
    let low = price_limit s.problem s.hubs c.args.i (s.start + j) a is.problem is.set c.requires.origin
    (omega (arith, c.requires.destination, is.legs.destinations)) (minimal_of s c.args.i j is c.requires.origin c.requires.destination).price in
    handed_on c.signed.result a (c.signed.ensures ∙ ap pos product) low
