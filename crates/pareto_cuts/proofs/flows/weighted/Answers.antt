use Rattle.std.proofs.Common.{ℕ, ◌+◌, ◌*◌, ◌^◌, ◌≤◌, slice_index, sym, ap, ◌∙◌, arith, rules}
use Rattle.std.proofs.lemmas.Nat.{mul-le}
use Rattle.std.proofs.lemmas.List.Elements.{All-get_or}
use Rattle.hub_spec.specs.Limits.{most_flow}
use Rattle.pareto_cuts.proofs.CommoditySums.{sum_none, sum_more}
use Rattle.pareto_cuts.proofs.flows.weighted.Goals as goal

pub loop-j-init : goal.loop-j-init
loop-j-init c = record {
  value = sym (sum_none (λ k. slice_index c.args.flows.now k * slice_index c.args.lengths.now k));
  limit = omega arith;
}

pub loop-j-preserved : goal.loop-j-preserved
loop-j-preserved c =
    let f : ℕ → ℕ = λ k. slice_index c.args.flows.now k * slice_index c.args.lengths.now k in
    let flow = All-get_or (λ w. w ≤ most_flow) c.args.flows.now c.loop-j.j 0 c.loop-j-test.true c.requires.limit in
    let long : slice_index c.args.lengths.now c.loop-j.j ≤ 2 ^ 64 = (let fits = c.type_inv.lengths c.loop-j.j in search (rules, arith)) in
    let product = mul-le (slice_index c.args.flows.now c.loop-j.j) (slice_index c.args.lengths.now c.loop-j.j) most_flow (2 ^ 64) flow long in
    record {
      value = ap (λ s. s + f c.loop-j.j) c.loop-j.invariant.value ∙ sym (sum_more c.loop-j.j f);
      limit = omega (arith, product, c.loop-j.invariant.limit);
    }
