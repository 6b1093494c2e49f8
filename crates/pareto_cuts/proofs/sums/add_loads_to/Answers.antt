use Rattle.std.proofs.Common.{ℕ, ◌+◌, ◌<◌, List, length, All, ap₂, sym, subst, ◌∙◌, arith}
use Rattle.hub_spec.specs.Problem.{Problem, flow}
use Rattle.hub_model.proofs.Turns.{order_nodes}
use Rattle.pareto_cuts.specs.AddedRows.{row_sum, AreRowsAdded}
use Rattle.pareto_cuts.proofs.Columns.{loads_added}
use Rattle.pareto_cuts.proofs.sums.add_loads_to.Goals as goal

pub add_rows-requires-clause-nodes : goal.add_rows-requires-clause-nodes
add_rows-requires-clause-nodes c =
    let s = c.args.separation.now in
    let is = c.order.ensures.separation in
    subst (λ (ks : List ℕ). All (λ k. k < length c.args.loads.now) ks) (sym c.order.ensures.value)
    (subst (λ (n : ℕ). All (λ k. k < n) s.order) (sym c.requires.long) (order_nodes s.problem s.hubs s.order is.problem is.order))

pub returns : goal.returns
returns c =
    let s = c.args.separation.now in
    let flows = c.flows_from-flows.result.now in
    let values = c.args.values.now in
    let rows = subst (λ (ks : List ℕ). AreRowsAdded ks (length ks) (row_sum flows values) c.args.loads.now c.add_rows.new.loads)
    c.order.ensures.value c.add_rows.ensures in
    record {
      loads = λ k below.
          loads_added s c.args.i flows c.args.prices.now values c.args.loads.now c.add_rows.new.loads c.order.ensures.separation c.requires.origin c.requires.duals
          (c.flows_from-flows.ensures.long ∙ c.requires.duals.prices_long)
          (λ j less. c.flows_from-flows.ensures.each j (omega (arith, less, c.requires.duals.prices_long))
          ∙ ap₂ (λ (p : Problem) (b : ℕ). flow p c.args.i (b + j)) c.instance.ensures.value c.start.ensures.value)
          rows k;
    }
