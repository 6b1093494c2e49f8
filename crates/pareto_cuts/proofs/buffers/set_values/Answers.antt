use Rattle.std.proofs.Common.{◌≡◌, ℕ, ◌+◌, ◌*◌, ◌<◌, List, length, slice_index, All, ap₂, sym, subst, ◌∙◌, arith}
use Rattle.hub_spec.specs.Problem.{Problem, flow}
use Rattle.hub_spec.specs.Cuts.{value_at}
use Rattle.hub_spec.specs.Separation.{minimal_dual}
use Rattle.hub_model.proofs.Turns.{order_nodes}
use Rattle.unit_duals.specs.Cells.{cell}
use Rattle.pareto_cuts.specs.AddedRows.{AreRowsAdded}
use Rattle.pareto_cuts.proofs.Columns.{minimal_of, column_is}
use Rattle.pareto_cuts.proofs.buffers.set_values.Goals as goal

pub set_column-requires-clause-nodes : goal.set_column-requires-clause-nodes
set_column-requires-clause-nodes c =
    let s = c.args.separation.now in
    let is = c.order.ensures.separation in
    subst (λ (ks : List ℕ). All (λ k. k < length c.args.by_node.now) ks) (sym c.order.ensures.value)
    (subst (λ (n : ℕ). All (λ k. k < n) s.order) (sym c.requires.long) (order_nodes s.problem s.hubs s.order is.problem is.order))

pub returns : goal.returns
returns c =
    let s = c.args.separation.now in
    let j = c.args.j in
    let values = c.args.values.now in
    let is = c.order.ensures.separation in
    let d = minimal_dual s.problem s.hubs s.order (c.args.i, s.start + j) in
    let w = slice_index c.flows_from.result.now j in
    let there : w ≡ flow s.problem c.args.i (s.start + j) =
    c.flows_from.ensures.each j (omega (arith, c.requires.destination, c.requires.duals.prices_long))
    ∙ ap₂ (λ (p : Problem) (b : ℕ). flow p c.args.i (b + j)) c.instance.ensures.value c.start.ensures.value in
    let added : ℕ → ℕ = λ t. w * cell (length c.args.prices.now) values t j in
    let rows = subst (λ (ks : List ℕ). AreRowsAdded ks (length ks) added c.args.by_node.now c.set_column.new.by_node)
    c.order.ensures.value c.set_column.ensures in
    let value : (t : ℕ) → t < length s.order → added t ≡ value_at d.u (slice_index s.order t) = λ t within.
    ap₂ (λ x n. x * cell n values t j) there c.requires.duals.prices_long ∙ c.requires.duals.value t j within c.requires.destination in
    record {
      each = column_is s.problem s.hubs s.order (c.args.i, s.start + j) d added c.args.by_node.now c.set_column.new.by_node
          (minimal_of s c.args.i j is c.requires.origin c.requires.destination) value c.requires.none rows;
    }
