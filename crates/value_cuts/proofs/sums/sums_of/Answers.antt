use Rattle.std.proofs.Common.{ℕ, ◌+◌, ◌*◌, ◌^◌, ◌<◌, ◌≤◌, Fits, slice_index, ap, sym, ◌∙◌, arith, rules}
use Rattle.std.proofs.lemmas.List.Elements.{All-from_get_or}
use mir.Syntax.{w128}
use Rattle.hub_spec.specs.Limits.{most_cost}
use Rattle.hub_spec.specs.Problem.{Problem, commodity_at}
use Rattle.hub_spec.specs.Cuts.{value_at}
use Rattle.hub_spec.specs.Separation.{values_listed}
use Rattle.hub_spec.proofs.Commodities.{commodity_nodes}
use Rattle.cut_model.specs.ValueRows.{node_value}
use Rattle.cut_model.proofs.ValueCuts.{price_of, value_of, price_of_within, value_of_within, price_limit, later_offset, total_by_commodities, load_by_commodities}
use Rattle.value_cuts.proofs.ValueSums.{front_within, sum_more, sum_all, price_more, value_more, row_number}
use Rattle.value_cuts.proofs.sums.sums_of.Goals as goal

fits : (n : ℕ) → n ≤ most_cost → Fits w128 n
fits n low = search (rules, arith)

pub overflow_add-price : goal.overflow_add-price
overflow_add-price c =
    let p = c.args.tables.now in
    let w = c.args.values.now in
    let t = c.loop-t.t in
    let below : t < p.size * p.size = omega (arith, c.loop-t-test.true, c.requires.prices.long) in
    let flows = c.flows.ensures.value ∙ ap (λ (q : Problem). q.flows) c.instance-instance.ensures.value in
    let is = price_more p w c.flows.result.now c.args.prices.now t c.loop-t.offset flows c.requires.prices below c.loop-t.invariant.offset in
    fits (c.loop-t.offset + slice_index c.flows.result.now t * slice_index c.args.prices.now t)
    (omega (arith, is, price_limit p w (commodity_at p.size t) c.instance-instance.ensures.problem (commodity_nodes p.size t below)))

pub overflow_add-total : goal.overflow_add-total
overflow_add-total c =
    let p = c.args.tables.now in
    let w = c.args.values.now in
    let t = c.loop-t.t in
    let below : t < p.size * p.size = omega (arith, c.loop-t-test.true, c.requires.prices.long) in
    let flows = c.flows.ensures.value ∙ ap (λ (q : Problem). q.flows) c.instance-instance.ensures.value in
    let v = c.loop-t.offset + slice_index c.flows.result.now t * slice_index c.args.prices.now t in
    let is = price_more p w c.flows.result.now c.args.prices.now t c.loop-t.offset flows c.requires.prices below c.loop-t.invariant.offset in
    let more = sum_more p.size t v c.loop-t.total (price_of p w) below is c.loop-t.invariant.total in
    fits (c.loop-t.total + v)
    (omega (arith, more, front_within p (t + 1) w.offset (price_of p w) c.instance-instance.ensures.problem (price_of_within p w)))

pub add_values-requires-clause-limit : goal.add_values-requires-clause-limit
add_values-requires-clause-limit c =
    let p = c.args.tables.now in
    let w = c.args.values.now in
    All-from_get_or (λ v. v ≤ 2 ^ 120) c.loop-t.loads 0
    (λ k below. (let within : k < p.size = omega (arith, below, c.loop-t.auto.loads, c.fill.ensures.len, c.requires.long) in
    omega (arith, c.loop-t.invariant.loads k within, front_within p c.loop-t.t w.offset (value_of p w k) c.instance-instance.ensures.problem (value_of_within p w k))))

pub loop-t-preserved : goal.loop-t-preserved
loop-t-preserved c =
    let p = c.args.tables.now in
    let w = c.args.values.now in
    let t = c.loop-t.t in
    let below : t < p.size * p.size = omega (arith, c.loop-t-test.true, c.requires.prices.long) in
    let flows = c.flows.ensures.value ∙ ap (λ (q : Problem). q.flows) c.instance-instance.ensures.value in
    let offset = c.loop-t.offset in
    let first = c.loop-t.invariant.offset in
    let fs = c.flows.result.now in
    let row = c.row_at.result.now in
    let value : ℕ → ℕ = λ k. value_at (values_listed (λ m. offset + slice_index fs t * node_value p c.unit.result row m) p.candidates) k in
    record {
      offset = sym (later_offset p w.offset p.size (t + 1) (omega arith));
      total = sum_more p.size t (offset + slice_index fs t * slice_index c.args.prices.now t) c.loop-t.total (price_of p w) below
          (price_more p w fs c.args.prices.now t offset flows c.requires.prices below first) c.loop-t.invariant.total;
      loads = λ k within. c.add_values.ensures k within
          ∙ sum_more p.size t (value k) (slice_index c.loop-t.loads k) (value_of p w k) below
          (value_more p w fs row c.unit.result offset t k flows c.unit.ensures (c.row_at.ensures.row ∙ row_number p w t c.requires.values) first)
          (c.loop-t.invariant.loads k within);
    }

pub returns-clause-total : goal.returns-clause-total
returns-clause-total c =
    let p = c.args.tables.now in
    let w = c.args.values.now in
    c.loop-t.invariant.total
    ∙ sum_all p.size c.loop-t.t (price_of p w) (omega (arith, c.loop-t-test.false, c.loop-t.auto.t-end, c.requires.prices.long))
    ∙ sym (total_by_commodities p w)

pub returns-clause-loads : goal.returns-clause-loads
returns-clause-loads c = λ k within.
    (let p = c.args.tables.now in
    let w = c.args.values.now in
    c.loop-t.invariant.loads k within
    ∙ sum_all p.size c.loop-t.t (value_of p w k) (omega (arith, c.loop-t-test.false, c.loop-t.auto.t-end, c.requires.prices.long))
    ∙ sym (load_by_commodities p w k))
