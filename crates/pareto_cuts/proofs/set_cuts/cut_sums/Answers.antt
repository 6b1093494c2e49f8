use Rattle.std.proofs.Common.{ℕ, ◌+◌, ◌*◌, ◌^◌, ◌≤◌, Fits, sym, ap, ◌∙◌, arith, rules}
use mir.Syntax.{w128}
use Rattle.std.proofs.lemmas.List.Elements.{All-from_get_or}
use Rattle.hub_spec.specs.Limits.{most_cost}
use Rattle.pareto_cuts.proofs.SetSums.{price_of, value_of, total_within, load_within, total_more, load_more, whole_sum, total_by_commodities, load_by_commodities}
use Rattle.pareto_cuts.proofs.set_cuts.cut_sums.Goals as goal

fits : (n : ℕ) → n ≤ most_cost → Fits w128 n
fits n low = search (rules, arith)

pub overflow_add-total : goal.overflow_add-total
overflow_add-total c =
    let p = c.args.instance.now in
    let more = ap (λ (x : ℕ). c.loop-i.total + x) c.total-total.ensures
    ∙ total_more p c.args.set.now c.args.order.now c.loop-i.i c.loop-i.total (omega arith) c.loop-i.invariant.total in
    let low = total_within p c.args.set.now c.args.order.now ((c.loop-i.i + 1) * p.size) c.size-i-end.ensures.problem c.requires.set c.requires.order in
    fits (c.loop-i.total + c.total-total.result) (omega (arith, more, low))

pub add_loads-requires-clause-limit : goal.add_loads-requires-clause-limit
add_loads-requires-clause-limit c =
    let p = c.args.instance.now in
    All-from_get_or (λ v. v ≤ 2 ^ 120) c.loop-i.loads 0
    (λ k below. let low = load_within p c.args.set.now c.args.order.now k (c.loop-i.i * p.size) c.size-i-end.ensures.problem c.requires.set c.requires.order in
    omega (arith, low, c.loop-i.invariant.loads k (omega (arith, below))))

pub loop-i-preserved : goal.loop-i-preserved
loop-i-preserved c =
    let p = c.args.instance.now in
    record {
      total = ap (λ (x : ℕ). c.loop-i.total + x) c.total-total.ensures
          ∙ total_more p c.args.set.now c.args.order.now c.loop-i.i c.loop-i.total (omega arith) c.loop-i.invariant.total;
      loads = λ k below. load_more p c.args.set.now c.args.order.now c.loop-i.i k _ _ (omega arith) (c.loop-i.invariant.loads k below)
          (c.add_loads.ensures.loads k below);
      ready = c.work_out.ensures.duals.ready;
      room = omega (arith, c.work_out.ensures.room, c.loop-i.invariant.room);
      same_room = c.work_out.ensures.room ∙ c.loop-i.invariant.same_room;
    }

pub returns-clause-total : goal.returns-clause-total
returns-clause-total c =
    let p = c.args.instance.now in
    c.loop-i.invariant.total ∙ whole_sum p.size c.loop-i.i (price_of p c.args.set.now c.args.order.now) (omega arith)
    ∙ sym (total_by_commodities p c.args.set.now c.args.order.now)

pub returns-clause-loads : goal.returns-clause-loads
returns-clause-loads c = λ k below.
    (let p = c.args.instance.now in
    c.loop-i.invariant.loads k below ∙ whole_sum p.size c.loop-i.i (value_of p c.args.set.now c.args.order.now k) (omega arith)
    ∙ sym (load_by_commodities p c.args.set.now c.args.order.now k))
