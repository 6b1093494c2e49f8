use Rattle.std.proofs.Common.{◌≡◌, ℕ, ◌+◌, ◌*◌, ◌^◌, ◌<◌, ◌≤◌, Fits, List, length, slice_index, Contains, inl, ap, sym, subst, ◌∙◌, arith, rules}
use Rattle.std.proofs.lemmas.List.Elements.{All-get_or, Contains-get_or}
use Rattle.std.proofs.lemmas.Nat.{mul-le}
use mir.Syntax.{w128}
use Rattle.hub_spec.specs.Limits.{most_flow, most_cost}
use Rattle.hub_spec.specs.Problem.{Problem}
use Rattle.hub_spec.specs.Cuts.{value_at}
use Rattle.hub_spec.specs.Separation.{values_listed}
use Rattle.hub_spec.proofs.SetCutFunction.{value_at_listed}
use Rattle.unit_duals.specs.Limits.{most_length}
use Rattle.hub_model.specs.CandidateLengths.{candidate_at}
use Rattle.cut_model.specs.ValueRows.{node_value}
use Rattle.leg_duals.proofs.CandidateTables.{candidate_node}
use Rattle.cut_model.proofs.NodeValues.{worked_value}
use Rattle.cut_model.proofs.ValueDuals.{listed_none}
use Rattle.value_cuts.proofs.AddedValues.{next_fresh, added_more, added_all}
use Rattle.value_cuts.proofs.sums.add_values.Goals as goal

fits : (n : ℕ) → n ≤ 2 ^ 120 + (most_cost + most_flow * most_length) → Fits w128 n
fits n low = search (rules, arith)

pub overflow_add-loads : goal.overflow_add-loads
overflow_add-loads c =
    let p = c.args.tables.now in
    let x = c.loop-x.x in
    let ks = c.candidates-candidates.result.now in
    let listed : ℕ → ℕ = λ k. c.args.offset + c.args.flow * node_value p c.args.unit c.args.row.now k in
    let added = value_at (values_listed listed p.candidates) in
    let same = c.candidates-candidates.ensures.value ∙ ap (λ (q : Problem). q.candidates) c.instance.ensures.value in
    let within : x < length p.candidates = omega (arith, c.loop-x-test.true, ap (λ (ms : List ℕ). length ms) same) in
    let ok = c.ceiling-ceiling.ensures.problem in
    let node = ap (λ (ms : List ℕ). slice_index ms x) same in
    let here = ap (slice_index c.loop-x.loads) node in
    let old = All-get_or (λ v. v ≤ 2 ^ 120) c.args.loads.now (candidate_at p x) 0
    (omega (arith, candidate_node p x ok within, c.requires.long)) c.requires.limit in
    let value : c.value_of.result ≤ most_length = omega (arith, c.value_of.ensures, c.ceiling-ceiling.ensures.limit) in
    fits (slice_index c.loop-x.loads (slice_index ks x) + (c.args.offset + c.args.flow * c.value_of.result))
    (omega (
      arith,
      here,
      next_fresh p x added c.args.loads.now c.loop-x.loads ok within c.loop-x.invariant,
      old,
      c.requires.offset,
      mul-le c.args.flow c.value_of.result most_flow most_length c.requires.flow value,
    ))

pub loop-x-preserved : goal.loop-x-preserved
loop-x-preserved c =
    let p = c.args.tables.now in
    let x = c.loop-x.x in
    let row = c.args.row.now in
    let k = slice_index c.candidates-candidates.result.now x in
    let listed : ℕ → ℕ = λ k. c.args.offset + c.args.flow * node_value p c.args.unit row k in
    let added = value_at (values_listed listed p.candidates) in
    let same = c.candidates-candidates.ensures.value ∙ ap (λ (q : Problem). q.candidates) c.instance.ensures.value in
    let within : x < length p.candidates = omega (arith, c.loop-x-test.true, ap (λ (ms : List ℕ). length ms) same) in
    let ok = c.ceiling-ceiling.ensures.problem in
    let node : k ≡ candidate_at p x = ap (λ (ms : List ℕ). slice_index ms x) same in
    let value = worked_value p c.args.unit row x c.ceiling-ceiling.result c.value_of.result ok c.requires.row within
    c.ceiling-ceiling.ensures.value c.value_of.ensures in
    let there : Contains p.candidates k = subst (Contains p.candidates) (sym node) (Contains-get_or p.candidates x 0 within) in
    let more : c.args.offset + c.args.flow * c.value_of.result ≡ added k =
    ap (λ (v : ℕ). c.args.offset + c.args.flow * v) value ∙ ap listed (sym node) ∙ sym (value_at_listed listed p.candidates k (inl there)) in
    added_more p x k (slice_index c.loop-x.loads k + (c.args.offset + c.args.flow * c.value_of.result)) added c.args.loads.now c.loop-x.loads ok within node
    (omega (arith, node, candidate_node p x ok within, c.loop-x.auto.loads, c.requires.long))
    (ap (λ (v : ℕ). slice_index c.loop-x.loads k + v) more) c.loop-x.invariant

pub returns : goal.returns
returns c = λ k below.
    (let p = c.args.tables.now in
    let listed : ℕ → ℕ = λ m. c.args.offset + c.args.flow * node_value p c.args.unit c.args.row.now m in
    let same = c.candidates-candidates.ensures.value ∙ ap (λ (q : Problem). q.candidates) c.instance.ensures.value in
    let all = ap (λ (ms : List ℕ). length ms) same in
    added_all p c.loop-x.x k (value_at (values_listed listed p.candidates)) c.args.loads.now c.loop-x.loads
    (omega (arith, all, c.loop-x-test.false, c.loop-x.auto.x-end)) (listed_none p listed) c.loop-x.invariant)
