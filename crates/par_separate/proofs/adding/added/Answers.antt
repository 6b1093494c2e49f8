use Rattle.std.proofs.Common.{◌≡◌, ℕ, ◌+◌, ◌<◌, List, length, drop, slice_index, ap, sym, ◌∙◌, arith, rules}
use Rattle.std.proofs.lemmas.List.{take_at}
use Rattle.par_separate.specs.Origins.{AreSumsFrom}
use Rattle.par_separate.proofs.OriginZips.{many_origins}
use Rattle.par_separate.proofs.AddedOrigins.{next_origin, total_further, load_further, total_further_fits, load_further_fits, all_total, all_load}
use Rattle.par_separate.proofs.adding.added.Goals as goal

pub overflow_add-total : goal.overflow_add-total
overflow_add-total c =
    let s = c.args.separation.now in
    let i = c.loop-origin.origin-index in
    let o = c.origin-item.result in
    let next = next_origin s c.args.origins.now i o c.requires.each c.loop-origin-test.true c.origin-item.is in
    let fits = total_further_fits s i c.loop-origin.total o c.instance.ensures.separation next.0 c.loop-origin.invariant.total next.1 in
    search (rules, arith)

pub add_each-requires-clause-long : goal.add_each-requires-clause-long
add_each-requires-clause-long c =
    let s = c.args.separation.now in
    let i = c.loop-origin.origin-index in
    let o = c.origin-item.result in
    let next = next_origin s c.args.origins.now i o c.requires.each c.loop-origin-test.true c.origin-item.is in
    ap length c.deref.ensures.value ∙ next.1.one_load_each ∙ sym c.loop-origin.invariant.long ∙ sym (ap length c.deref_mut.ensures.value)

pub add_each-requires-clause-fit : goal.add_each-requires-clause-fit
add_each-requires-clause-fit c = λ k node.
    (let s = c.args.separation.now in
    let i = c.loop-origin.origin-index in
    let o = c.origin-item.result in
    let next = next_origin s c.args.origins.now i o c.requires.each c.loop-origin-test.true c.origin-item.is in
    let within : k < s.problem.size = omega (arith, node, ap length c.deref_mut.ensures.value, c.loop-origin.invariant.long) in
    let fits = load_further_fits s i k (slice_index c.loop-origin.loads.items k) o c.instance.ensures.separation next.0 within (c.loop-origin.invariant.loads k within) next.1 in
    omega (arith, fits, ap (λ (xs : List ℕ). slice_index xs k) c.deref_mut.ensures.value, ap (λ (xs : List ℕ). slice_index xs k) c.deref.ensures.value))

pub loop-origin-preserved : goal.loop-origin-preserved
loop-origin-preserved c =
    let s = c.args.separation.now in
    let i = c.loop-origin.origin-index in
    let o = c.origin-item.result in
    let next = next_origin s c.args.origins.now i o c.requires.each c.loop-origin-test.true c.origin-item.is in
    let mine = c.deref_mut.ensures.value in
    let long : length c.add_each.new.loads ≡ s.problem.size = c.add_each.ensures.long ∙ ap length mine ∙ c.loop-origin.invariant.long in
    let front = take_at c.add_each.new.loads (drop (length c.add_each.new.loads) c.loop-origin.loads.items) c.loop-origin.loads.len
    (omega (arith, long, c.loop-origin.invariant.long, c.loop-origin.loads.ok.0)) in
    record {
      total = total_further s i c.loop-origin.total o next.0 c.loop-origin.invariant.total next.1;
      long = ap length front ∙ long;
      loads = λ k node.
          ap (λ (xs : List ℕ). slice_index xs k) front
          ∙ c.add_each.ensures.sums k (omega (arith, node, ap length mine, c.loop-origin.invariant.long))
          ∙ ap (λ (xs : List ℕ). slice_index xs k + slice_index c.deref.result.now k) mine
          ∙ ap (λ (xs : List ℕ). slice_index c.loop-origin.loads.items k + slice_index xs k) c.deref.ensures.value
          ∙ load_further s i k (slice_index c.loop-origin.loads.items k) o next.0 node (c.loop-origin.invariant.loads k node) next.1;
    }

pub returns-clause-total : goal.returns-clause-total
returns-clause-total c =
    let s = c.args.separation.now in
    c.loop-origin.invariant.total
    ∙ all_total s c.loop-origin.origin-index
    (omega (arith, c.loop-origin-test.false, many_origins (AreSumsFrom s) s.problem.size c.args.origins.now c.requires.each, c.loop-origin.auto.origin-index-end))

pub returns-clause-loads : goal.returns-clause-loads
returns-clause-loads c = λ k node.
    (let s = c.args.separation.now in
    c.loop-origin.invariant.loads k node
    ∙ all_load s k c.loop-origin.origin-index
    (omega (arith, c.loop-origin-test.false, many_origins (AreSumsFrom s) s.problem.size c.args.origins.now c.requires.each, c.loop-origin.auto.origin-index-end)))
