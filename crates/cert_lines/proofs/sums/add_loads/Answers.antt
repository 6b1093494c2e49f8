use Rattle.std.proofs.Common.{ℕ, ◌+◌, ◌*◌, ◌<◌, ◌≤◌, length, slice_index, arith}
use Rattle.std.proofs.lemmas.List.{get_or_default}
use Rattle.std.proofs.lemmas.List.Elements.{All-get_or}
use Rattle.hub_spec.specs.Limits.{most_cost}
use Rattle.cert_lines.proofs.Shares.{share_within, sum_fits}
use Rattle.cert_lines.proofs.sums.add_loads.Goals as goal

pub returns-clause-limit : goal.returns-clause-limit
returns-clause-limit c k d within =
    let there : k < length c.args.sums.now = omega (arith, within, c.loop-k.auto.sums) in
    let same = get_or_default c.loop-k.sums k d 0 within in
    let sum = c.loop-k.invariant.done k (omega (arith, there, c.loop-k-test.false)) in
    let before = All-get_or (λ (sum : ℕ). sum ≤ c.args.before * most_cost) c.args.sums.now k 0 there c.requires.sums in
    let load = All-get_or (λ (load : ℕ). load ≤ c.args.part * most_cost) c.args.loads.now k 0 (omega (arith, there, c.requires.count)) c.requires.loads in
    let more = share_within c.times_of-times.result c.args.part c.args.weight (slice_index c.args.loads.now k) c.times_of-times.ensures.limit load in
    omega (arith, same, sum, before, more)

-- what the cut adds at a node, and what it is added to
pub overflow_mul-sums : goal.overflow_mul-sums
overflow_mul-sums c =
    let k = c.loop-k.k in
    let load = All-get_or (λ (load : ℕ). load ≤ c.args.part * most_cost) c.args.loads.now k 0
    (omega (arith, c.loop-k-test.true, c.loop-k.auto.sums, c.requires.count)) c.requires.loads in
    let more = share_within c.times_of-times.result c.args.part c.args.weight (slice_index c.args.loads.now k) c.times_of-times.ensures.limit load in
    sum_fits (c.times_of-times.result * slice_index c.args.loads.now k) (omega (arith, more, c.requires.fits))

pub overflow_add-sums : goal.overflow_add-sums
overflow_add-sums c =
    let k = c.loop-k.k in
    let there : k < length c.args.sums.now = omega (arith, c.loop-k-test.true, c.loop-k.auto.sums) in
    let same = c.loop-k.invariant.left k (omega arith) there in
    let before = All-get_or (λ (sum : ℕ). sum ≤ c.args.before * most_cost) c.args.sums.now k 0 there c.requires.sums in
    let load = All-get_or (λ (load : ℕ). load ≤ c.args.part * most_cost) c.args.loads.now k 0 (omega (arith, there, c.requires.count)) c.requires.loads in
    let more = share_within c.times_of-times.result c.args.part c.args.weight (slice_index c.args.loads.now k) c.times_of-times.ensures.limit load in
    sum_fits (slice_index c.loop-k.sums k + c.times_of-times.result * slice_index c.args.loads.now k)
    (omega (arith, same, before, more, c.requires.fits))
