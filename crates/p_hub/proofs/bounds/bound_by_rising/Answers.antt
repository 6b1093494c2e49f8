use Rattle.std.proofs.Common.{◌≡◌, ℕ, ◌+◌, ◌-◌, ◌*◌, ◌<◌, ◌≤◌, ℤ, pos, ◌+ℤ◌, length, get_or, FitsSigned, to_z, refl, ap, ap₂, ◌∙◌, arith}
use Rattle.std.specs.Int.{w128}
use Rattle.std.proofs.lemmas.Int.{to_z-of_z}
use Rattle.hub_spec.specs.Limits.{most_nodes}
use Rattle.hub_spec.specs.Sums.{sum_ints}
use Rattle.hub_spec.proofs.SortedSums.{front_sum}
use Rattle.leaf_bound.specs.Weighing.{most_gain, IsWithin}
use Rattle.leaf_bound.proofs.LentNumbers.{few_listed, gain_nodes, base_within, within_fits, parts_within, parts_passed, parts_fit}
use Rattle.p_hub.specs.Counted.{gain_in}
use Rattle.p_hub.proofs.RisingGains.{IsFrontSum, front_next, front_within, values_long, value_within}
use Rattle.p_hub.proofs.CountedBounds.{front_is_least}
use Rattle.p_hub.proofs.bounds.bound_by_rising.Goals as goal
use Rattle.p_hub.proofs.bounds.bound_by_rising.Goals.{After-inside-inside}

pub sum_of_gains-requires-clause-few : goal.sum_of_gains-requires-clause-few
sum_of_gains-requires-clause-few c =
    few_listed c.inside-inside.result.now c.args.branch.now.inside (length c.args.gains.now) c.inside-inside.ensures.value
    c.inside-inside.ensures.split.inside_ascends (gain_nodes c.args.gains.now c.args.branch.now.inside c.requires.gains.inside) c.requires.few

few_free : (c : After-inside-inside) → length c.args.branch.now.free ≤ most_nodes
few_free c =
    few_listed c.args.branch.now.free c.args.branch.now.free (length c.args.gains.now) refl c.inside-inside.ensures.split.free_ascends
    (gain_nodes c.args.gains.now c.args.branch.now.free c.requires.gains.free) c.requires.few

pub bounds-rising-i : goal.bounds-rising-i
bounds-rising-i c =
    omega (
      arith,
      c.loop-i-test.true,
      c.requires.room.1,
      ap length c.inside-inside.ensures.value,
      values_long c.args.gains.now c.args.branch.now.free c.args.rising.now c.requires.rising,
    )

-- the gain at the place of the loop, and the sum with it
low : (c : goal.After-missing-1) → c.loop-i.i < length c.args.branch.now.free
low c = omega (arith, c.loop-i-test.true, c.requires.room.1, ap length c.inside-inside.ensures.value)

abbrev here : goal.After-missing-1 → ℤ
here c = get_or c.args.rising.now c.loop-i.i (pos 0)

abbrev sum : goal.After-missing-1 → ℤ
sum c = to_z w128 c.loop-i.missing-bits +ℤ here c

within : (c : goal.After-missing-1) → IsWithin most_gain (here c)
within c =
    value_within c.args.gains.now c.args.branch.now.free c.args.rising.now c.loop-i.i c.requires.rising c.requires.gains.free (low c)

next : (c : goal.After-missing-1) → IsFrontSum c.args.rising.now (c.loop-i.i + 1) (sum c)
next c =
    front_next c.args.rising.now c.loop-i.i (to_z w128 c.loop-i.missing-bits) (here c)
    (omega (arith, low c, values_long c.args.gains.now c.args.branch.now.free c.args.rising.now c.requires.rising)) refl (within c) c.loop-i.invariant

gain_fits : (c : goal.After-missing-1) → FitsSigned w128 (here c)
gain_fits c = within_fits most_gain (here c) (omega arith) (within c)

sum_fits : (c : goal.After-missing-1) → FitsSigned w128 (sum c)
sum_fits c =
    within_fits (most_nodes * most_gain) (sum c) (omega arith)
    (front_within c.args.rising.now (c.loop-i.i + 1) (sum c) (omega (arith, low c, few_free (goal.at.overflow_add-missing c).After-inside-inside)) (next c))

pub overflow_add-missing : goal.overflow_add-missing
overflow_add-missing c = rw (to_z-of_z w128 (here c) (gain_fits c)) (sum_fits c)

pub loop-i-preserved : goal.loop-i-preserved
loop-i-preserved c = rw (to_z-of_z w128 (here c) (gain_fits c), to_z-of_z w128 (sum c) (sum_fits c)) (next c)

-- the three parts of the bound
counts : (c : goal.After-loop-i) → c.loop-i.i ≡ c.args.p - length c.args.branch.now.inside
counts c = omega (arith, c.loop-i-test.false, c.loop-i.auto.i-end, ap length c.inside-inside.ensures.value)

missing_within : (c : goal.After-loop-i) → IsWithin (most_nodes * most_gain) (to_z w128 c.loop-i.missing-bits)
missing_within c =
    let few = few_free (goal.at.overflow_add-result c).After-inside-inside in
    front_within c.args.rising.now c.loop-i.i (to_z w128 c.loop-i.missing-bits) (omega (arith, counts c, c.requires.room.1, few)) c.loop-i.invariant

base_is : (c : goal.After-loop-i) → IsWithin most_gain c.signed.result
base_is c = base_within c.signed.result c.args.base c.signed.ensures c.requires.base

pub overflow_add-result : goal.overflow_add-result
overflow_add-result c =
    let missing = to_z w128 c.loop-i.missing-bits in
    parts_fit c.signed.result c.sum_of_gains.result missing (base_is c) c.sum_of_gains.ensures.limit (missing_within c)

pub returns-clause-value : goal.returns-clause-value
returns-clause-value c =
    let missing = to_z w128 c.loop-i.missing-bits in
    let fits = within_fits (most_nodes * most_gain) missing (omega arith) (missing_within c) in
    let passed = parts_passed c.signed.result c.sum_of_gains.result missing (base_is c) c.sum_of_gains.ensures.limit (missing_within c) in
    let inside = c.sum_of_gains.ensures.value ∙ ap (sum_ints (gain_in c.args.gains.now)) c.inside-inside.ensures.value in
    let free = c.loop-i.invariant.value ∙ ap (λ (n : ℕ). front_sum n c.args.rising.now) (counts c)
    ∙ front_is_least (c.args.p - length c.args.branch.now.inside) c.args.gains.now c.args.branch.now.free c.args.rising.now c.requires.rising in
    rw (to_z-of_z w128 missing fits) at passed
    ∙ ap₂ (λ (x y : ℤ). x +ℤ y) (ap₂ (λ (x y : ℤ). x +ℤ y) c.signed.ensures inside) free

pub returns-clause-limit : goal.returns-clause-limit
returns-clause-limit c =
    let missing = to_z w128 c.loop-i.missing-bits in
    let fits = within_fits (most_nodes * most_gain) missing (omega arith) (missing_within c) in
    let passed = rw (to_z-of_z w128 missing fits) at
    (parts_passed c.signed.result c.sum_of_gains.result missing (base_is c) c.sum_of_gains.ensures.limit (missing_within c)) in
    rw passed (parts_within c.signed.result c.sum_of_gains.result missing (base_is c) c.sum_of_gains.ensures.limit (missing_within c))
