use Rattle.std.proofs.Common.{◌≡◌, ℕ, ◌*◌, ◌<◌, ◌≤◌, ◌^◌, zip, get_or, refl, ap, rules, arith}
use Rattle.std.proofs.lemmas.Nat.{mul-le}
use Rattle.hub_spec.specs.Limits.{most_flow}
use Rattle.hub_spec.specs.Cuts.{value_at}
use Rattle.hub_model.proofs.ListedValues.{listed_more}
use Rattle.core_cuts.specs.Readings.{most_units}
use Rattle.core_cuts.proofs.Zipped.{value_at_limit}
use Rattle.core_cuts.proofs.unit_prices.list_times.Goals as goal
use Rattle.core_cuts.proofs.unit_prices.list_times.Goals.{After-value_of}

times_low : (c : After-value_of) → c.args.carried * c.value_of.result < 2 ^ 127
times_low c =
    let k = get_or c.args.candidates.now c.loop-k.k-index 0 in
    let low : c.value_of.result ≤ most_units =
    omega (arith, c.value_of.ensures, value_at_limit most_units c.args.candidates.now c.args.values.now k c.requires.values) in
    omega (arith, mul-le c.args.carried c.value_of.result most_flow most_units c.requires.carried low)

pub overflow_mul-value : goal.overflow_mul-value
overflow_mul-value c =
    let low = times_low (goal.at.overflow_mul-value c).After-value_of in
    search (rules, arith)

pub list_value-requires-clause-limit : goal.list_value-requires-clause-limit
list_value-requires-clause-limit c = times_low (goal.at.list_value-requires-clause-limit c).After-value_of

pub loop-k-preserved : goal.loop-k-preserved
loop-k-preserved c =
    let ks = c.args.candidates.now in
    let k = get_or ks c.loop-k.k-index 0 in
    let v : ℕ → ℕ = λ k. c.args.carried * value_at (zip ks c.args.values.now) k in
    let n = c.args.carried * c.value_of.result in
    let value : n ≡ v k = ap (λ (a : ℕ). c.args.carried * a) c.value_of.ensures in
    record {
      entries = listed_more v ks c.loop-k.k-index k n c.loop-k.list.items c.list_value.new.list.items c.loop-k-test.true refl value
          c.list_value.ensures.are c.loop-k.invariant.entries;
      few = omega (arith, c.list_value.ensures.few, c.loop-k.invariant.few);
      room = omega (arith, c.list_value.ensures.room, c.loop-k.invariant.room);
    }
