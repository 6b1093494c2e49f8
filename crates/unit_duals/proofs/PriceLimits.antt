-- Prices are within the limit of a length, and no value is above its price.
use Rattle.std.proofs.Common.{ℕ, ◌+◌, ◌<◌, ◌≤◌, List, slice_index, arith}
use Rattle.std.proofs.lemmas.List.Elements.{All-get_or}
use Rattle.unit_duals.specs.Cells.{cell}
use Rattle.unit_duals.specs.Limits.{most_leg, most_length}
use Rattle.unit_duals.specs.Lengths.{UnitLegs, AreLegs, AreFirstLegs, stops}
use Rattle.unit_duals.specs.Values.{Origin, back_leg, price_by, IsTight, at_nothing, at_back, at_reach, at_forth, at_home, AreFinal}
use Rattle.unit_duals.proofs.LeastNumbers.{least_of_le_start}
use Rattle.unit_duals.proofs.LegRows.{back_leg_limit}

pub price_limit : (l : UnitLegs) (first : List ℕ) (j : ℕ) → 1 ≤ l.hubs → j < l.size → AreLegs l → AreFirstLegs l first
    → price_by l first j ≤ most_length
unfolding price_by
price_limit l first j some column legs firsts =
    let stop : l.count < stops l = omega (arith, some) in
    omega (
      arith,
      least_of_le_start (slice_index first l.count + back_leg l l.count j) (λ m. slice_index first (l.count + m) + back_leg l (l.count + m) j) l.hubs,
      All-get_or (λ d. d ≤ most_leg) first l.count 0 (omega (arith, stop, firsts.long)) firsts.limit,
      back_leg_limit l l.count j legs stop column,
    )

tight_within : (o : Origin) (values : ℕ → ℕ → ℕ) (t j e v : ℕ) → IsTight o values t j e v → v ≤ o.price j
tight_within o values t j e v (at_nothing h) = omega (arith, h)
tight_within o values t j e v (at_back h) = omega (arith, h)
tight_within o values t j e v (at_reach h) = omega (arith, h)
tight_within o values t j e v (at_forth m below h) = omega (arith, h)
tight_within o values t j e v (at_home m below h) = omega (arith, h)

pub value_within : (o : Origin) (n t j : ℕ) (values : List ℕ) → AreFinal o n (t + 1) values → j < n → cell n values t j ≤ o.price j
value_within o n t j values final column =
    tight_within o (cell n values) t j t (cell n values t j) (final.each t j (omega arith) column).tight
