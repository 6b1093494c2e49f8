-- The values of one origin on the way to the least: the lengths that they hang on, as functions, and what holds so far.
use Rattle.std.specs.Prelude.{◌≡◌, ℕ, ◌+◌, ◌-◌, ◌*◌, ◌<◌, ◌≤◌, List, length, slice_index, All}
use Rattle.unit_duals.specs.Cells.{cell}
use Rattle.unit_duals.specs.Lengths.{UnitLegs, AreFirstLegs, trunk_leg, last_leg}
use Rattle.unit_duals.specs.Leasts.{least_of}
use Rattle.unit_duals.specs.Limits.{most_length}
use Rattle.unit_duals.specs.declared.turns.OriginLengths.{OriginLengths}

-- the least length from the stop k to j, straight or by a hub
unfoldable pub back_leg : UnitLegs → ℕ → ℕ → ℕ
back_leg l k j = least_of (last_leg l k j) (λ m. trunk_leg l k (l.count + m) + last_leg l (l.count + m) j) l.hubs

-- the least length from the origin to the stop k, straight or by a hub
unfoldable pub reach_leg : UnitLegs → List ℕ → ℕ → ℕ
reach_leg l first k =
    least_of (slice_index first k) (λ m. slice_index first (l.count + m) + trunk_leg l (l.count + m) k) l.hubs

-- the least length from the origin to j, by one hub or by two
unfoldable pub price_by : UnitLegs → List ℕ → ℕ → ℕ
price_by l first j =
    least_of (slice_index first l.count + back_leg l l.count j)
    (λ m. slice_index first (l.count + m) + back_leg l (l.count + m) j) l.hubs

-- the prices are these least lengths
pub record ArePricesBy (l : UnitLegs) (first prices : List ℕ) : Type 0 where
  pub each : (j : ℕ) → j < l.size → slice_index prices j ≡ price_by l first j

-- the lengths of one origin: from it to a stop straight and at least, from a stop on straight and at least
pub record Origin : Type 0 where
  pub price : ℕ → ℕ
  pub first : ℕ → ℕ
  pub reach : ℕ → ℕ
  pub trunk : ℕ → ℕ → ℕ
  pub last : ℕ → ℕ → ℕ
  pub back : ℕ → ℕ → ℕ

-- the lengths of an origin with these prices, first legs and least lengths to the stops
abbrev pub origin_of : UnitLegs → List ℕ → List ℕ → List ℕ → Origin
origin_of l prices first reach = record {
  price = slice_index prices;
  first = slice_index first;
  reach = slice_index reach;
  trunk = trunk_leg l;
  last = last_leg l;
  back = back_leg l;
}

-- the length by the stop k first and m last
abbrev pub length_by : Origin → ℕ → ℕ → ℕ → ℕ
length_by o k m j = o.first k + o.trunk k m + o.last m j

-- v is nothing, or just what a way by the place t asks, with hubs or with a place before e
pub data IsTight (o : Origin) (values : ℕ → ℕ → ℕ) (t j e v : ℕ) : Type 0 where
  at_nothing : v ≡ 0 → IsTight o values t j e v
  at_back : v + (o.first t + o.back t j) ≡ o.price j → IsTight o values t j e v
  at_reach : v + (o.reach t + o.last t j) ≡ o.price j → IsTight o values t j e v
  at_forth : (m : ℕ) → m < e → v + (length_by o t m j + values m j) ≡ o.price j → IsTight o values t j e v
  at_home : (m : ℕ) → m < e → v + (length_by o m t j + values m j) ≡ o.price j → IsTight o values t j e v

-- v is the least value of the place t for j, as far as hubs and the places before e ask
pub record IsValue (o : Origin) (values : ℕ → ℕ → ℕ) (t j e v : ℕ) : Type 0 where
  pub by_last : o.price j ≤ v + (o.first t + o.back t j)
  pub by_first : o.price j ≤ v + (o.reach t + o.last t j)
  pub forth : (m : ℕ) → m < e → o.price j ≤ v + (length_by o t m j + values m j)
  pub home : (m : ℕ) → m < e → o.price j ≤ v + (length_by o m t j + values m j)
  pub tight : IsTight o values t j e v

-- the rows of the places before t are done
pub record AreFinal (o : Origin) (n t : ℕ) (values : List ℕ) : Type 0 where
  pub each : (s j : ℕ) → s < t → j < n → IsValue o (cell n values) s j s (cell n values s j)

-- the row of the place t has what hubs and the places before e ask
pub record IsRowAt (o : Origin) (n t e : ℕ) (values : List ℕ) : Type 0 where
  pub each : (j : ℕ) → j < n → IsValue o (cell n values) t j e (cell n values t j)

-- for the places before t: what the price leaves beside the value, and beside the value and the last leg
pub record AreSlackRows (o : Origin) (n t : ℕ) (values slack rest : List ℕ) : Type 0 where
  pub after_last : (e j : ℕ) → e < t → j < n → cell n slack e j ≡ o.price j - (o.last e j + cell n values e j)
  pub after_value : (e j : ℕ) → e < t → j < n → cell n rest e j ≡ o.price j - cell n values e j

-- the state at the turn of the place t: earlier rows are done, and row t has what the places before e ask
pub record IsTurnAt (o : Origin) (n t e : ℕ) (values slack rest : List ℕ) : Type 0 where
  pub slacks : AreSlackRows o n t values slack rest
  pub final : AreFinal o n t values
  pub row : IsRowAt o n t e values

-- the lengths of an origin as they are held
abbrev pub held_origin : OriginLengths → Origin
held_origin s = origin_of s.tables.now.legs s.prices.now s.first.now s.reach.now

-- the lists that they are held in have their lengths, and each number its limit
pub record AreOriginLengths (s : OriginLengths) : Type 0 where
  pub prices_long : length s.prices.now ≡ s.tables.now.legs.size
  pub price_limit : All (λ d. d ≤ most_length) s.prices.now
  pub first_legs : AreFirstLegs s.tables.now.legs s.first.now
  pub reach_legs : AreFirstLegs s.tables.now.legs s.reach.now

-- the lists that an origin is worked out in have a row for each place
pub record AreWorkLists (l : UnitLegs) (slack rest values : List ℕ) : Type 0 where
  pub slack_long : length slack ≡ l.count * l.size
  pub rest_long : length rest ≡ l.count * l.size
  pub values_long : length values ≡ l.count * l.size

-- the rows of the origin that are done, and those that are noted
abbrev pub AreRowsDone : OriginLengths → ℕ → List ℕ → Type 0
AreRowsDone s t values = AreFinal (held_origin s) s.tables.now.legs.size t values

abbrev pub AreRowsNoted : OriginLengths → ℕ → List ℕ → List ℕ → List ℕ → Type 0
AreRowsNoted s t values slack rest = AreSlackRows (held_origin s) s.tables.now.legs.size t values slack rest
