-- Routes by hubs alone.
use Rattle.std.specs.Prelude.{◌≡◌, ℕ, ◌+◌, ◌<◌, ◌≤◌, List, length}
use Rattle.unit_duals.specs.Lengths.{UnitLegs, IsHub, trunk_leg, last_leg, way}
use Rattle.unit_duals.specs.Cells.{IsTable}
use Rattle.unit_duals.specs.Leasts.{least_of, IsFirstLeast}

-- the length from the hub number x by the hub number y to j
abbrev pub hop_by : UnitLegs → ℕ → ℕ → ℕ → ℕ
hop_by l x j y = trunk_leg l (l.count + x) (l.count + y) + last_leg l (l.count + y) j

-- the least of them
abbrev pub least_hop : UnitLegs → ℕ → ℕ → ℕ
least_hop l x j = least_of (hop_by l x j 0) (hop_by l x j) l.hubs

-- for each hub and destination the first of the best last hubs
abbrev pub AreBestHops : UnitLegs → List ℕ → Type 0
AreBestHops l lasts = IsTable l.size (λ x j y. IsFirstLeast (hop_by l x j) l.hubs y) lasts (length lasts)

-- .. and the length by it
abbrev pub AreHopLengths : UnitLegs → List ℕ → Type 0
AreHopLengths l lengths = IsTable l.size (λ x j v. v ≡ least_hop l x j) lengths (length lengths)

-- the way by k first and m last is the first of the shortest by hubs: k is as early as it can be, and then m
pub record IsFirstRoute (l : UnitLegs) (first : List ℕ) (j k m : ℕ) : Type 0 where
  pub first_is_hub : IsHub l k
  pub last_is_hub : IsHub l m
  pub least : (x y : ℕ) → IsHub l x → IsHub l y → way l first k m j ≤ way l first x y j
  pub first_hub : (x y : ℕ) → IsHub l x → IsHub l y → x < k → way l first k m j < way l first x y j
  pub last_hub : (y : ℕ) → IsHub l y → y < m → way l first k m j < way l first k y j
