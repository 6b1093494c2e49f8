-- Lists of destinations that are near, one for each place and each earlier place.
use Rattle.std.specs.Prelude.{◌≢◌, ℕ, ◌+◌, ◌*◌, ◌<◌, ◌≤◌, List, length, slice_index, All}
use Rattle.unit_duals.specs.Cells.{cell}
use Rattle.unit_duals.specs.Lengths.{UnitLegs, trunk_leg, last_leg}
use Rattle.unit_duals.specs.Values.{back_leg}

-- the way from t by e to j is no shorter than the least from t on
abbrev pub IsNoShorterForth : UnitLegs → ℕ → ℕ → ℕ → Type 0
IsNoShorterForth l t e j = back_leg l t j ≤ trunk_leg l t e + last_leg l e j

-- the way from e by t to j is no shorter than the least from e on
abbrev pub IsNoShorterHome : UnitLegs → ℕ → ℕ → ℕ → Type 0
IsNoShorterHome l t e j = back_leg l e j ≤ trunk_leg l e t + last_leg l t j

-- the first, where a table has the least lengths
abbrev pub IsFarForth : UnitLegs → List ℕ → ℕ → ℕ → ℕ → Type 0
IsFarForth l back t e j = cell l.size back t j ≤ trunk_leg l t e + last_leg l e j

-- the second, where a table has them
abbrev pub IsFarHome : UnitLegs → List ℕ → ℕ → ℕ → ℕ → Type 0
IsFarHome l back t e j = cell l.size back e j ≤ trunk_leg l e t + last_leg l t j

-- a list of destinations below n that has at least all that are not far
pub record HoldsNear (n : ℕ) (far : ℕ → Type 0) (nodes : List ℕ) : Type 0 where
  pub are_nodes : All (λ j. j < n) nodes
  pub left_out : (j : ℕ) → j < n → ((y : ℕ) → y < length nodes → slice_index nodes y ≢ j) → far j

-- the same of the part of a list from start to end
pub record IsNearPart (n : ℕ) (far : ℕ → Type 0) (start end : ℕ) (nodes : List ℕ) : Type 0 where
  pub ordered : start ≤ end
  pub within : end ≤ length nodes
  pub are_nodes : (y : ℕ) → start ≤ y → y < end → slice_index nodes y < n
  pub left_out : (j : ℕ) → j < n → ((y : ℕ) → start ≤ y → y < end → slice_index nodes y ≢ j) → far j

-- the lists of the places before t: that of place s and the earlier place d has the number s * c + d
pub record AreNearLists (n c : ℕ) (far : ℕ → ℕ → ℕ → Type 0) (t : ℕ) (starts nodes : List ℕ) : Type 0 where
  pub each : (s d : ℕ) → d < s → s < t
      → IsNearPart n (far s d) (slice_index starts (s * c + d)) (slice_index starts (s * c + d + 1)) nodes

-- they end at `end` at most, and the room of the places before t suffices
pub record AreNearUpTo (n c : ℕ) (far : ℕ → ℕ → ℕ → Type 0) (t end : ℕ) (starts nodes : List ℕ) : Type 0 where
  pub lists : AreNearLists n c far t starts nodes
  pub ends : (s d : ℕ) → d < s → s < t → slice_index starts (s * c + d + 1) ≤ end
  pub small : 2 * end ≤ t * t * n

-- the lists of all places for the ways to a place and on by an earlier one
abbrev pub AreListsForth : UnitLegs → List ℕ → List ℕ → List ℕ → Type 0
AreListsForth l back starts nodes = AreNearLists l.size l.count (IsFarForth l back) l.count starts nodes

-- the lists of all places for the ways by an earlier place and on by a place
abbrev pub AreListsHome : UnitLegs → List ℕ → List ℕ → List ℕ → Type 0
AreListsHome l back starts nodes = AreNearLists l.size l.count (IsFarHome l back) l.count starts nodes

-- the first, as far as the places before t
abbrev pub AreForthUpTo : UnitLegs → List ℕ → ℕ → ℕ → List ℕ → List ℕ → Type 0
AreForthUpTo l back t end starts nodes = AreNearUpTo l.size l.count (IsFarForth l back) t end starts nodes

-- the second, as far as the places before t
abbrev pub AreHomeUpTo : UnitLegs → List ℕ → ℕ → ℕ → List ℕ → List ℕ → Type 0
AreHomeUpTo l back t end starts nodes = AreNearUpTo l.size l.count (IsFarHome l back) t end starts nodes
