-- What becomes of values that are raised to what ways ask of them.
use Rattle.std.specs.Prelude.{◌≡◌, ◌≢◌, ℕ, ◌+◌, ◌-◌, ◌<◌, ◌≤◌, ◌⊎◌, max, List, slice_index}
use Rattle.unit_duals.specs.Cells.{cell}
use Rattle.unit_duals.specs.Lengths.{UnitLegs, trunk_leg, last_leg}
use Rattle.unit_duals.specs.Values.{back_leg}
use Rattle.unit_duals.specs.Nearness.{IsNoShorterForth, IsNoShorterHome}

-- what the ways by hubs ask of the place t
abbrev pub asked_by_hubs : UnitLegs → List ℕ → List ℕ → List ℕ → ℕ → ℕ → ℕ
asked_by_hubs l prices first reach t j =
    max (slice_index prices j - (slice_index first t + back_leg l t j))
    (slice_index prices j - (slice_index reach t + last_leg l t j))

-- what the way by t and then the earlier place e asks, by what the price leaves beside e's value and last leg
abbrev pub asked_forth : UnitLegs → List ℕ → List ℕ → ℕ → ℕ → ℕ → ℕ
asked_forth l first slack t e j = slice_index slack j - (slice_index first t + trunk_leg l t e)

-- what the way by e and then t asks, by what the price leaves beside e's value
abbrev pub asked_home : UnitLegs → List ℕ → List ℕ → ℕ → ℕ → ℕ → ℕ
asked_home l first rest t e j = slice_index rest j - (slice_index first e + trunk_leg l e t + last_leg l t j)

-- the way by t and then e asks no more than ways by hubs do
abbrev pub IsSparedForth : UnitLegs → List ℕ → List ℕ → ℕ → ℕ → ℕ → Type 0
IsSparedForth l first reach t e j =
    (slice_index reach e ≤ slice_index first t + trunk_leg l t e) ⊎ IsNoShorterForth l t e j

-- nor does the way by e and then t
abbrev pub IsSparedHome : UnitLegs → List ℕ → List ℕ → ℕ → ℕ → ℕ → Type 0
IsSparedHome l first reach t e j =
    (slice_index reach t ≤ slice_index first e + trunk_leg l e t) ⊎ IsNoShorterHome l t e j

-- what the rest leaves beside the base and the last leg
abbrev pub left_beside : List ℕ → List ℕ → ℕ → ℕ → ℕ
left_beside rest last base j = slice_index rest j - (base + slice_index last j)

-- from `at` on, the values of the first count nodes of the list are raised to what ways ask; no other value changes
pub record IsRaised (at : ℕ) (nodes : List ℕ) (asked : ℕ → ℕ) (count : ℕ) (old new : List ℕ) : Type 0 where
  pub grown : (x : ℕ) → slice_index old x ≤ slice_index new x
  pub met : (y : ℕ) → y < count → asked (slice_index nodes y) ≤ slice_index new (at + slice_index nodes y)
  pub tight : (x : ℕ) → (slice_index new x ≡ slice_index old x)
      ⊎ ((y : ℕ) × (y < count) × (x ≡ at + slice_index nodes y) × (slice_index new x ≡ asked (slice_index nodes y)))

-- the row t is raised to what ways ask wherever that is not spared; no other row changes
pub record IsRowRaised (n t : ℕ) (asked : ℕ → ℕ) (spared : ℕ → Type 0) (old new : List ℕ) : Type 0 where
  pub others : (s j : ℕ) → s ≢ t → j < n → cell n new s j ≡ cell n old s j
  pub grown : (j : ℕ) → j < n → cell n old t j ≤ cell n new t j
  pub met : (j : ℕ) → j < n → (asked j ≤ cell n new t j) ⊎ spared j
  pub tight : (j : ℕ) → j < n → (cell n new t j ≡ cell n old t j) ⊎ (cell n new t j ≡ asked j)

-- the first cells of the row t, as many as `upto`, have these values; no other row changes
pub record IsRowSet (n t upto : ℕ) (value : ℕ → ℕ) (old new : List ℕ) : Type 0 where
  pub here : (j : ℕ) → j < upto → cell n new t j ≡ value j
  pub others : (s j : ℕ) → s ≢ t → j < n → cell n new s j ≡ cell n old s j

-- the column j of the first `rows` rows has these values; no other column changes
pub record IsColumnSet (n rows j : ℕ) (value : ℕ → ℕ) (old new : List ℕ) : Type 0 where
  pub here : (k : ℕ) → k < rows → cell n new k j ≡ value k
  pub others : (k i : ℕ) → i ≢ j → i < n → cell n new k i ≡ cell n old k i

-- n numbers from `at` on have these values; no other number changes
pub record IsStretchSet (at n : ℕ) (value : ℕ → ℕ) (old new : List ℕ) : Type 0 where
  pub here : (j : ℕ) → j < n → slice_index new (at + j) ≡ value j
  pub others : (x : ℕ) → (x < at) ⊎ (at + n ≤ x) → slice_index new x ≡ slice_index old x
