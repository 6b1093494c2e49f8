-- An index of hub sets: the places of those of a list that may have a set or none, in the order of the sets.
use Rattle.std.specs.Prelude.{ℕ, ◌<◌, ◌≤◌, List, [], Option, Some, None, is_some, length, slice_index, slice_index_or, All, Contains, IsTrue, IsFalse}
use Rattle.std.specs.Ordering.{nat_cmp, is_lt}
use Rattle.std.specs.Cmp.Lexicographic.{slice_cmp}

-- the first list comes before the second: where they first differ it has the smaller node, or it has ended
abbrev pub Precedes : List ℕ → List ℕ → Type 0
Precedes xs ys = IsTrue (is_lt (slice_cmp nat_cmp xs ys))

-- the hub set at a place, no hubs where there is none
abbrev pub set_or_none : Option (List ℕ) → List ℕ
set_or_none (Some hubs) = hubs
set_or_none None = []

-- there is a hub set at this place
abbrev pub HasSet : List (Option (List ℕ)) → ℕ → Type 0
HasSet sets place = IsTrue (is_some (slice_index_or sets place None))

-- the set that the index has at i
abbrev pub set_at : List (Option (List ℕ)) → List ℕ → ℕ → List ℕ
set_at sets index i = set_or_none (slice_index_or sets (slice_index index i) None)

-- the index has the place of each set once, in the order of the sets
pub record IsIndex (sets : List (Option (List ℕ))) (index : List ℕ) : Type 0 where
  pub places : All (HasSet sets) index
  pub whole : (place : ℕ) → HasSet sets place → Contains index place
  pub ascends : (i j : ℕ) → i < j → j < length index → Precedes (set_at sets index i) (set_at sets index j)

-- the sets before i in the index come before these hubs, and those from i on do not
pub record IsSplitAt (sets : List (Option (List ℕ))) (index : List ℕ) (hubs : List ℕ) (i : ℕ) : Type 0 where
  pub within : i ≤ length index
  pub before : (k : ℕ) → k < i → Precedes (set_at sets index k) hubs
  pub after : (k : ℕ) → i ≤ k → k < length index → IsFalse (is_lt (slice_cmp nat_cmp (set_at sets index k) hubs))
