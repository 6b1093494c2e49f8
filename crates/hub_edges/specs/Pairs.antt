-- The entries of the pairs of candidates, as they are written down.
use Rattle.std.specs.Prelude.{◌≡◌, ◌≢◌, ℕ, ◌<◌, ◌≤◌, pos, Bool, true, false, List, length, slice_index, nat_lt, if◌then◌else◌, Option, Some, None, All, Contains, ◌⊎◌}
use Rattle.std.specs.List.{AllPairs}
use Rattle.hub_spec.specs.Problem.{Problem, way_cost}
use Rattle.hub_spec.specs.Edges.{IsCheaper, single_cost, cost_or_none, IsNeededEdge}
use Rattle.hub_edges.specs.Rows.{Entry, IsBefore, IsThere}

-- the pair is a single hub that is allowed, or a needed edge
abbrev pub IsKept : Problem → ℕ × ℕ → ℕ → ℕ → Type 0
IsKept p c k m = ((k ≡ m) × IsThere (single_cost p c k)) ⊎ IsNeededEdge p c k m

-- this cost is less than that of each of the two single hubs
abbrev pub IsBelowSingles : Problem → ℕ × ℕ → ℕ → ℕ → Option ℕ → Type 0
IsBelowSingles p c k m cost = IsCheaper cost (single_cost p c k) × IsCheaper cost (single_cost p c m)

-- the test of IsCheaper
abbrev pub is_cheaper : Option ℕ → Option ℕ → Bool
is_cheaper None d = false
is_cheaper (Some a) None = true
is_cheaper (Some a) (Some b) = nat_lt a b

-- the entry of the way by k first and m last, where it is allowed
abbrev pub way_entry : Problem → ℕ × ℕ → ℕ → ℕ → Entry
way_entry p c k m = (k, m, pos (cost_or_none (way_cost p c k m)))

-- the entry of the pair, turned round where that is cheaper
abbrev pub entry_of : Problem → ℕ × ℕ → ℕ → ℕ → Entry
entry_of p c k m = if is_cheaper (way_cost p c m k) (way_cost p c k m) then way_entry p c m k else way_entry p c k m

-- the pair of places (s, t) comes before (x, y)
abbrev pub IsPlaceBefore : ℕ → ℕ → ℕ → ℕ → Type 0
IsPlaceBefore s t x y = (s < x) ⊎ ((s ≡ x) × (t < y))

-- the entry of a kept pair of candidates, the earlier first, at places before (x, y)
pub record IsOfPair (p : Problem) (c : ℕ × ℕ) (x y : ℕ) (e : Entry) : Type 0 where
  pub s : ℕ
  pub t : ℕ
  pub ordered : s ≤ t
  pub within : t < length p.candidates
  pub before : IsPlaceBefore s t x y
  pub kept : IsKept p c (slice_index p.candidates s) (slice_index p.candidates t)
  pub is : e ≡ entry_of p c (slice_index p.candidates s) (slice_index p.candidates t)

-- the entries of the kept pairs before the places (x, y), each once
pub record IsWrittenUpTo (p : Problem) (c : ℕ × ℕ) (x y : ℕ) (entries : List Entry) : Type 0 where
  pub each : All (IsOfPair p c x y) entries
  pub has : (s t : ℕ) → s ≤ t → t < length p.candidates → IsPlaceBefore s t x y
      → IsKept p c (slice_index p.candidates s) (slice_index p.candidates t)
      → Contains entries (entry_of p c (slice_index p.candidates s) (slice_index p.candidates t))
  pub once : AllPairs (λ e f. e ≢ f) entries

-- the entries of all kept pairs, each once
abbrev pub IsWritten : Problem → ℕ × ℕ → List Entry → Type 0
IsWritten p c entries = IsWrittenUpTo p c (length p.candidates) 0 entries

-- no entry is before the one that it follows
pub record AreInOrder (entries : List Entry) : Type 0 where
  pub each : AllPairs (λ e f. IsBefore f e → ⊥) entries
