-- The single hubs and the needed hub edges of one commodity, as one list that ascends by cost.
use Rattle.std.specs.Prelude.{◌≡◌, ℕ, ◌<◌, ℤ, pos, ◌<ℤ◌, List, length, slice_index_or, All, Contains, Option, Some, ◌⊎◌}
use Rattle.std.specs.List.{AllPairs}
use Rattle.hub_spec.specs.Problem.{Problem, IsProblem, way_cost}
use Rattle.hub_spec.specs.Edges.{IsCheaper, single_cost, edge_cost, IsNeededEdge}

-- the first and the last hub of a route, and what the route costs
abbrev pub Entry : Type 0
Entry = ℕ × ℕ × ℤ

-- the first entry is before the second: by cost, then by first hub, then by last hub
abbrev pub IsBefore : Entry → Entry → Type 0
IsBefore e f = (e.2 <ℤ f.2) ⊎ ((e.2 ≡ f.2) × ((e.0 < f.0) ⊎ ((e.0 ≡ f.0) × (e.1 < f.1))))

-- k first and m last is the direction of the edge in which it is used: the cheaper one that is allowed, or of two that
-- cost as much the one with the smaller first hub
abbrev pub IsDirection : Problem → ℕ × ℕ → ℕ → ℕ → Type 0
IsDirection p c k m = IsCheaper (way_cost p c k m) (way_cost p c m k)
    ⊎ ((way_cost p c k m ≡ way_cost p c m k) × (k < m))

-- there is a cost
abbrev pub IsThere : Option ℕ → Type 0
IsThere d = (f : ℕ) × (d ≡ Some f)

-- there is a cost, and it is z
abbrev pub IsCost : Option ℕ → ℤ → Type 0
IsCost d z = (f : ℕ) × (d ≡ Some f) × (z ≡ pos f)

-- the entry of a candidate that serves alone
pub record IsSingleEntry (p : Problem) (c : ℕ × ℕ) (e : Entry) : Type 0 where
  pub candidate : Contains p.candidates e.0
  pub alone : e.1 ≡ e.0
  pub cost : IsCost (single_cost p c e.0) e.2

-- the entry of a needed edge of two candidates, in its direction
pub record IsEdgeEntry (p : Problem) (c : ℕ × ℕ) (e : Entry) : Type 0 where
  pub first : Contains p.candidates e.0
  pub last : Contains p.candidates e.1
  pub needed : IsNeededEdge p c e.0 e.1
  pub direction : IsDirection p c e.0 e.1
  pub cost : IsCost (edge_cost p c e.0 e.1) e.2

-- the list has each single hub that is allowed and each needed edge, and nothing else; its entries ascend
pub record IsEdgeRow (p : Problem) (c : ℕ × ℕ) (entries : List Entry) : Type 0 where
  pub each : All (λ e. IsSingleEntry p c e ⊎ IsEdgeEntry p c e) entries
  pub singles : (k f : ℕ) → Contains p.candidates k → single_cost p c k ≡ Some f → Contains entries (k, k, pos f)
  pub edges : (k m f : ℕ) → Contains p.candidates k → Contains p.candidates m → IsNeededEdge p c k m
      → IsDirection p c k m → edge_cost p c k m ≡ Some f → Contains entries (k, m, pos f)
  pub ascending : AllPairs IsBefore entries

-- both hubs of the entry are in the set
pub record IsInside (set : List ℕ) (e : Entry) : Type 0 where
  pub first : Contains set e.0
  pub last : Contains set e.1

-- an instance, one of its commodities, and the list of it
pub record Row : Type 0 where
  pub problem : Problem
  pub commodity : ℕ × ℕ
  pub entries : List Entry

-- it is what its name says
pub record IsRow (r : Row) : Type 0 where
  pub problem : IsProblem r.problem
  pub from : r.commodity.0 < r.problem.size
  pub to : r.commodity.1 < r.problem.size
  pub row : IsEdgeRow r.problem r.commodity r.entries

-- a commodity has one row
abbrev pub RowIsOne : Type 0
RowIsOne = (p : Problem) (c : ℕ × ℕ) (es fs : List Entry) → IsEdgeRow p c es → IsEdgeRow p c fs → es ≡ fs

-- the first of the entries that are inside the set
pub record IsFirstInside (set : List ℕ) (entries : List Entry) (e : Entry) : Type 0 where
  pub at : ℕ
  pub within : at < length entries
  pub is : e ≡ slice_index_or entries at e
  pub inside : IsInside set e
  pub earlier : (t : ℕ) (d : Entry) → t < at → IsInside set (slice_index_or entries t d) → ⊥
