-- The stored cuts of a search, by number.
use Rattle.std.specs.Prelude.{◌≡◌, ◌≢◌, ℕ, ◌-◌, ◌/◌, ◌≤◌, max, List, [], ◌∷◌, length, map, slice_index_or, All, Some}
use Rattle.hub_spec.specs.Cuts.{Cut, total}
use Rattle.cut_model.specs.MarkedCuts.{MarkedCut}
use Rattle.cut_pool.specs.Kept.{Kept, by_set, cored, given, kept_set, kept_part, node_loads}

-- what is stored of a separated cut before it has a number: its hub set, its total and its load of each node
pub record Sums : Type 0 where
  pub hubs : List ℕ
  pub total : ℕ
  pub loads : List ℕ

-- what is stored of a cut: what its duals can be made from, its total and its load of each node
pub record Entry : Type 0 where
  pub cut : Kept
  pub total : ℕ
  pub loads : List ℕ

-- the entries in the order of their numbers, and how many more can be added for certain
pub record PoolState : Type 0 where
  pub entries : List Entry
  pub spare : ℕ

-- the entry that a separated cut becomes, with the order that it was worked out over
abbrev pub entry_of : Sums → List ℕ → Entry
entry_of sums order = record { cut = by_set sums.hubs order; total = sums.total; loads = sums.loads }

-- the entry that a Pareto-optimal cut between n nodes becomes, with its sums
abbrev pub core_entry : ℕ → MarkedCut → Entry
core_entry n x = record { cut = cored x; total = total x.cut; loads = node_loads n x.cut }

-- the entry that an imported cut between n nodes becomes, with its sums
abbrev pub given_entry : ℕ → Cut → Entry
given_entry n cut = record { cut = given cut; total = total cut; loads = node_loads n cut }

-- ---- numbers

-- the entry of this number, counted from 1
abbrev pub entry_at : List Entry → ℕ → Entry
entry_at entries c = slice_index_or entries (c - 1) (record { cut = by_set [] []; total = 0; loads = [] })

-- this is the number of an entry
pub record IsNumber (entries : List Entry) (c : ℕ) : Type 0 where
  pub least : 1 ≤ c
  pub most : c ≤ length entries

-- this is the number of an entry that was separated for this hub set
pub record IsNumberOf (entries : List Entry) (hubs : List ℕ) (c : ℕ) : Type 0 where
  pub number : IsNumber entries c
  pub has_hubs : kept_set (entry_at entries c).cut ≡ Some hubs

-- no entry was separated for this hub set
abbrev pub Lacks : List Entry → List ℕ → Type 0
Lacks entries hubs = All (λ e. kept_set e.cut ≢ Some hubs) entries

-- ---- for one unit of a cut's part, rounded down

-- the part of the entry's cut
abbrev pub entry_part : Entry → ℕ
entry_part e = kept_part e.cut

-- the total of each
abbrev pub unit_totals : List Entry → List ℕ
unit_totals entries = map (λ e. e.total / entry_part e) entries

-- the load of each node in each
abbrev pub unit_loads : List Entry → List (List ℕ)
unit_loads entries = map (λ e. map (λ u. u / entry_part e) e.loads) entries

-- the greatest of these loads; 0 for none
abbrev pub most_unit : ℕ → List ℕ → ℕ
most_unit part [] = 0
most_unit part (u ∷ us) = max (u / part) (most_unit part us)

-- the greatest load of a cut that is stored with its duals, a Pareto-optimal or an imported one; 0 for another cut
abbrev pub kept_most : Kept → List ℕ → ℕ
kept_most (cored x) loads = most_unit x.cut.part loads
kept_most (given cut) loads = most_unit cut.part loads
kept_most _ loads = 0

-- the greatest load of the cuts that are stored with their duals
abbrev pub most_stated : List Entry → ℕ
most_stated [] = 0
most_stated (e ∷ es) = max (kept_most e.cut e.loads) (most_stated es)
