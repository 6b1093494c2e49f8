-- The pool as a search's state has it: each entry has the sums of its cut, which was separated for a hub set or
-- imported.
use Rattle.std.specs.Prelude.{◌≡◌, ℕ, ◌<◌, List, ◌++◌, map, length, slice_index, All, Option}
use Rattle.hub_spec.specs.Problem.{Problem}
use Rattle.hub_spec.specs.Cuts.{Cut, total, load}
use Rattle.search_spec.specs.States.{State}
use Rattle.core_spec.specs.CoreCuts.{Mark}
use Rattle.cut_pool.specs.Kept.{kept_set, kept_cut, kept_mark, IsKeptFor, IsPooled}
use Rattle.cut_pool.specs.Entries.{Entry}

-- the cut of the entry
abbrev pub entry_cut : Problem → Entry → Cut
entry_cut p e = kept_cut p e.cut

-- the entry's cut fits the problem, it was separated or imported, and the entry has its sums
pub record IsSumsOf (p : Problem) (e : Entry) : Type 0 where
  pub pooled : IsPooled e.cut
  pub fits : IsKeptFor p e.cut
  pub is_total : e.total ≡ total (entry_cut p e)
  pub one_load_each : length e.loads ≡ p.size
  pub are_loads : (k : ℕ) → k < p.size → slice_index e.loads k ≡ load (entry_cut p e) k

-- each entry does
abbrev pub IsPoolOf : Problem → List Entry → Type 0
IsPoolOf p entries = All (IsSumsOf p) entries

-- the entries have become more: those that were there, and further ones after them
pub record HasGrown (before after : List Entry) : Type 0 where
  pub more : List Entry
  pub is : after ≡ before ++ more

-- the hub set that each was separated for, or none where it was imported
abbrev pub pool_sets : List Entry → List (Option (List ℕ))
pool_sets entries = map (λ e. kept_set e.cut) entries

-- their cuts
abbrev pub pool_cuts : Problem → List Entry → List Cut
pool_cuts p entries = map (entry_cut p) entries

-- their marks
abbrev pub pool_marks : List Entry → List (Option Mark)
pool_marks entries = map (λ e. kept_mark e.cut) entries

-- the state with these entries, and with this incumbent, its cost, these nodes made and this stop
abbrev pub state_by : Problem → List Entry → List ℕ → ℕ → ℕ → Option ℕ → State
state_by p entries hubs cost made stop = record {
  sets = pool_sets entries;
  cuts = pool_cuts p entries;
  marks = pool_marks entries;
  hubs = hubs;
  cost = cost;
  made = made;
  stop = stop;
}

-- so it is in each state with these entries
abbrev pub InEachState : Problem → List Entry → (State → Type 0) → Type 0
InEachState p entries P = (hubs : List ℕ) (cost made : ℕ) (stop : Option ℕ) → P (state_by p entries hubs cost made stop)

-- so it is in each state with these entries and an incumbent of this cost
abbrev pub InEachStateAt : Problem → List Entry → ℕ → (State → Type 0) → Type 0
InEachStateAt p entries cost P = (hubs : List ℕ) (made : ℕ) (stop : Option ℕ) → P (state_by p entries hubs cost made stop)
