-- The sums of a cut while its duals come.
use Rattle.std.specs.Prelude.{◌≡◌, ℕ, ◌+◌, ◌-◌, ◌*◌, ◌^◌, ◌≤◌, List, [], ◌∷◌, ◌++◌, length, slice_index, All}
use Rattle.std.specs.List.{slice_index_or}
use Rattle.hub_spec.specs.Limits.{most_nodes, most_part, most_cost}
use Rattle.hub_spec.specs.Cuts.{Prices, value_at, Cut, total, load}

-- the part of the cut, how many duals there are, the sum of their prices, and that of their values by node
pub record CutTally : Type 0 where
  pub part : ℕ
  pub count : ℕ
  pub total : ℕ
  pub loads : List ℕ

-- of the duals of a cut
abbrev pub most_duals : ℕ
most_duals = most_nodes * most_nodes

-- of the values of a node in a cut's duals together
abbrev pub most_load : ℕ
most_load = most_duals * 10 ^ 33

-- nothing is added up yet, over n nodes, of a cut with this part
pub record IsNoDual (n part : ℕ) (tally : CutTally) : Type 0 where
  pub part_is : tally.part ≡ part
  pub count_is : tally.count ≡ 0
  pub total_is : tally.total ≡ 0
  pub long : length tally.loads ≡ n
  pub loads_are : (k : ℕ) → slice_index tally.loads k ≡ 0

-- the later sums have this dual so many times more
pub record IsRunAdded (tally : CutTally) (run : ℕ) (dual : Prices) (later : CutTally) : Type 0 where
  pub part_is : later.part ≡ tally.part
  pub count_is : later.count ≡ tally.count + run
  pub total_is : later.total ≡ tally.total + run * dual.a
  pub long : length later.loads ≡ length tally.loads
  pub loads_are : (k : ℕ) → slice_index later.loads k ≡ slice_index tally.loads k + run * value_at dual.u k

-- the part is one, and each dual adds at most 10^33 to each sum
pub record AreWithinRange (tally : CutTally) : Type 0 where
  pub part_least : 1 ≤ tally.part
  pub part_most : tally.part ≤ most_part
  pub few : tally.count ≤ most_duals
  pub total_limit : tally.total ≤ tally.count * 10 ^ 33
  pub load_limit : All (λ (load : ℕ). load ≤ tally.count * 10 ^ 33) tally.loads

-- the sums over n nodes are those of the duals of this cut, which has this part
pub record AreSumsOf (n : ℕ) (cut : Cut) (tally : CutTally) : Type 0 where
  pub part_is : tally.part ≡ cut.part
  pub count_is : tally.count ≡ length cut.duals
  pub total_is : tally.total ≡ total cut
  pub long : length tally.loads ≡ n
  pub loads_are : (k : ℕ) → slice_index tally.loads k ≡ load cut k

-- the total and the loads are within the limit of a cut's
abbrev pub AreWithin : CutTally → Type 0
AreWithin tally =
    (tally.total ≤ tally.part * most_cost) × All (λ (load : ℕ). load ≤ tally.part * most_cost) tally.loads

-- sums of nothing
abbrev pub no_sums : CutTally
no_sums = record { part = 1; count = 0; total = 0; loads = [] }

-- the last of some sums, or those of nothing
abbrev pub last_of : List CutTally → CutTally
last_of cuts = slice_index_or cuts (length cuts - 1) no_sums

-- the cut of this number, counted from 1, or sums of nothing
abbrev pub numbered : List CutTally → ℕ → CutTally
numbered cuts c = slice_index_or cuts (c - 1) no_sums

-- the last of some sums have this dual so many times more, and the others are the same
abbrev pub IsLastAdded : List CutTally → ℕ → Prices → List CutTally → Type 0
IsLastAdded old run dual new = (front : List CutTally) (last : CutTally) → old ≡ front ++ last ∷ []
    → (later : CutTally) × IsRunAdded last run dual later × (new ≡ front ++ later ∷ [])
