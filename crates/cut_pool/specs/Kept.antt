-- The stored cuts of a search, by what their duals are made from.
use Rattle.std.specs.Prelude.{◌≡◌, ℕ, ◌-◌, List, [], map, All, Option, Some, None}
use Rattle.std.specs.List.{range_with_len, slice_index_or}
use Rattle.hub_spec.specs.Problem.{Problem}
use Rattle.hub_spec.specs.Plans.{IsHubSet}
use Rattle.hub_spec.specs.Cuts.{Cut, total, load, IsCut}
use Rattle.hub_spec.specs.Ranges.{IsCutInRange}
use Rattle.hub_spec.specs.Separation.{IsOrder, set_cut}
use Rattle.core_spec.specs.CoreCuts.{Mark, IsCoreCut}
use Rattle.core_spec.specs.MarkRanges.{IsMarkInRange}
use Rattle.cut_model.specs.MarkedCuts.{MarkedCut}
use Rattle.cut_model.specs.ValueRows.{ValueRows, AreValuesFor, value_cut}
use Rattle.cut_pool.specs.declared.kept.KeptCut.{KeptCut}
use Rattle.cut_pool.specs.declared.kept.KeptCut.TheVariants.{Values, Set, Core, Given}

-- dual values of the candidates; or a hub set and an order of the other candidates; or a Pareto-optimal cut with its
-- mark; or an imported cut with its duals
pub data Kept : Type 0 where
  by_values : ValueRows → Kept
  by_set : (hubs order : List ℕ) → Kept
  cored : MarkedCut → Kept
  given : Cut → Kept

-- the cut that a stored cut of the code stands for
abbrev pub kept_of : KeptCut → Kept
kept_of (Values rows) = by_values rows
kept_of (Set hubs order) = by_set hubs order.items
kept_of (Core x) = cored x
kept_of (Given cut) = given cut

-- the hub set from which a stored cut is, if it is from one
abbrev pub kept_set : Kept → Option (List ℕ)
kept_set (by_set hubs order) = Some hubs
kept_set (cored x) = Some x.mark.hubs
kept_set _ = None

-- the mark of the cut, if it has one
abbrev pub kept_mark : Kept → Option Mark
kept_mark (cored x) = Some x.mark
kept_mark _ = None

-- its duals are computed again, with the part 1: it is no Pareto-optimal cut with a mark, and was not imported
abbrev pub IsRemade : Kept → Type 0
IsRemade (cored x) = ⊥
IsRemade (given cut) = ⊥
IsRemade _ = Unit {0}

-- it was separated for a hub set, or imported
abbrev pub IsPooled : Kept → Type 0
IsPooled (by_values rows) = ⊥
IsPooled _ = Unit {0}

-- its cut
abbrev pub kept_cut : Problem → Kept → Cut
kept_cut p (by_values rows) = value_cut p rows
kept_cut p (by_set hubs order) = set_cut p hubs order
kept_cut p (cored x) = x.cut
kept_cut p (given cut) = cut

abbrev pub kept_cuts : Problem → List Kept → List Cut
kept_cuts p kept = map (kept_cut p) kept

-- the part of that cut
abbrev pub kept_part : Kept → ℕ
kept_part (by_values rows) = 1
kept_part (by_set hubs order) = 1
kept_part (cored x) = x.cut.part
kept_part (given cut) = cut.part

-- it fits the problem
abbrev pub IsKeptFor : Problem → Kept → Type 0
IsKeptFor p (by_values rows) = AreValuesFor p rows
IsKeptFor p (by_set hubs order) = IsHubSet p hubs × IsOrder p hubs order
IsKeptFor p (cored x) = IsCoreCut p x.cut x.mark × IsCutInRange p.size x.cut × IsMarkInRange p.size x.mark
IsKeptFor p (given cut) = IsCut p cut × IsCutInRange p.size cut

-- stored cuts, the total of each, and its load of each node
pub record KeptList : Type 0 where
  pub cuts : List Kept
  pub totals : List ℕ
  pub loads : List (List ℕ)

-- stored cuts with their sums, and how many more can be added for certain
pub record Stored : Type 0 where
  pub kept : KeptList
  pub spare : ℕ

-- the stored cut of this number, counted from 1
abbrev pub kept_at : List Kept → ℕ → Kept
kept_at cuts c = slice_index_or cuts (c - 1) (by_set [] [])

-- the load of each of n nodes
abbrev pub node_loads : ℕ → Cut → List ℕ
node_loads n cut = map (load cut) (range_with_len 0 n)

-- the stored cuts fit the problem, and the sums are those of their cuts
pub record AreKeptFor (p : Problem) (k : KeptList) : Type 0 where
  pub fit : All (IsKeptFor p) k.cuts
  pub are_totals : k.totals ≡ map total (kept_cuts p k.cuts)
  pub are_loads : k.loads ≡ map (node_loads p.size) (kept_cuts p k.cuts)
