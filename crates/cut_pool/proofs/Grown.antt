-- A pool after a cut was added.
use Rattle.std.proofs.Common.{◌≡◌, ◌≢◌, ℕ, ◌+◌, ◌≤◌, min, List, [], ◌∷◌, ◌++◌, Option, Some, false, Result, Ok, Err, is_err, OnOk, length, map, All, sym, ap, subst, ◌∙◌, arith}
use Rattle.std.proofs.lemmas.List.{length_push, map_push}
use Rattle.cut_pool.specs.Kept.{Kept, KeptList, kept_of, kept_set}
use Rattle.cut_pool.specs.declared.kept.KeptCut.{KeptCut}
use Rattle.cut_pool.specs.StoreParts.{free}
use Rattle.cut_pool.specs.Entries.{Entry, most_stated, Lacks}
use Rattle.cut_pool.specs.PoolCuts.{most_kept, sets_of, entries_of, AreDistinct}
use Rattle.cut_pool.specs.Ordered.{IsIndex}
use Rattle.cut_pool.specs.Shorts.{AreShortIfKept}
use Rattle.cut_pool.specs.Units.{AreUnits}
use Rattle.cut_pool.specs.PoolParts.{spare_of, state_of, IsPool}
use Rattle.cut_pool.specs.declared.pool.Pool.TheInside.{Inside}
use Rattle.cut_pool.proofs.Columns.{entries_push, sets_from_lacks}
use Rattle.cut_pool.proofs.Entered.{beside, sets_column}
use Rattle.cut_pool.proofs.Indexes.{distinct_more}

-- the store has one cut more with its sums, and all that stands beside it is so of the entries with this one
pub record HasGrown (s t : Inside) (e : Entry) : Type 0 where
  pub kept : t.cuts.kept ≡ record {
    cuts = s.cuts.kept.cuts ++ e.cut ∷ [];
    totals = s.cuts.kept.totals ++ e.total ∷ [];
    loads = s.cuts.kept.loads ++ e.loads ∷ [];
  }
  pub short : AreShortIfKept ((state_of s).entries ++ e ∷ []) t.short
  pub units : AreUnits ((state_of s).entries ++ e ∷ []) t.units
  pub greatest : t.most_load ≡ most_stated ((state_of s).entries ++ e ∷ [])

-- where a cut more is spare, the last number is not reached
pub spare_number : (s : Inside) → 1 ≤ spare_of s → length s.cuts.kept.cuts + 1 ≤ most_kept
spare_number s room = omega arith

-- what a call ensures where it was no error
pub on_ok_at : {T E P : Type 0} (r : Result T E) → is_err r ≡ false → OnOk r P → P
on_ok_at (Ok x) e h = h
on_ok_at (Err y) e h = cc

min_more : (a b c d : ℕ) → a ≤ b + 1 → c ≤ d + 1 → min a c ≤ min b d + 1
min_more a b c d h k = omega arith

-- hubs that no entry is of are no set of the store's cuts
pub none_of_these : (s : Inside) → IsPool s → (cuts : List KeptCut) → map kept_of cuts ≡ s.cuts.kept.cuts → (hubs : List ℕ)
    → Lacks (state_of s).entries hubs → All (λ set. set ≢ Some hubs) (sets_of (map kept_of cuts))
none_of_these s is cuts same hubs lacks =
    subst (λ (ks : List Kept). All (λ set. set ≢ Some hubs) (sets_of ks)) (sym same)
    (sets_from_lacks (state_of s).entries (sets_of s.cuts.kept.cuts) hubs (sets_column s is) lacks)

module _ (s t : Inside) (e : Entry) (is : IsPool s) (grown : HasGrown s t e) where
  long_cuts : length t.cuts.kept.cuts ≡ length s.cuts.kept.cuts + 1
  long_cuts = ap (λ (k : KeptList). length k.cuts) grown.kept ∙ length_push s.cuts.kept.cuts e.cut

  sets_more : sets_of t.cuts.kept.cuts ≡ sets_of s.cuts.kept.cuts ++ kept_set e.cut ∷ []
  sets_more = ap (λ (k : KeptList). sets_of k.cuts) grown.kept ∙ map_push kept_set s.cuts.kept.cuts e.cut

  pub entries_more : (state_of t).entries ≡ (state_of s).entries ++ e ∷ []
  entries_more =
      ap (λ (k : KeptList). entries_of k.cuts k.totals k.loads) grown.kept
      ∙ entries_push s.cuts.kept.cuts s.cuts.kept.totals s.cuts.kept.loads e.cut e.total e.loads (beside s is)

  pub pool_more : IsIndex (sets_of s.cuts.kept.cuts ++ kept_set e.cut ∷ []) t.by_set.items
      → ((hubs : List ℕ) → kept_set e.cut ≡ Some hubs → Lacks (state_of s).entries hubs) → length s.cuts.kept.cuts + 1 ≤ most_kept → IsPool t
  pool_more index lacks most =
      let sets = sets_of s.cuts.kept.cuts in
      record {
        most = omega (arith, long_cuts);
        totals = omega (arith, long_cuts, is.totals, ap (λ (k : KeptList). length k.totals) grown.kept, length_push s.cuts.kept.totals e.total);
        loads = omega (arith, long_cuts, is.loads, ap (λ (k : KeptList). length k.loads) grown.kept, length_push s.cuts.kept.loads e.loads);
        distinct = subst AreDistinct (sym sets_more)
            (distinct_more sets (kept_set e.cut) is.distinct
            (λ hubs of. sets_from_lacks (state_of s).entries sets hubs (sets_column s is) (lacks hubs of)));
        index = subst (λ (sets : List (Option (List ℕ))). IsIndex sets t.by_set.items) (sym sets_more) index;
        short = subst (λ es. AreShortIfKept es t.short) (sym entries_more) grown.short;
        units = subst (λ es. AreUnits es t.units) (sym entries_more) grown.units;
        greatest = grown.greatest ∙ ap most_stated (sym entries_more);
      }

  pub spare_more : s.cuts.spare ≤ t.cuts.spare + 1 → free s.by_set ≤ free t.by_set + 1 → s.units.spare ≤ t.units.spare + 1
      → spare_of s ≤ spare_of t + 1
  spare_more store index units = min_more _ _ _ _ (omega (arith, long_cuts)) (min_more _ _ _ _ store (min_more _ _ _ _ index units))
