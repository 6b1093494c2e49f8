-- The cut to which an index leads.
use Rattle.std.proofs.Common.{◌≡◌, ℕ, ◌<◌, List, Some, None, true, is_some, length, map, get_or, ap, sym, ◌∙◌, arith}
use Rattle.std.proofs.lemmas.List.{length-map}
use Rattle.cut_pool.specs.Kept.{Kept, by_values, by_set, cored, given, kept_of, kept_set}
use Rattle.cut_pool.specs.declared.kept.KeptCut.{KeptCut}
use Rattle.cut_pool.specs.PoolCuts.{IsOfSet, sets_of}
use Rattle.cut_pool.specs.Ordered.{IsIndex}
use Rattle.cut_pool.proofs.Columns.{set_there}
use Rattle.cut_pool.proofs.Indexes.{has_below, place_has}

of_set : (k : Kept) → is_some (kept_set k) ≡ true → IsOfSet k
of_set (by_values rows) h = cc
of_set (by_set hubs order) h = tt
of_set (cored x) h = tt
of_set (given cut) h = cc

module _ (cuts : List KeptCut) (ks : List Kept) (index : List ℕ) (i place : ℕ) (x : KeptCut) (same : map kept_of cuts ≡ ks)
    (is : IsIndex (sets_of ks) index) (within : i < length index) (at : place ≡ get_or index i place) (read : x ≡ get_or cuts place x) where
  pub place_inside : place < length ks
  place_inside = omega (arith, has_below (sets_of ks) place (place_has (sets_of ks) index i place is within at), length-map ks kept_set)

  set_read : kept_set (kept_of x) ≡ get_or (sets_of ks) place None
  set_read = set_there cuts ks place x same place_inside read None

  pub of_set_indexed : IsOfSet (kept_of x)
  of_set_indexed = of_set (kept_of x) (ap is_some set_read ∙ place_has (sets_of ks) index i place is within at)

  pub set_indexed : (hubs : List ℕ) → kept_set (kept_of x) ≡ Some hubs → get_or (sets_of ks) place None ≡ Some hubs
  set_indexed hubs of = sym set_read ∙ of
