-- The cuts of a pool as a finding stores them.
use Rattle.std.proofs.Common.{◌≡◌, ℕ, List, [], ◌∷◌, map, All, Option, IsSome, IsNone, true≢false, refl, sym, ap, ap₂, subst, ◌∙◌}
use Rattle.std.proofs.lemmas.List.Elements.{All-nil, All-cons, All-head, All-tail}
use Rattle.hub_spec.specs.Problem.{Problem}
use Rattle.hub_spec.specs.Cuts.{Cut, total}
use Rattle.core_spec.specs.CoreCuts.{Mark}
use Rattle.cut_pool.specs.Entries.{Entry}
use Rattle.cut_pool.specs.Kept.{Kept, by_values, by_set, cored, given, kept_set, kept_cuts, kept_mark, IsRemade, KeptList, IsKeptFor, node_loads, AreKeptFor}
use Rattle.cut_pool.proofs.NodeLoads.{loads_are}
use Rattle.search_steps.specs.Pools.{entry_cut, IsSumsOf, IsPoolOf, pool_sets, pool_cuts, pool_marks}

-- the columns are those of the entries
pub record AreColumnsOf (entries : List Entry) (k : KeptList) : Type 0 where
  pub cuts : k.cuts ≡ map (λ e. e.cut) entries
  pub totals : k.totals ≡ map (λ e. e.total) entries
  pub loads : k.loads ≡ map (λ e. e.loads) entries

pub kept_pool_sets : (entries : List Entry) → map kept_set (map (λ e. e.cut) entries) ≡ pool_sets entries
kept_pool_sets [] = refl
kept_pool_sets (e ∷ es) = ap (λ (xs : List (Option (List ℕ))). kept_set e.cut ∷ xs) (kept_pool_sets es)

pub kept_pool_cuts : (p : Problem) (entries : List Entry) → kept_cuts p (map (λ e. e.cut) entries) ≡ pool_cuts p entries
kept_pool_cuts p [] = refl
kept_pool_cuts p (e ∷ es) = ap (λ (xs : List Cut). entry_cut p e ∷ xs) (kept_pool_cuts p es)

pub kept_pool_marks : (entries : List Entry) → map kept_mark (map (λ e. e.cut) entries) ≡ pool_marks entries
kept_pool_marks [] = refl
kept_pool_marks (e ∷ es) = ap (λ (xs : List (Option Mark)). kept_mark e.cut ∷ xs) (kept_pool_marks es)

fit : (p : Problem) (entries : List Entry) → IsPoolOf p entries → All (IsKeptFor p) (map (λ e. e.cut) entries)
fit p [] are = All-nil (IsKeptFor p)
fit p (e ∷ es) are =
    All-cons (IsKeptFor p) e.cut (map (λ x. x.cut) es) (All-head (IsSumsOf p) e es are).fits (fit p es (All-tail (IsSumsOf p) e es are))

-- the duals of a cut that has a set and no mark are computed again
pub own_by_sets : (kept : List Kept) → All (λ (set : Option (List ℕ)). IsSome set) (map kept_set kept)
    → All (λ (mark : Option Mark). IsNone mark) (map kept_mark kept) → All IsRemade kept
own_by_sets [] are unmarked = All-nil IsRemade
own_by_sets (k ∷ ks) are unmarked =
    All-cons IsRemade k ks
    (own k (All-head (λ (set : Option (List ℕ)). IsSome set) (kept_set k) (map kept_set ks) are)
    (All-head (λ (mark : Option Mark). IsNone mark) (kept_mark k) (map kept_mark ks) unmarked))
    (own_by_sets ks (All-tail (λ (set : Option (List ℕ)). IsSome set) (kept_set k) (map kept_set ks) are)
    (All-tail (λ (mark : Option Mark). IsNone mark) (kept_mark k) (map kept_mark ks) unmarked))
  where
    own : (k : Kept) → IsSome (kept_set k) → IsNone (kept_mark k) → IsRemade k
    own (by_values rows) some none = tt
    own (by_set hubs order) some none = tt
    own (cored x) some none = absurd (true≢false none)
    own (given cut) some none = absurd (true≢false (sym some))

totals : (p : Problem) (entries : List Entry) → IsPoolOf p entries → map (λ e. e.total) entries ≡ map total (pool_cuts p entries)
totals p [] are = refl
totals p (e ∷ es) are =
    ap₂ (λ (x : ℕ) (xs : List ℕ). x ∷ xs) (All-head (IsSumsOf p) e es are).is_total (totals p es (All-tail (IsSumsOf p) e es are))

loads : (p : Problem) (entries : List Entry) → IsPoolOf p entries → map (λ e. e.loads) entries ≡ map (node_loads p.size) (pool_cuts p entries)
loads p [] are = refl
loads p (e ∷ es) are =
    let is = All-head (IsSumsOf p) e es are in
    ap₂ (λ (x : List ℕ) (xs : List (List ℕ)). x ∷ xs) (loads_are p.size (entry_cut p e) e.loads is.one_load_each is.are_loads)
    (loads p es (All-tail (IsSumsOf p) e es are))

pub kept_pool : (p : Problem) (entries : List Entry) (k : KeptList) → IsPoolOf p entries → AreColumnsOf entries k → AreKeptFor p k
kept_pool p entries k are same =
    let cuts : kept_cuts p k.cuts ≡ pool_cuts p entries = ap (kept_cuts p) same.cuts ∙ kept_pool_cuts p entries in
    record {
      fit = subst (All (IsKeptFor p)) (sym same.cuts) (fit p entries are);
      are_totals = same.totals ∙ totals p entries are ∙ sym (ap (map total) cuts);
      are_loads = same.loads ∙ loads p entries are ∙ sym (ap (map (node_loads p.size)) cuts);
    }
