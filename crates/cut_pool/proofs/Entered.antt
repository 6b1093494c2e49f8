-- The entries of a pool, and what is read of its cuts.
use Rattle.std.proofs.Common.{⊎_elim, ◌≡◌, ◌≢◌, ℕ, ◌+◌, ◌-◌, ◌<◌, List, [], Some, None, length, map, get_or, sym, ap, subst, ◌∙◌, Vec, Global, arith}
use Rattle.std.proofs.lemmas.List.{length-map, get_or-map}
use Rattle.std.proofs.lemmas.Bool.{cases_lt}
use Rattle.cut_pool.specs.Kept.{kept_of, kept_set, kept_part}
use Rattle.cut_pool.specs.declared.kept.KeptCut.{KeptCut}
use Rattle.cut_pool.specs.Entries.{PoolState, Entry, entry_at, entry_part, IsNumber, IsNumberOf, Lacks}
use Rattle.cut_pool.specs.PoolCuts.{sets_of}
use Rattle.cut_pool.specs.Ordered.{IsSplitAt, set_at}
use Rattle.cut_pool.specs.PoolParts.{state_of, IsPool}
use Rattle.cut_pool.specs.declared.pool.Pool.TheInside.{Inside}
use Rattle.cut_pool.proofs.Columns.{AreBeside, AreColumns, columns, column_at, length-column, lacks_from_sets, kept_there, map-map}
use Rattle.cut_pool.proofs.Indexes.{none_is}

pub beside : (s : Inside) → IsPool s → AreBeside s.cuts.kept.cuts s.cuts.kept.totals s.cuts.kept.loads
beside s is = record { totals = is.totals; loads = is.loads }

pub pool_columns : (s : Inside) → IsPool s
    → AreColumns (state_of s).entries s.cuts.kept.cuts s.cuts.kept.totals s.cuts.kept.loads
pool_columns s is = columns _ _ _ (beside s is)

pub length-entries : (s : Inside) → IsPool s → length (state_of s).entries ≡ length s.cuts.kept.cuts
length-entries s is = length-column (λ e. e.total) _ s.cuts.kept.totals (pool_columns s is).totals ∙ is.totals

pub sets_column : (s : Inside) → IsPool s → map (λ e. kept_set e.cut) (state_of s).entries ≡ sets_of s.cuts.kept.cuts
sets_column s is = sym (map-map kept_set (λ e. e.cut) (state_of s).entries) ∙ ap (map kept_set) (pool_columns s is).cuts

-- ---- the cut of a number

module _ (s : Inside) (is : IsPool s) (c : ℕ) (number : IsNumber (state_of s).entries c) where
  pub place_within : c - 1 < length s.cuts.kept.cuts
  place_within = omega (arith, length-entries s is, number.least, number.most)

  module _ (cuts : List KeptCut) (x : KeptCut) (same : map kept_of cuts ≡ s.cuts.kept.cuts) (read : x ≡ get_or cuts (c - 1) x) where
    pub cut_read : kept_of x ≡ (entry_at (state_of s).entries c).cut
    cut_read =
        kept_there cuts s.cuts.kept.cuts (c - 1) x same place_within read
        ∙ column_at (λ e. e.cut) _ s.cuts.kept.cuts c (kept_of x) (pool_columns s is).cuts number

  module _ (rows : List (Vec ℕ Global)) (v : Vec ℕ Global) (same : map (λ v. v.items) rows ≡ s.cuts.kept.loads) (read : v ≡ get_or rows (c - 1) v) where
    pub loads_read : v.items ≡ (entry_at (state_of s).entries c).loads
    loads_read =
        let items = λ (w : Vec ℕ Global). w.items in
        ap items read
        ∙ sym (get_or-map items rows (c - 1) v [] (omega (arith, place_within, is.loads, ap length same, length-map rows items)))
        ∙ column_at (λ e. e.loads) _ (map items rows) c [] ((pool_columns s is).loads ∙ sym same) number

-- ---- the cut at a place, and sets that no cut has

pub number_of : (s : Inside) → IsPool s → (place : ℕ) → place < length s.cuts.kept.cuts → IsNumber (state_of s).entries (place + 1)
number_of s is place below = record { least = omega arith; most = omega (arith, length-entries s is, below) }

pub set_of_number : (s : Inside) → IsPool s → (place : ℕ) → place < length s.cuts.kept.cuts
    → kept_set (entry_at (state_of s).entries (place + 1)).cut ≡ get_or (sets_of s.cuts.kept.cuts) place None
set_of_number s is place below =
    let e : (place + 1) - 1 ≡ place = omega arith in
    sym (column_at (λ e. kept_set e.cut) _ (sets_of s.cuts.kept.cuts) (place + 1) None (sets_column s is) (number_of s is place below))
    ∙ ap (λ (i : ℕ). get_or (sets_of s.cuts.kept.cuts) i None) e

pub only_number : (s : Inside) → IsPool s → (hubs : List ℕ) (x c : ℕ) → IsNumberOf (state_of s).entries hubs x
    → IsNumberOf (state_of s).entries hubs c → x ≡ c
only_number s is hubs x c h k =
    let sets = sets_of s.cuts.kept.cuts in
    let at : (y : ℕ) → IsNumberOf (state_of s).entries hubs y → get_or sets (y - 1) None ≡ Some hubs = λ y n.
    column_at (λ e. kept_set e.cut) _ sets y None (sets_column s is) n.number ∙ n.has_hubs in
    let apart : (y z : ℕ) → IsNumberOf (state_of s).entries hubs y → IsNumberOf (state_of s).entries hubs z → y < z → ⊥ = λ y z n m less.
    is.distinct (y - 1) (z - 1) hubs (omega (arith, n.number.least)) (at y n) (at z m) in
    ⊎_elim (λ less. absurd (apart x c h k less)) (λ rest. ⊎_elim (λ more. absurd (apart c x k h more)) (λ most. omega arith) (cases_lt c x))
    (cases_lt x c)

pub lacks_entries : (s : Inside) → IsPool s → (hubs : List ℕ) (at : ℕ) → IsSplitAt (sets_of s.cuts.kept.cuts) s.by_set.items hubs at
    → (at < length s.by_set.items → set_at (sets_of s.cuts.kept.cuts) s.by_set.items at ≢ hubs) → Lacks (state_of s).entries hubs
lacks_entries s is hubs at split none =
    lacks_from_sets _ (sets_of s.cuts.kept.cuts) hubs (sets_column s is)
    (none_is (sets_of s.cuts.kept.cuts) s.by_set.items hubs at is.index split none)

-- ---- what stands at a place

pub place_below : (s : Inside) (p : PoolState) (place : ℕ) → IsPool s → state_of s ≡ p → place < length p.entries
    → place < length s.cuts.kept.cuts
place_below s p place is view low =
    let here = subst (λ (q : PoolState). place < length q.entries) (sym view) low in
    omega (arith, here, length-entries s is)

pub place_column : {X : Type 0} (f : Entry → X) (s : Inside) → IsPool s → (xs : List X) (place : ℕ) (d : X) → map f (state_of s).entries ≡ xs
    → place < length s.cuts.kept.cuts → get_or xs place d ≡ f (entry_at (state_of s).entries (place + 1))
place_column f s is xs place d e below =
    let same : place ≡ (place + 1) - 1 = omega arith in
    ap (λ (i : ℕ). get_or xs i d) same ∙ column_at f _ xs (place + 1) d e (number_of s is place below)

pub place_row : (f : Entry → List ℕ) (s : Inside) → IsPool s → (rows : List (Vec ℕ Global)) (v : Vec ℕ Global) (place : ℕ)
    → map f (state_of s).entries ≡ map (λ v. v.items) rows → v ≡ get_or rows place v → place < length s.cuts.kept.cuts
    → v.items ≡ f (entry_at (state_of s).entries (place + 1))
place_row f s is rows v place e read below =
    let items = λ (w : Vec ℕ Global). w.items in
    let long = length-column f (state_of s).entries (map items rows) e in
    ap items read ∙ sym (get_or-map items rows place v [] (omega (arith, below, long, length-entries s is, length-map rows items)))
    ∙ place_column f s is (map items rows) place [] e below

pub parts_column : (s : Inside) → IsPool s → map entry_part (state_of s).entries ≡ map kept_part s.cuts.kept.cuts
parts_column s is = sym (map-map kept_part (λ e. e.cut) (state_of s).entries) ∙ ap (map kept_part) (pool_columns s is).cuts
