-- Entries and what stands side by side.
use Rattle.std.proofs.Common.{◌≡◌, ◌≢◌, ℕ, ◌-◌, ◌<◌, Bool, true, false, not, List, [], ◌∷◌, ◌++◌, Option, Some, None, length, map, get_or, All, refl, sym, ap, ◌∙◌, arith}
use Rattle.std.specs.Prelude.{bytes_eq}
use Rattle.std.proofs.lemmas.Slice.Eq.{bytes_eq-Decides}
use Rattle.std.proofs.lemmas.List.{length-map, get_or-map}
use Rattle.std.proofs.lemmas.List.Elements.{All-get_or}
use Rattle.cut_pool.specs.Kept.{Kept, by_set, kept_of, kept_set}
use Rattle.cut_pool.specs.declared.kept.KeptCut.{KeptCut}
use Rattle.cut_pool.specs.Entries.{Entry, entry_at, IsNumber, Lacks}
use Rattle.cut_pool.specs.PoolCuts.{sets_of, entries_of}

-- the lists are as long as one another
pub record AreBeside (ks : List Kept) (ts : List ℕ) (ls : List (List ℕ)) : Type 0 where
  pub totals : length ts ≡ length ks
  pub loads : length ls ≡ length ks

-- each list is a column of the entries
pub record AreColumns (es : List Entry) (ks : List Kept) (ts : List ℕ) (ls : List (List ℕ)) : Type 0 where
  pub cuts : map (λ e. e.cut) es ≡ ks
  pub totals : map (λ e. e.total) es ≡ ts
  pub loads : map (λ e. e.loads) es ≡ ls

beside_rest : (k : Kept) (t : ℕ) (l : List ℕ) (ks : List Kept) (ts : List ℕ) (ls : List (List ℕ))
    → AreBeside (k ∷ ks) (t ∷ ts) (l ∷ ls) → AreBeside ks ts ls
beside_rest k t l ks ts ls a = record { totals = omega (arith, a.totals); loads = omega (arith, a.loads) }

pub columns : (ks : List Kept) (ts : List ℕ) (ls : List (List ℕ)) → AreBeside ks ts ls → AreColumns (entries_of ks ts ls) ks ts ls
columns [] [] [] a = record { cuts = refl; totals = refl; loads = refl }
columns [] (t ∷ ts) ls a = absurd (omega (arith, a.totals))
columns [] [] (l ∷ ls) a = absurd (omega (arith, a.loads))
columns (k ∷ ks) [] ls a = absurd (omega (arith, a.totals))
columns (k ∷ ks) (t ∷ ts) [] a = absurd (omega (arith, a.loads))
columns (k ∷ ks) (t ∷ ts) (l ∷ ls) a =
    let c = columns ks ts ls (beside_rest k t l ks ts ls a) in
    record {
      cuts = ap (λ (xs : List Kept). k ∷ xs) c.cuts;
      totals = ap (λ (xs : List ℕ). t ∷ xs) c.totals;
      loads = ap (λ (xs : List (List ℕ)). l ∷ xs) c.loads;
    }

pub entries_push : (ks : List Kept) (ts : List ℕ) (ls : List (List ℕ)) (k : Kept) (t : ℕ) (l : List ℕ) → AreBeside ks ts ls
    → entries_of (ks ++ k ∷ []) (ts ++ t ∷ []) (ls ++ l ∷ [])
    ≡ entries_of ks ts ls ++ record { cut = k; total = t; loads = l } ∷ []
entries_push [] [] [] k t l a = refl
entries_push [] (y ∷ ts) ls k t l a = absurd (omega (arith, a.totals))
entries_push [] [] (y ∷ ls) k t l a = absurd (omega (arith, a.loads))
entries_push (x ∷ ks) [] ls k t l a = absurd (omega (arith, a.totals))
entries_push (x ∷ ks) (y ∷ ts) [] k t l a = absurd (omega (arith, a.loads))
entries_push (x ∷ ks) (y ∷ ts) (z ∷ ls) k t l a =
    ap (λ (es : List Entry). record { cut = x; total = y; loads = z } ∷ es)
    (entries_push ks ts ls k t l (beside_rest x y z ks ts ls a))

pub length-column : {X : Type 0} (f : Entry → X) (es : List Entry) (xs : List X) → map f es ≡ xs → length es ≡ length xs
length-column f es xs e = sym (length-map es f) ∙ ap length e

-- what a column has of the entry of a number
pub column_at : {X : Type 0} (f : Entry → X) (es : List Entry) (xs : List X) (c : ℕ) (d : X) → map f es ≡ xs → IsNumber es c
    → get_or xs (c - 1) d ≡ f (entry_at es c)
column_at f es xs c d e number =
    ap (λ ys. get_or ys (c - 1) d) (sym e)
    ∙ get_or-map f es (c - 1) (record { cut = by_set [] []; total = 0; loads = [] }) d (omega (arith, number.least, number.most))

-- ---- a stored cut that is read

module _ (cuts : List KeptCut) (ks : List Kept) (i : ℕ) (x : KeptCut) (same : map kept_of cuts ≡ ks) (within : i < length ks)
    (read : x ≡ get_or cuts i x) where
  pub kept_there : kept_of x ≡ get_or ks i (kept_of x)
  kept_there =
      ap kept_of read ∙ sym (get_or-map kept_of cuts i x (kept_of x) (omega (arith, within, ap length same, length-map cuts kept_of)))
      ∙ ap (λ (ys : List Kept). get_or ys i (kept_of x)) same

  pub set_there : (d : Option (List ℕ)) → kept_set (kept_of x) ≡ get_or (sets_of ks) i d
  set_there d = ap kept_set kept_there ∙ sym (get_or-map kept_set ks i (kept_of x) d within)

-- ---- hub sets that no entry has

pub lacks_from_sets : (es : List Entry) (sets : List (Option (List ℕ))) (hubs : List ℕ) → map (λ e. kept_set e.cut) es ≡ sets
    → All (λ s. s ≢ Some hubs) sets → Lacks es hubs
lacks_from_sets es sets hubs e lacks = λ k d within same.
    let long = length-column (λ e. kept_set e.cut) es sets e in
    let at : get_or sets k None ≡ kept_set (get_or es k d).cut =
    ap (λ (ys : List (Option (List ℕ))). get_or ys k None) (sym e) ∙ get_or-map (λ e. kept_set e.cut) es k d None within in
    All-get_or (λ s. s ≢ Some hubs) sets k None (omega (arith, long)) lacks (at ∙ same)

pub sets_from_lacks : (es : List Entry) (sets : List (Option (List ℕ))) (hubs : List ℕ) → map (λ e. kept_set e.cut) es ≡ sets
    → Lacks es hubs → All (λ s. s ≢ Some hubs) sets
sets_from_lacks es sets hubs e lacks = λ k d within same.
    let long = length-column (λ e. kept_set e.cut) es sets e in
    let none : Entry = record { cut = by_set [] []; total = 0; loads = [] } in
    let at : get_or sets k d ≡ kept_set (get_or es k none).cut =
    ap (λ (ys : List (Option (List ℕ))). get_or ys k d) (sym e) ∙ get_or-map (λ e. kept_set e.cut) es k none d (omega (arith, long)) in
    All-get_or (λ e. kept_set e.cut ≢ Some hubs) es k none (omega (arith, long)) lacks (sym at ∙ same)

-- ---- one map after another

pub map-map : {X Y W : Type 0} (g : Y → W) (f : X → Y) (xs : List X) → map g (map f xs) ≡ map (λ x. g (f x)) xs
map-map g f [] = refl
map-map g f (x ∷ xs) = ap (λ ys. g (f x) ∷ ys) (map-map g f xs)

-- ---- a test that the members of two sets are others

from_not : (b : Bool) → not b ≡ false → b ≡ true
from_not true h = refl
from_not false h = cc

to_not : (b : Bool) → not b ≡ true → b ≡ false
to_not true h = cc
to_not false h = refl

pub same_members : (xs ys : List ℕ) (other : Bool) → other ≡ not (bytes_eq xs ys) → other ≡ false → xs ≡ ys
same_members xs ys other is test = (bytes_eq-Decides xs ys).0 (from_not (bytes_eq xs ys) (sym is ∙ test))

pub other_members : (xs ys : List ℕ) (other : Bool) → other ≡ not (bytes_eq xs ys) → other ≡ true → xs ≢ ys
other_members xs ys other is test = λ same.
    let e : false ≡ true = sym (to_not (bytes_eq xs ys) (sym is ∙ test)) ∙ (bytes_eq-Decides xs ys).1 same in
    cc
