-- The sums of stored cuts.
use Rattle.std.proofs.Common.{◌≡◌, ℕ, ◌+◌, ◌-◌, ◌<◌, ◌≤◌, List, [], ◌∷◌, ◌++◌, length, map, get_or, All, take, drop, slice_range, refl, sym, ap, ap₂, subst, ◌∙◌, arith}
use Rattle.std.proofs.Math.Seq.{drop-cons}
use Rattle.std.proofs.lemmas.List.{length-map, get_or-map, map_push, take-map, drop-map}
use Rattle.std.proofs.lemmas.List.Elements.{All-nil, All-cons, All-head, All-tail, All-push, All-get_or}
use Rattle.std.proofs.lemmas.List.FromFn.{length-map-range_with_len, get_or-map-range_with_len}
use Rattle.hub_spec.specs.Problem.{Problem, IsProblem}
use Rattle.hub_spec.specs.Cuts.{Cut, cut_by, total, load, IsCut}
use Rattle.hub_spec.specs.Trees.{cut_at}
use Rattle.hub_spec.proofs.Mixes.{AreWhole}
use Rattle.cut_pool.specs.Kept.{Kept, by_values, by_set, cored, given, kept_cut, kept_cuts, kept_part, IsRemade, IsKeptFor, KeptList, node_loads, AreKeptFor}
use Rattle.cut_pool.proofs.KeptCutLaws.{kept_is_cut, kept_part_is}
use Rattle.cut_pool.proofs.NodeLoads.{loads_are}
use Rattle.ascent_search.specs.SingleCuts.{AreLoads, AreLentOf}

pub map-slice_range : {X Y : Type 0} (f : X → Y) (xs : List X) (a b : ℕ) → map f (slice_range xs a b) ≡ slice_range (map f xs) a b
map-slice_range f xs a b = sym (ap (take (b - a)) (drop-map f a xs) ∙ take-map f (b - a) (drop a xs))

pub one_item : {X : Type 0} (xs : List X) (i : ℕ) (d : X) → i < length xs → slice_range xs i (i + 1) ≡ get_or xs i d ∷ []
one_item xs i d low =
    let one : i + 1 - i ≡ 1 = omega arith in
    ap (λ (n : ℕ). take n (drop i xs)) one ∙ ap (take 1) (drop-cons xs i d low)

-- ---- the part of a cut that is computed again

part_is_one : (k : Kept) → IsRemade k → kept_part k ≡ 1
part_is_one (by_values rows) own = refl
part_is_one (by_set hubs order) own = refl
part_is_one (cored x) own = absurd own
part_is_one (given cut) own = absurd own

pub kept_whole : (p : Problem) (k : Kept) → IsRemade k → (kept_cut p k).part ≡ 1
kept_whole p k own = kept_part_is p k ∙ part_is_one k own

pub kept_are_whole : (p : Problem) (kept : List Kept) → All IsRemade kept → AreWhole (kept_cuts p kept)
kept_are_whole p [] own = All-nil (λ (cut : Cut). cut.part ≡ 1)
kept_are_whole p (k ∷ ks) own =
    All-cons (λ (cut : Cut). cut.part ≡ 1) (kept_cut p k) (kept_cuts p ks) (kept_whole p k (All-head IsRemade k ks own))
    (kept_are_whole p ks (All-tail IsRemade k ks own))

-- ---- the numbers of a stored cut

pub kept_at_number : (p : Problem) (k : KeptList) (c : ℕ) → IsProblem p → AreKeptFor p k → All IsRemade k.cuts → 1 ≤ c → c ≤ length k.cuts
    → AreLentOf p (cut_at (kept_cuts p k.cuts) c) (slice_range k.totals (c - 1) (c - 1 + 1))
    (slice_range k.loads (c - 1) (c - 1 + 1))
    (slice_range (map kept_part k.cuts) (c - 1) (c - 1 + 1))
kept_at_number p k c ok are own least most =
    let i = c - 1 in
    let here : i < length k.cuts = omega (arith, least, most) in
    let cuts = kept_cuts p k.cuts in
    let cut = cut_at cuts c in
    let long : i < length cuts = omega (arith, length-map k.cuts (kept_cut p), here) in
    let sum_is : get_or k.totals i 0 ≡ total cut =
    ap (λ (xs : List ℕ). get_or xs i 0) are.are_totals ∙ get_or-map total cuts i (cut_by []) 0 long in
    let row_is : get_or k.loads i [] ≡ node_loads p.size cut =
    ap (λ (xs : List (List ℕ)). get_or xs i []) are.are_loads ∙ get_or-map (node_loads p.size) cuts i (cut_by []) [] long in
    let sums_long : i < length k.totals = omega (arith, ap length are.are_totals, length-map cuts total, long) in
    let rows_long : i < length k.loads = omega (arith, ap length are.are_loads, length-map cuts (node_loads p.size), long) in
    record {
      sum = get_or k.totals i 0;
      loads = get_or k.loads i [];
      are = record {
        is_cut = subst (IsCut p) (sym (get_or-map (kept_cut p) k.cuts i (by_set [] []) (cut_by []) here))
            (kept_is_cut p (get_or k.cuts i (by_set [] [])) ok (All-get_or (IsKeptFor p) k.cuts i (by_set [] []) here are.fit));
        whole = All-get_or (λ (x : Cut). x.part ≡ 1) cuts i (cut_by []) long (kept_are_whole p k.cuts own);
        is_total = sum_is;
        long = ap length row_is ∙ length-map-range_with_len (load cut) 0 p.size;
        are_loads = λ n node. ap (λ (xs : List ℕ). get_or xs n 0) row_is ∙ get_or-map-range_with_len (load cut) 0 p.size n n 0 node (omega arith);
      };
      totals_are = one_item k.totals i 0 sums_long;
      rows_are = one_item k.loads i [] rows_long;
      parts_are = one_item (map kept_part k.cuts) i 0 (omega (arith, length-map k.cuts kept_part, here))
          ∙ ap (λ (e : ℕ). e ∷ [])
          (get_or-map kept_part k.cuts i (by_set [] []) 0 here ∙ part_is_one (get_or k.cuts i (by_set [] [])) (All-get_or IsRemade k.cuts i (by_set [] []) here own));
    }

-- ---- one cut more

pub kept_more : (p : Problem) (k l : KeptList) (cut : Kept) (sum : ℕ) (loads : List ℕ) → AreKeptFor p k → IsKeptFor p cut
    → AreLoads p (kept_cut p cut) sum loads
    → l ≡ record { cuts = k.cuts ++ cut ∷ []; totals = k.totals ++ sum ∷ []; loads = k.loads ++ loads ∷ [] } → AreKeptFor p l
kept_more p k l cut sum loads are fits sums is =
    subst (AreKeptFor p) (sym is) (record {
      fit = All-push (IsKeptFor p) k.cuts cut are.fit fits;
      are_totals = ap₂ (λ (xs : List ℕ) (x : ℕ). xs ++ x ∷ []) are.are_totals sums.is_total
          ∙ sym (ap (map total) (map_push (kept_cut p) k.cuts cut) ∙ map_push total (kept_cuts p k.cuts) (kept_cut p cut));
      are_loads = ap₂ (λ (xs : List (List ℕ)) (x : List ℕ). xs ++ x ∷ []) are.are_loads (loads_are p.size (kept_cut p cut) loads sums.long sums.are_loads)
          ∙ sym (ap (map (node_loads p.size)) (map_push (kept_cut p) k.cuts cut) ∙ map_push (node_loads p.size) (kept_cuts p k.cuts) (kept_cut p cut));
    })
