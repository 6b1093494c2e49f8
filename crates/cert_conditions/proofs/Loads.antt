-- The values of a dual added to loads, entry by entry.
use Rattle.std.proofs.Common.{◌≡◌, ℕ, ◌+◌, ◌*◌, ◌^◌, ◌<◌, ◌≤◌, List, ◌++◌, ◌-◌, length, get_or, refl, subst, take, map, set, All, [], ◌∷◌, nat_eq, ap, ap₂, sym, ◌∙◌, ⊎_elim, length-append, mul-le-mul, mul-le-mul_left, arith}
use Rattle.std.specs.List.Sorted.{IsStrictlyIncreasing}
use Rattle.std.proofs.Math.Seq.{get_or-append_seam, set-append_seam}
use Rattle.std.proofs.lemmas.Bool.{cases_eq, cond_both}
use Rattle.std.proofs.lemmas.List.{get_or-set_same, get_or-set_other}
use Rattle.std.proofs.lemmas.List.Elements.{All-get_or, All-head, All-tail, All-weaker, All-from_get_or}
use Rattle.hub_spec.specs.Limits.{most_part}
use Rattle.hub_spec.specs.Cuts.{Prices, value_at}
use Rattle.hub_spec.specs.Ranges.{IsDualInRange}
use Rattle.hub_spec.proofs.ListedValues.{next_value}
use Rattle.cert_conditions.specs.Sums.{CutTally, most_duals, most_load, IsRunAdded, AreWithinRange, no_sums, last_of}

-- the load of the next entry's node is as it was
load_before : (run : ℕ) (u : List (ℕ × ℕ)) (old loads : List ℕ) (e k : ℕ) → IsStrictlyIncreasing (map (λ (x : ℕ × ℕ). x.0) u) → e < length u
    → k ≡ (get_or u e (0, 0)).0 → ((m : ℕ) → get_or loads m 0 ≡ get_or old m 0 + run * value_at (take e u) m) → get_or loads k 0 ≡ get_or old k 0
load_before run u old loads e k up below node each =
    let none : value_at (take e u) k ≡ 0 = ap (value_at (take e u)) node ∙ (next_value u e up below).none in
    each k ∙ ap (λ v. get_or old k 0 + run * v) none ∙ omega arith

pub load_limit : (most run : ℕ) (u : List (ℕ × ℕ)) (old loads : List ℕ) (e k : ℕ) → IsStrictlyIncreasing (map (λ (x : ℕ × ℕ). x.0) u) → e < length u
    → k ≡ (get_or u e (0, 0)).0 → k < length old → All (λ x. x ≤ most) old
    → ((m : ℕ) → get_or loads m 0 ≡ get_or old m 0 + run * value_at (take e u) m) → get_or loads k 0 ≤ most
load_limit most run u old loads e k up below node within limit each =
    omega (arith, load_before run u old loads e k up below node each, All-get_or (λ x. x ≤ most) old k 0 within limit)

-- with the value of the next entry added to its node's load
pub loaded_more : (run : ℕ) (u : List (ℕ × ℕ)) (old loads : List ℕ) (e k w : ℕ) → IsStrictlyIncreasing (map (λ (x : ℕ × ℕ). x.0) u) → e < length u
    → k ≡ (get_or u e (0, 0)).0 → k < length loads → w ≡ get_or loads k 0 + run * (get_or u e (0, 0)).1
    → ((m : ℕ) → get_or loads m 0 ≡ get_or old m 0 + run * value_at (take e u) m)
    → (m : ℕ) → get_or (set loads k w) m 0 ≡ get_or old m 0 + run * value_at (take (e + 1) u) m
loaded_more run u old loads e k w up below node within sum each m =
    let next = next_value u e up below in
    let value : value_at (take (e + 1) u) k ≡ (get_or u e (0, 0)).1 = ap (value_at (take (e + 1) u)) node ∙ next.same in
    let here : get_or (set loads k w) k 0 ≡ get_or old k 0 + run * value_at (take (e + 1) u) k =
    get_or-set_same loads k w 0 within ∙ sum
    ∙ ap₂ (λ load v. load + run * v) (load_before run u old loads e k up below node each) (sym value) in
    ⊎_elim (λ same. ap (λ x. get_or (set loads k w) x 0) (sym same) ∙ here ∙ ap (λ x. get_or old x 0 + run * value_at (take (e + 1) u) x) same)
    (λ apart. get_or-set_other loads k m w 0 (λ same. apart (sym same)) ∙ each m
    ∙ ap (λ x. get_or old m 0 + run * x) (sym (next.other m (λ same. apart (node ∙ same)))))
    (cases_eq k m)

value_short : (u : List (ℕ × ℕ)) (k : ℕ) → All (λ (e : ℕ × ℕ). e.1 ≤ 10 ^ 33) u → value_at u k ≤ 10 ^ 33
value_short [] k h = omega arith
value_short (e ∷ u) k h =
    cond_both (nat_eq e.0 k) e.1 (value_at u k) (λ v. v ≤ 10 ^ 33) (λ is. All-head (λ (e : ℕ × ℕ). e.1 ≤ 10 ^ 33) e u h)
    (λ is. value_short u k (All-tail (λ (e : ℕ × ℕ). e.1 ≤ 10 ^ 33) e u h))

pub dual_value_short : (n : ℕ) (dual : Prices) (k : ℕ) → IsDualInRange n dual → value_at dual.u k ≤ 10 ^ 33
dual_value_short n dual k h =
    value_short dual.u k (All-weaker (λ (e : ℕ × ℕ). (e.0 < n) × (1 ≤ e.1) × (e.1 < 10 ^ 33)) (λ (e : ℕ × ℕ). e.1 ≤ 10 ^ 33)
    (λ e h. let x : e.1 < 10 ^ 33 = h.2 in omega arith) dual.u h.each)

-- so many times an amount of those that are listed
pub entry_times : (n run : ℕ) (dual : Prices) (e : ℕ) → IsDualInRange n dual → run ≤ most_duals → e < length dual.u
    → run * (get_or dual.u e (0, 0)).1 ≤ most_load
entry_times n run dual e range few below =
    let each = All-get_or (λ (e : ℕ × ℕ). (e.0 < n) × (1 ≤ e.1) × (e.1 < 10 ^ 33)) dual.u e (0, 0) below range.each in
    let short : (get_or dual.u e (0, 0)).1 ≤ 10 ^ 33 = (let x : (get_or dual.u e (0, 0)).1 < 10 ^ 33 = each.2 in omega arith) in
    mul-le-mul few short

-- a sum with so many times an amount more
sum_short : (count run sum v : ℕ) → sum ≤ count * 10 ^ 33 → v ≤ 10 ^ 33 → sum + run * v ≤ (count + run) * 10 ^ 33
sum_short count run sum v within short = omega (arith, within, mul-le-mul_left run short)

pub load_limits : (n run : ℕ) (old later : CutTally) (dual : Prices) → IsDualInRange n dual → AreWithinRange old
    → old.count + run ≤ most_duals → IsRunAdded old run dual later → AreWithinRange later
load_limits n run old later dual range within few added = record {
  part_least = subst (λ e. 1 ≤ e) (sym added.part_is) within.part_least;
  part_most = subst (λ e. e ≤ most_part) (sym added.part_is) within.part_most;
  few = omega (arith, added.count_is);
  total_limit = let a : dual.a < 10 ^ 33 = range.a in
      let sum = sum_short old.count run old.total dual.a within.total_limit (omega arith) in
      omega (arith, added.count_is, added.total_is, sum);
  load_limit = All-from_get_or (λ load. load ≤ later.count * 10 ^ 33) later.loads 0 (λ k below.
      let load = All-get_or (λ load. load ≤ old.count * 10 ^ 33) old.loads k 0 (omega (arith, added.long)) within.load_limit in
      let sum = sum_short old.count run (get_or old.loads k 0) (value_at dual.u k) load (dual_value_short n dual k range) in
      omega (arith, added.count_is, added.loads_are k, sum));
}

pub loads_below : (tally : CutTally) → AreWithinRange tally → All (λ (load : ℕ). load ≤ most_load) tally.loads
loads_below tally within =
    All-weaker (λ load. load ≤ tally.count * 10 ^ 33) (λ load. load ≤ most_load) (λ load h. omega (arith, within.few)) tally.loads within.load_limit

pub added_of : (old : CutTally) (run : ℕ) (dual : Prices) (loads : List ℕ) → length loads ≡ length old.loads
    → ((k : ℕ) → get_or loads k 0 ≡ get_or old.loads k 0 + run * value_at dual.u k)
    → IsRunAdded old run dual (record { part = old.part; count = old.count + run; total = old.total + run * dual.a; loads = loads })
added_of old run dual loads long each =
    record { part_is = refl; count_is = refl; total_is = refl; long = long; loads_are = each }

pub without_price : (n m : ℕ) (dual : Prices) → m ≡ n → IsDualInRange n dual → IsDualInRange m (record { a = 0; u = dual.u })
without_price n m dual e h = record {
  a = omega arith;
  ascend = h.ascend;
  each = subst (λ x. All (λ (e : ℕ × ℕ). (e.0 < x) × (1 ≤ e.1) × (e.1 < 10 ^ 33)) dual.u) (sym e) h.each;
}

-- the last of some is at one less than their number
at_last : (front : List CutTally) (last : CutTally) → length (front ++ last ∷ []) - 1 ≡ length front
at_last front last = omega (arith, length-append front (last ∷ []))

pub last-is : (front : List CutTally) (last d : CutTally) → get_or (front ++ last ∷ []) (length (front ++ last ∷ []) - 1) d ≡ last
last-is front last d = ap (λ i. get_or (front ++ last ∷ []) i d) (at_last front last) ∙ get_or-append_seam front last [] d

pub set-last : (front : List CutTally) (last x : CutTally) → set (front ++ last ∷ []) (length (front ++ last ∷ []) - 1) x ≡ front ++ x ∷ []
set-last front last x = ap (λ i. set (front ++ last ∷ []) i x) (at_last front last) ∙ set-append_seam front last [] x

-- the last of these is replaced
pub last_written : (items front : List CutTally) (last d read new : CutTally) (n run : ℕ) (dual : Prices) → n ≡ length items
    → items ≡ front ++ last ∷ [] → read ≡ get_or items (n - 1) d → IsRunAdded read run dual new
    → (later : CutTally) × IsRunAdded last run dual later × (set items (n - 1) new ≡ front ++ later ∷ [])
last_written items front last d read new n run dual many are is added =
    let at : n - 1 ≡ length (front ++ last ∷ []) - 1 = ap (λ x. x - 1) (many ∙ ap length are) in (
      new,
      subst (λ t. IsRunAdded t run dual new)
          (is ∙ ap (λ i. get_or items i d) at ∙ ap (λ l. get_or l (length (front ++ last ∷ []) - 1) d) are ∙ last-is front last d) added,
      ap (λ i. set items i new) at ∙ ap (λ l. set l (length (front ++ last ∷ []) - 1) new) are ∙ set-last front last new,
    )

pub last_of-last : (front : List CutTally) (last : CutTally) → last_of (front ++ last ∷ []) ≡ last
last_of-last front last = last-is front last no_sums
