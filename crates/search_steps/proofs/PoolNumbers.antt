-- The numbers that a pool lends are those of its entries' cuts.
use Rattle.std.proofs.Common.{◌≡◌, ℕ, ◌/◌, ◌^◌, ◌<◌, ◌≤◌, max, slice_index, List, [], ◌∷◌, length, map, get_or, All, Contains, refl, sym, ap, ap₂, ◌∙◌, arith}
use Rattle.std.specs.List.{AllZip}
use Rattle.std.proofs.lemmas.List.{length-map, get_or-map}
use Rattle.std.proofs.lemmas.Grind.{same_number_lists}
use Rattle.std.proofs.lemmas.List.FromFn.{get_or-map-range_with_len, length-map-range_with_len}
use Rattle.std.proofs.lemmas.List.Elements.{All-nil, All-cons, All-head, All-tail, All-weaker, All-map}
use Rattle.hub_spec.specs.Limits.{most_part}
use Rattle.hub_spec.specs.Problem.{Problem, IsProblem}
use Rattle.hub_spec.specs.Cuts.{Cut, total, load}
use Rattle.leaf_bound.specs.Numbers.{IsSumOf}
use Rattle.leaf_bound.specs.Bounds.{loads_of}
use Rattle.leaf_bound.specs.Theorems.{AreLoadsOf}
use Rattle.frac_master.specs.Masters.{AreShortRows, AreWithinTotals, halved}
use Rattle.cut_pool.specs.Entries.{Entry, entry_part, unit_totals, unit_loads, most_stated}
use Rattle.cut_pool.specs.Shorts.{Shorts, AreShortLoads, unit_row}
use Rattle.search_steps.specs.Pools.{entry_cut, IsSumsOf, IsPoolOf, pool_cuts}
use Rattle.search_steps.specs.Advising.{unit_total, unit_node_loads}
use Rattle.search_steps.proofs.PoolLoads.{IsWithinUnits, part_is, part_limits, entry_total, entry_load, loads_within_units}

-- the totals, the loads and the parts as a pool lends them
abbrev pub lent_totals : List Entry → List ℕ
lent_totals entries = map (λ (e : Entry). e.total) entries

abbrev pub lent_loads : List Entry → List (List ℕ)
lent_loads entries = map (λ (e : Entry). e.loads) entries

abbrev pub lent_parts : List Entry → List ℕ
lent_parts entries = map entry_part entries

-- ---- short rows

rows_lent : (h k : ℕ) (entries : List Entry)
    → map (λ (e : Entry). slice_index (unit_row e) k / 2 ^ h) entries ≡ map (λ load. halved h (slice_index load k)) (unit_loads entries)
rows_lent h k [] = refl
rows_lent h k (e ∷ entries) = ap (λ (xs : List ℕ). slice_index (unit_row e) k / 2 ^ h ∷ xs) (rows_lent h k entries)

-- the short loads that a pool lends are short rows of the loads that it lends for one unit of the parts
pub short_lent : (entries : List Entry) (s : Shorts) (h : ℕ) (rows : List (List ℕ)) → AreShortLoads entries s → rows ≡ s.rows → h ≡ s.halvings
    → AreShortRows h rows (unit_loads entries)
short_lent entries s h rows are same_rows same = record {
  row = λ k low.
      ap (λ (r : List (List ℕ)). get_or r k []) same_rows ∙ are.row k (omega (arith, low, ap length same_rows))
      ∙ ap (λ (n : ℕ). map (λ (e : Entry). slice_index (unit_row e) k / 2 ^ n) entries) (sym same) ∙ rows_lent h k entries;
}

-- ---- limits

within_each : (most : ℕ) (entries : List Entry) → All (IsWithinUnits most) entries
    → AreWithinTotals most (unit_totals entries) (unit_loads entries)
within_each most [] are = tt
within_each most (e ∷ entries) are =
    let part = entry_part e in
    let limit = max (e.total / part) most in (
      All-map (λ (u : ℕ). u ≤ limit) (λ (u : ℕ). u / part) e.loads (All-head (IsWithinUnits most) e entries are),
      within_each most entries (All-tail (IsWithinUnits most) e entries are),
    )

-- no load is above both its cut's total and the greatest load of the cuts that are stored with their duals
pub loads_below : (p : Problem) (entries : List Entry) → IsProblem p → IsPoolOf p entries
    → AreWithinTotals (most_stated entries) (unit_totals entries) (unit_loads entries)
loads_below p entries ok are = within_each (most_stated entries) entries (loads_within_units p entries ok are)

pub totals_sums : (p : Problem) (entries : List Entry) → IsProblem p → IsPoolOf p entries
    → AllZip IsSumOf (lent_parts entries) (lent_totals entries)
totals_sums p [] ok are = tt
totals_sums p (e ∷ entries) ok are = (
  entry_total p e ok (All-head (IsSumsOf p) e entries are),
  totals_sums p entries ok (All-tail (IsSumsOf p) e entries are),
)

pub loads_sums : (p : Problem) (entries : List Entry) (k : ℕ) → IsProblem p → IsPoolOf p entries → Contains p.candidates k
    → AllZip IsSumOf (lent_parts entries) (loads_of (lent_loads entries) k)
loads_sums p [] k ok are candidate = tt
loads_sums p (e ∷ entries) k ok are candidate = (
  entry_load p e k ok (All-head (IsSumsOf p) e entries are) candidate,
  loads_sums p entries k ok (All-tail (IsSumsOf p) e entries are) candidate,
)

pub rows_long : (p : Problem) (entries : List Entry) (n : ℕ) → IsPoolOf p entries → n ≡ p.size
    → All (λ (row : List ℕ). length row ≡ n) (lent_loads entries)
rows_long p entries n are size =
    All-map (λ (row : List ℕ). length row ≡ n) (λ (e : Entry). e.loads) entries
    (All-weaker (IsSumsOf p) (λ (e : Entry). length e.loads ≡ n) (λ e is. is.one_load_each ∙ sym size) entries are)

pub loads_long : (p : Problem) (entries : List Entry) (n : ℕ) → IsPoolOf p entries → n ≡ p.size
    → All (λ (row : List ℕ). length row ≡ n) (unit_loads entries)
loads_long p [] n are size = All-nil (λ (row : List ℕ). length row ≡ n)
loads_long p (e ∷ entries) n are size =
    let is = All-head (IsSumsOf p) e entries are in
    All-cons (λ (row : List ℕ). length row ≡ n) (unit_row e) (unit_loads entries)
    (length-map e.loads (λ (u : ℕ). u / entry_part e) ∙ is.one_load_each ∙ sym size)
    (loads_long p entries n (All-tail (IsSumsOf p) e entries are) size)

pub parts_least : (p : Problem) (entries : List Entry) → IsProblem p → IsPoolOf p entries
    → All (λ (part : ℕ). (1 ≤ part) × (part ≤ most_part)) (lent_parts entries)
parts_least p entries ok are =
    All-map (λ (part : ℕ). (1 ≤ part) × (part ≤ most_part)) entry_part entries
    (All-weaker (IsSumsOf p) (λ (e : Entry). (1 ≤ entry_part e) × (entry_part e ≤ most_part)) (λ e is. part_limits p e ok is) entries are)

-- ---- what they are

pub parts_are : (p : Problem) (entries : List Entry) → IsPoolOf p entries → lent_parts entries ≡ map (λ (cut : Cut). cut.part) (pool_cuts p entries)
parts_are p [] are = refl
parts_are p (e ∷ entries) are =
    ap₂ (λ (part : ℕ) (parts : List ℕ). part ∷ parts) (part_is p e (All-head (IsSumsOf p) e entries are))
    (parts_are p entries (All-tail (IsSumsOf p) e entries are))

pub totals_are : (p : Problem) (entries : List Entry) → IsPoolOf p entries → lent_totals entries ≡ map total (pool_cuts p entries)
totals_are p [] are = refl
totals_are p (e ∷ entries) are =
    ap₂ (λ (x : ℕ) (xs : List ℕ). x ∷ xs) (All-head (IsSumsOf p) e entries are).is_total (totals_are p entries (All-tail (IsSumsOf p) e entries are))

pub loads_zip : (p : Problem) (entries : List Entry) → IsPoolOf p entries → AllZip (AreLoadsOf p) (pool_cuts p entries) (lent_loads entries)
loads_zip p [] are = tt
loads_zip p (e ∷ entries) are =
    ((All-head (IsSumsOf p) e entries are).are_loads, loads_zip p entries (All-tail (IsSumsOf p) e entries are))

-- ---- for one unit of the parts

pub told_totals : (p : Problem) (entries : List Entry) → IsPoolOf p entries → unit_totals entries ≡ map unit_total (pool_cuts p entries)
told_totals p [] are = refl
told_totals p (e ∷ entries) are =
    let is = All-head (IsSumsOf p) e entries are in
    ap₂ (λ (x : ℕ) (xs : List ℕ). x ∷ xs) (ap₂ (λ (t part : ℕ). t / part) is.is_total (part_is p e is))
    (told_totals p entries (All-tail (IsSumsOf p) e entries are))

entry_loads : (p : Problem) (e : Entry) → IsSumsOf p e → unit_row e ≡ unit_node_loads p (entry_cut p e)
entry_loads p e is =
    let cut = entry_cut p e in
    let f : ℕ → ℕ = λ k. load cut k / cut.part in
    let part = entry_part e in
    let long : length (unit_row e) ≡ p.size = length-map e.loads (λ (u : ℕ). u / part) ∙ is.one_load_each in
    same_number_lists (unit_row e) (unit_node_loads p cut) (long ∙ sym (length-map-range_with_len f 0 p.size))
    (λ k low. let node : k < p.size = omega (arith, low, long) in
    get_or-map (λ (u : ℕ). u / part) e.loads k 0 0 (omega (arith, node, is.one_load_each))
    ∙ ap₂ (λ (u e : ℕ). u / e) (is.are_loads k node) (part_is p e is)
    ∙ sym (get_or-map-range_with_len f 0 p.size k k 0 node (omega arith)))

pub told_loads : (p : Problem) (entries : List Entry) → IsPoolOf p entries → unit_loads entries ≡ map (unit_node_loads p) (pool_cuts p entries)
told_loads p [] are = refl
told_loads p (e ∷ entries) are =
    ap₂ (λ (x : List ℕ) (xs : List (List ℕ)). x ∷ xs) (entry_loads p e (All-head (IsSumsOf p) e entries are))
    (told_loads p entries (All-tail (IsSumsOf p) e entries are))
