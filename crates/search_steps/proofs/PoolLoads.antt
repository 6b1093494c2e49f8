-- The entries of a pool as cuts of the problem, and what their loads are within for one unit of a cut's part.
use Rattle.std.proofs.Common.{◌≡◌, ℕ, zero, suc, ◌*◌, ◌/◌, ◌<◌, ◌≤◌, max, List, [], ◌∷◌, length, map, get_or, All, Contains, refl, ap, sym, ◌∙◌, true≢false, div-mul-le_self, arith}
use Rattle.std.specs.Prelude.{slice_index}
use Rattle.std.proofs.Math.Nat.{zero-div}
use Rattle.std.proofs.lemmas.Nat.{le-div}
use Rattle.std.proofs.lemmas.List.{get_or-map}
use Rattle.std.proofs.lemmas.List.Elements.{All-nil, All-cons, All-head, All-tail, All-contains, All-from_get_or}
use Rattle.hub_spec.specs.Limits.{most_part, most_cost}
use Rattle.hub_spec.specs.Problem.{Problem, IsProblem, commodities}
use Rattle.hub_spec.specs.Plans.{IsHubSet}
use Rattle.hub_spec.specs.Cuts.{Cut, total, load, IsCut}
use Rattle.hub_spec.specs.Separation.{IsOrder, IsSetCut, set_cut}
use Rattle.hub_spec.proofs.Mixes.{candidate_is_node}
use Rattle.hub_spec.proofs.SetCutFunction.{set_cut_is_one_lem}
use Rattle.hub_spec.proofs.SetCuts as sets
use Rattle.hub_spec.proofs.SetCuts.{loads_within, set_cut_is_cut}
use Rattle.hub_spec.proofs.SumLemmas.{by_test}
use Rattle.cut_pool.specs.Kept.{Kept, by_values, by_set, cored, given, kept_cut, kept_part, IsKeptFor, IsPooled}
use Rattle.search_spec.specs.Choices.{has_node}
use Rattle.search_spec.proofs.RuleParts.{has_when, in_when}
use Rattle.search_spec.proofs.Loads.{no_load_off}
use Rattle.cut_pool.specs.Entries.{Entry, entry_part, unit_loads, most_unit, kept_most, most_stated}
use Rattle.search_steps.specs.Pools.{entry_cut, IsSumsOf, IsPoolOf}

-- ---- the cut of a hub set over an order

is_minimal : (p : Problem) (set order : List ℕ) → IsProblem p → IsHubSet p set → IsOrder p set order → IsSetCut p set order (set_cut p set order)
is_minimal p set order ok is_set is_order = (set_cut_is_one_lem p set order (set_cut p set order) ok is_set is_order).1 refl

pub total_limit : (p : Problem) (set order : List ℕ) → IsProblem p → IsHubSet p set → IsOrder p set order
    → total (set_cut p set order) ≤ most_cost
total_limit p set order ok is_set is_order =
    sets.total_limit p set order (set_cut p set order) ok is_set (is_minimal p set order ok is_set is_order)

load_below : (p : Problem) (set order : List ℕ) (k : ℕ) → IsProblem p → IsHubSet p set → IsOrder p set order
    → load (set_cut p set order) k ≤ total (set_cut p set order)
load_below p set order k ok is_set is_order =
    loads_within p set order (commodities p.size) (set_cut p set order).duals k (is_minimal p set order ok is_set is_order).duals

-- ---- cuts of the problem

kept_is_cut : (p : Problem) (kept : Kept) → IsProblem p → IsPooled kept → IsKeptFor p kept → IsCut p (kept_cut p kept)
kept_is_cut p (by_values rows) ok pooled fits = absurd pooled
kept_is_cut p (by_set hubs order) ok pooled fits =
    set_cut_is_cut p hubs order (set_cut p hubs order) ok fits.0 fits.1 (is_minimal p hubs order ok fits.0 fits.1)
kept_is_cut p (cored x) ok pooled fits = fits.0.is_cut
kept_is_cut p (given cut) ok pooled fits = fits.0

pub entry_is_cut : (p : Problem) (e : Entry) → IsProblem p → IsSumsOf p e → IsCut p (entry_cut p e)
entry_is_cut p e ok is = kept_is_cut p e.cut ok is.pooled is.fits

part_of : (p : Problem) (kept : Kept) → IsPooled kept → kept_part kept ≡ (kept_cut p kept).part
unfolding set_cut
part_of p (by_values rows) pooled = absurd pooled
part_of p (by_set hubs order) pooled = refl
part_of p (cored x) pooled = refl
part_of p (given cut) pooled = refl

-- the part of an entry is that of its cut
pub part_is : (p : Problem) (e : Entry) → IsSumsOf p e → entry_part e ≡ (entry_cut p e).part
part_is p e is = part_of p e.cut is.pooled

pub part_limits : (p : Problem) (e : Entry) → IsProblem p → IsSumsOf p e → (1 ≤ entry_part e) × (entry_part e ≤ most_part)
part_limits p e ok is =
    let cut = entry_is_cut p e ok is in
    let same = part_is p e is in
    (omega (arith, same, cut.part_least), omega (arith, same, cut.part_most))

-- ---- the limits of sums

pub entry_total : (p : Problem) (e : Entry) → IsProblem p → IsSumsOf p e → e.total ≤ entry_part e * most_cost
entry_total p e ok is =
    let limit = (entry_is_cut p e ok is).sums.total_limit in
    rw (is.is_total, part_is p e is) limit

pub entry_load : (p : Problem) (e : Entry) (k : ℕ) → IsProblem p → IsSumsOf p e → Contains p.candidates k
    → get_or e.loads k 0 ≤ entry_part e * most_cost
entry_load p e k ok is candidate =
    let cut = entry_cut p e in
    let limits = (entry_is_cut p e ok is).sums.load_limit in
    let limit = All-contains (λ (m : ℕ). load cut m ≤ cut.part * most_cost) p.candidates k limits candidate in
    rw (is.are_loads k (candidate_is_node p k ok candidate), part_is p e is) limit

-- ---- loads within totals and the greatest load of the cuts that are stored with their duals

unit_below : (part m : ℕ) (us : List ℕ) → most_unit part us ≤ m → All (λ u. u / part ≤ m) us
unit_below part m [] low = All-nil (λ u. u / part ≤ m)
unit_below part m (u ∷ us) low = All-cons (λ u. u / part ≤ m) u us (omega (arith, low)) (unit_below part m us (omega (arith, low)))

unit_less : (part u t : ℕ) → 1 ≤ part → u ≤ t → u / part ≤ t / part
unit_less part u t some less = le-div (u / part) t part (omega (arith, some)) (omega (arith, div-mul-le_self u part, less))

kept_within : (p : Problem) (kept : Kept) (t m : ℕ) (loads : List ℕ) → IsProblem p → IsPooled kept → IsKeptFor p kept
    → t ≡ total (kept_cut p kept) → length loads ≡ p.size
    → ((k : ℕ) → k < p.size → slice_index loads k ≡ load (kept_cut p kept) k)
    → kept_most kept loads ≤ m → All (λ u. u / kept_part kept ≤ max (t / kept_part kept) m) loads
kept_within p (by_values rows) t m loads ok pooled fits is_total long are low = absurd pooled
kept_within p (by_set hubs order) t m loads ok pooled fits is_total long are low =
    All-from_get_or (λ u. u / 1 ≤ max (t / 1) m) loads 0 (λ k below.
    let within = load_below p hubs order k ok fits.0 fits.1 in
    let less = unit_less 1 (get_or loads k 0) t (omega arith) (omega (arith, is_total, within, are k (omega (arith, below, long)))) in
    omega (arith, less))
kept_within p (cored x) t m loads ok pooled fits is_total long are low = unit_below x.cut.part (max (t / x.cut.part) m) loads (omega (arith, low))
kept_within p (given cut) t m loads ok pooled fits is_total long are low = unit_below cut.part (max (t / cut.part) m) loads (omega (arith, low))

-- no load of the entry is, for one unit of its part, above both its total and this number
abbrev pub IsWithinUnits : ℕ → Entry → Type 0
IsWithinUnits most e = All (λ u. u / entry_part e ≤ max (e.total / entry_part e) most) e.loads

all_within : (p : Problem) (es : List Entry) (m : ℕ) → IsProblem p → IsPoolOf p es → most_stated es ≤ m → All (IsWithinUnits m) es
all_within p [] m ok are low = All-nil (IsWithinUnits m)
all_within p (e ∷ es) m ok are low =
    let is = All-head (IsSumsOf p) e es are in
    All-cons (IsWithinUnits m) e es
    (kept_within p e.cut e.total m e.loads ok is.pooled is.fits is.is_total is.one_load_each is.are_loads (omega (arith, low)))
    (all_within p es m ok (All-tail (IsSumsOf p) e es are) (omega (arith, low)))

-- no load of a pool's entries is above both its total and the greatest load of the cuts that are stored with their
-- duals
pub loads_within_units : (p : Problem) (es : List Entry) → IsProblem p → IsPoolOf p es → All (IsWithinUnits (most_stated es)) es
loads_within_units p es ok are = all_within p es (most_stated es) ok are (omega arith)

-- ---- the greatest load of the cuts that are stored with their duals is a candidate's

-- no candidate has a load above this number
abbrev pub AreAtMost : Problem → ℕ → List (List ℕ) → Type 0
AreAtMost p m rows = All (λ row. All (λ k. slice_index row k ≤ m) p.candidates) rows

units_at_most : (part m : ℕ) (us : List ℕ) → ((k : ℕ) → k < length us → get_or us k 0 / part ≤ m) → most_unit part us ≤ m
units_at_most part m [] low = omega arith
units_at_most part m (u ∷ us) low =
    let here : u / part ≤ m = low zero (omega arith) in
    let rest = units_at_most part m us (λ k below. low (suc k) (omega (arith, below))) in
    omega (arith, here, rest)

stated_at_most : (p : Problem) (cut : Cut) (m : ℕ) (loads : List ℕ) → IsCut p cut → length loads ≡ p.size
    → ((k : ℕ) → k < p.size → slice_index loads k ≡ load cut k)
    → All (λ k. slice_index (map (λ u. u / cut.part) loads) k ≤ m) p.candidates → most_unit cut.part loads ≤ m
stated_at_most p cut m loads is long are low =
    units_at_most cut.part m loads (λ k below.
    by_test (has_node p.candidates k)
    (λ e. let most = All-contains (λ (k : ℕ). slice_index (map (λ u. u / cut.part) loads) k ≤ m) p.candidates k low (in_when p.candidates k e) in
    omega (arith, most, get_or-map (λ u. u / cut.part) loads k 0 0 below))
    (λ e. let none : get_or loads k 0 ≡ 0 =
    are k (omega (arith, below, long)) ∙ no_load_off p cut k is (λ c. true≢false (sym (has_when p.candidates k c) ∙ e)) in
    omega (arith, ap (λ (u : ℕ). u / cut.part) none ∙ zero-div cut.part)))

kept_at_most : (p : Problem) (kept : Kept) (m : ℕ) (loads : List ℕ) → IsPooled kept → IsKeptFor p kept → length loads ≡ p.size
    → ((k : ℕ) → k < p.size → slice_index loads k ≡ load (kept_cut p kept) k)
    → All (λ k. slice_index (map (λ u. u / kept_part kept) loads) k ≤ m) p.candidates → kept_most kept loads ≤ m
kept_at_most p (by_values rows) m loads pooled fits long are low = absurd pooled
kept_at_most p (by_set hubs order) m loads pooled fits long are low = omega arith
kept_at_most p (cored x) m loads pooled fits long are low = stated_at_most p x.cut m loads fits.0.is_cut long are low
kept_at_most p (given cut) m loads pooled fits long are low = stated_at_most p cut m loads fits.0 long are low

-- it is not above what no candidate's load is above
pub most_reached : (p : Problem) (es : List Entry) (m : ℕ) → IsPoolOf p es → AreAtMost p m (unit_loads es) → most_stated es ≤ m
most_reached p [] m are low = omega arith
most_reached p (e ∷ es) m are low =
    let is = All-head (IsSumsOf p) e es are in
    let row : ℕ → List ℕ → Type 0 = λ m row. All (λ k. slice_index row k ≤ m) p.candidates in
    let here = kept_at_most p e.cut m e.loads is.pooled is.fits is.one_load_each is.are_loads
    (All-head (row m) (map (λ u. u / entry_part e) e.loads) (unit_loads es) low) in
    let rest = most_reached p es m (All-tail (IsSumsOf p) e es are) (All-tail (row m) (map (λ u. u / entry_part e) e.loads) (unit_loads es) low) in
    omega (arith, here, rest)
