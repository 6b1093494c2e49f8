-- The loads as far as they are summed: row by row, and entry by entry of a row.
use Rattle.std.proofs.Common.{◌≡◌, ℕ, ◌+◌, ◌<◌, ◌≤◌, ℤ, pos, ◌+ℤ◌, FitsSigned, to_z, of_z, rules, List, length, get_or, take, map, set, All, refl, ap, sym, subst, ◌∙◌, ⊎_elim, arith}
use mir.Syntax.{w128}
use Rattle.hub_model.specs.Prices.{natural_values, signed_values}
use Rattle.hub_model.proofs.ListedValues.{listed_again}
use Rattle.hub_model.proofs.SignedSums.{sum_handed_on}
use Rattle.std.specs.List.Sorted.{IsStrictlyIncreasing}
use Rattle.std.proofs.lemmas.Bool.{cases_eq}
use Rattle.std.proofs.lemmas.List.{take_all, get_or-map, length-map, get_or-set_same, get_or-set_other}
use Rattle.std.proofs.lemmas.List.Elements.{All-get_or}
use Rattle.std.proofs.lemmas.List.Sums.{sum_by_more, sum_by_more_le}
use Rattle.hub_spec.specs.Cuts.{Prices, value_at, load, cut_by}
use Rattle.hub_spec.proofs.ListedValues.{IsNextValue, next_value, first_value_within}
use Rattle.hub_model.specs.HubCuts.{AreLoads, HasLoadsWithin, ListNodes, most_sum}

-- the loads of the first t rows, and of the first entries of the row after them
pub record AreLoadsUpTo (loads : List ℤ) (rows : List Prices) (t : ℕ) (u : List (ℕ × ℕ)) (e : ℕ) : Type 0 where
  pub each : (k : ℕ) → get_or loads k (pos 0) ≡ pos (load (cut_by (take t rows)) k + value_at (take e u) k)

-- ---- one entry more

-- the next entry as a signed one
pub entry_at : (items : List (ℕ × ℤ)) (u : List (ℕ × ℕ)) (e : ℕ) → items ≡ signed_values u → e < length items
    → (e < length u) × ((get_or items e (0, pos 0)).0 ≡ (get_or u e (0, 0)).0) × ((get_or items e (0, pos 0)).1 ≡ pos (get_or u e (0, 0)).1)
entry_at items u e same below =
    let signed : ℕ × ℕ → ℕ × ℤ = λ x. (x.0, pos x.1) in
    let long : length items ≡ length u = ap (length {A = ℕ × ℤ}) same ∙ length-map u signed in
    let short : e < length u = omega arith in
    let here : get_or items e (0, pos 0) ≡ signed (get_or u e (0, 0)) =
    ap (λ (xs : List (ℕ × ℤ)). get_or xs e (0, pos 0)) same ∙ get_or-map signed u e (0, 0) (0, pos 0) short in
    (short, ap (λ (x : ℕ × ℤ). x.0) here, ap (λ (x : ℕ × ℤ). x.1) here)

-- the row after the first t rows
pub record IsRow (rows : List Prices) (t : ℕ) (u : List (ℕ × ℕ)) : Type 0 where
  pub ascend : IsStrictlyIncreasing (map (λ (x : ℕ × ℕ). x.0) u)
  pub load_more : (k : ℕ) → load (cut_by (take (t + 1) rows)) k ≡ load (cut_by (take t rows)) k + value_at u k
  pub load_within : (k : ℕ) → load (cut_by (take t rows)) k + value_at u k ≤ most_sum

pub row_is : (rows : List Prices) (t : ℕ) (row : Prices) → t < length rows → row ≡ get_or rows t row → IsStrictlyIncreasing (map (λ (x : ℕ × ℕ). x.0) row.u)
    → HasLoadsWithin (cut_by rows) → IsRow rows t row.u
row_is rows t row below is ascend limit = record {
  ascend = ascend;
  load_more = λ k. sum_by_more (λ (d : Prices). value_at d.u k) rows t row below ∙ at k;
  load_within = λ k. omega (arith, sum_by_more_le (λ (d : Prices). value_at d.u k) rows t row below, at k, limit.each k);
}
  where
    at : (k : ℕ) → load (cut_by (take t rows)) k + value_at (get_or rows t row).u k ≡ load (cut_by (take t rows)) k + value_at row.u k
    at k = ap (λ (d : Prices). load (cut_by (take t rows)) k + value_at d.u k) (sym is)

-- what the next entry adds to is within the limit
entry_limit : (loads : List ℤ) (rows : List Prices) (t : ℕ) (u : List (ℕ × ℕ)) (e : ℕ) → IsRow rows t u → e < length u
    → load (cut_by (take t rows)) (get_or u e (0, 0)).0 + value_at (take e u) (get_or u e (0, 0)).0 + (get_or u e (0, 0)).1 ≤ most_sum
entry_limit loads rows t u e row below =
    let k = (get_or u e (0, 0)).0 in
    let v = (get_or u e (0, 0)).1 in
    let next = next_value u e row.ascend below in
    omega (arith, next.none, next.same, first_value_within (e + 1) u k, row.load_within k)

-- a load and a value as signed numbers, and what they add up to
added : (x z : ℤ) (n v : ℕ) → x ≡ pos n → z ≡ pos v → n + v ≤ most_sum
    → FitsSigned w128 (to_z w128 (of_z w128 x) +ℤ to_z w128 (of_z w128 z))
    × (to_z w128 (of_z w128 (to_z w128 (of_z w128 x) +ℤ to_z w128 (of_z w128 z))) ≡ pos (n + v))
added x z n v e f low =
    let first = sum_handed_on x n e (omega arith) in
    let second = sum_handed_on z v f (omega arith) in
    let whole : (to_z w128 (of_z w128 x) +ℤ to_z w128 (of_z w128 z)) ≡ pos (n + v) = rw (first, second) refl in
    (rw whole (small (n + v) low), sum_handed_on (to_z w128 (of_z w128 x) +ℤ to_z w128 (of_z w128 z)) (n + v) whole low)
  where
    small : (m : ℕ) → m ≤ most_sum → FitsSigned w128 (pos m)
    small m l = search (rules, arith)

-- the sum of the load and of the value of the next entry
pub entry_added : (loads : List ℤ) (rows : List Prices) (t : ℕ) (u : List (ℕ × ℕ)) (items : List (ℕ × ℤ)) (e : ℕ) → IsRow rows t u
    → items ≡ signed_values u → e < length items → AreLoadsUpTo loads rows t u e
    → let x = get_or loads (get_or items e (0, pos 0)).0 (pos 0) in let z = (get_or items e (0, pos 0)).1 in
    let k = (get_or u e (0, 0)).0 in
    FitsSigned w128 (to_z w128 (of_z w128 x) +ℤ to_z w128 (of_z w128 z))
    × (to_z w128 (of_z w128 (to_z w128 (of_z w128 x) +ℤ to_z w128 (of_z w128 z)))
    ≡ pos (load (cut_by (take t rows)) k + value_at (take e u) k + (get_or u e (0, 0)).1))
entry_added loads rows t u items e row same below so_far =
    let at = entry_at items u e same below in
    let k = (get_or u e (0, 0)).0 in
    added (get_or loads (get_or items e (0, pos 0)).0 (pos 0)) (get_or items e (0, pos 0)).1
    (load (cut_by (take t rows)) k + value_at (take e u) k) (get_or u e (0, 0)).1
    (ap (λ (m : ℕ). get_or loads m (pos 0)) at.1 ∙ so_far.each k) at.2 (entry_limit loads rows t u e row at.0)

pub loaded_more : (loads : List ℤ) (rows : List Prices) (t : ℕ) (u : List (ℕ × ℕ)) (e k : ℕ) (w : ℤ) → IsRow rows t u → e < length u
    → k ≡ (get_or u e (0, 0)).0 → k < length loads → AreLoadsUpTo loads rows t u e
    → w ≡ pos (load (cut_by (take t rows)) (get_or u e (0, 0)).0 + value_at (take e u) (get_or u e (0, 0)).0 + (get_or u e (0, 0)).1)
    → AreLoadsUpTo (set loads k w) rows t u (e + 1)
loaded_more loads rows t u e k w row below node within so_far is = record {
  each = λ m. ⊎_elim (λ same. at_node m same) (λ apart. elsewhere m apart) (cases_eq k m);
}
  where
    next : IsNextValue u e
    next = next_value u e row.ascend below

    elsewhere : (m : ℕ) → (k ≡ m → ⊥) → get_or (set loads k w) m (pos 0) ≡ pos (load (cut_by (take t rows)) m + value_at (take (e + 1) u) m)
    elsewhere m apart =
        let kept = next.other m (λ same. apart (node ∙ same)) in
        get_or-set_other loads k m w (pos 0) (λ same. apart (sym same)) ∙ so_far.each m
        ∙ ap (λ (x : ℕ). pos (load (cut_by (take t rows)) m + x)) (sym kept)

    at_node : (m : ℕ) → k ≡ m → get_or (set loads k w) m (pos 0) ≡ pos (load (cut_by (take t rows)) m + value_at (take (e + 1) u) m)
    at_node m same =
        let here : (get_or u e (0, 0)).0 ≡ m = sym node ∙ same in
        let value : value_at (take (e + 1) u) (get_or u e (0, 0)).0 ≡ value_at (take e u) (get_or u e (0, 0)).0 + (get_or u e (0, 0)).1 =
        omega (arith, next.none, next.same) in
        ap (λ (x : ℕ). get_or (set loads k w) x (pos 0)) (sym same) ∙ get_or-set_same loads k w (pos 0) within ∙ is
        ∙ ap pos (omega (arith, value)) ∙ ap (λ (x : ℕ). pos (load (cut_by (take t rows)) x + value_at (take (e + 1) u) x)) here

-- ---- where a row begins and ends

pub entry_node : (size : ℕ) (rows : List Prices) (t : ℕ) (row : Prices) (items : List (ℕ × ℤ)) (e : ℕ) → t < length rows → row ≡ get_or rows t row
    → ListNodes size rows → items ≡ signed_values row.u → e < length items → (get_or items e (0, pos 0)).0 < size
entry_node size rows t row items e below is nodes same within =
    let at = entry_at items row.u e same within in
    let listed = All-get_or (λ (d : Prices). All (λ (x : ℕ × ℕ). x.0 < size) d.u) rows t row below nodes.each in
    let here = subst (λ (d : Prices). All (λ (x : ℕ × ℕ). x.0 < size) d.u) (sym is) listed in
    omega (arith, at.1, All-get_or (λ (x : ℕ × ℕ). x.0 < size) row.u e (0, 0) at.0 here)

pub loaded_all : (loads : List ℤ) (rows : List Prices) (t : ℕ) (u : List (ℕ × ℕ)) (e : ℕ) → IsRow rows t u → length u ≤ e
    → AreLoadsUpTo loads rows t u e → AreLoads loads (cut_by (take (t + 1) rows))
loaded_all loads rows t u e row all so_far = record {
  each = λ k.
      let whole = ap (λ (xs : List (ℕ × ℕ)). value_at xs k) (take_all e u all) in
      so_far.each k ∙ ap pos (omega (arith, whole, row.load_more k));
}

-- the entries with signed values and as they are
pub by_row : (loads : List ℤ) (rows : List Prices) (t : ℕ) (u : List (ℕ × ℕ)) (items : List (ℕ × ℤ)) (e : ℕ) → items ≡ signed_values u
    → AreLoadsUpTo loads rows t (natural_values items) e → AreLoadsUpTo loads rows t u e
by_row loads rows t u items e same so_far =
    subst (λ (x : List (ℕ × ℕ)). AreLoadsUpTo loads rows t x e) (ap natural_values same ∙ listed_again u) so_far

pub by_items : (loads : List ℤ) (rows : List Prices) (t : ℕ) (u : List (ℕ × ℕ)) (items : List (ℕ × ℤ)) (e : ℕ) → items ≡ signed_values u
    → AreLoadsUpTo loads rows t u e → AreLoadsUpTo loads rows t (natural_values items) e
by_items loads rows t u items e same so_far =
    subst (λ (x : List (ℕ × ℕ)). AreLoadsUpTo loads rows t x e) (sym (ap natural_values same ∙ listed_again u)) so_far

pub all_entries : (u : List (ℕ × ℕ)) (items : List (ℕ × ℤ)) (e : ℕ) → items ≡ signed_values u → length items ≤ e → length u ≤ e
all_entries u items e same all =
    let signed : ℕ × ℕ → ℕ × ℤ = λ x. (x.0, pos x.1) in
    let long : length items ≡ length u = ap (length {A = ℕ × ℤ}) same ∙ length-map u signed in
    omega arith
