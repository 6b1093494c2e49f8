-- Sums for one unit of the parts of cuts.
use Rattle.std.proofs.Common.{◌≡◌, ℕ, suc, ◌+◌, ◌-◌, ◌/◌, ◌<◌, max, List, [], ◌∷◌, ◌++◌, length, map, take, get_or, refl, sym, ap, ap₂, ◌∙◌, arith}
use Rattle.std.specs.Ordering.{nat_cmp, ord_max}
use Rattle.std.proofs.Math.Nat.{div-one}
use Rattle.std.proofs.lemmas.Bool.Decides.{nat_tests}
use Rattle.std.proofs.Math.Seq.{take-suc}
use Rattle.std.proofs.lemmas.List.{length-map, map_push}
use Rattle.cut_pool.specs.Kept.{Kept, by_values, by_set, cored, given, kept_part}
use Rattle.cut_pool.specs.Entries.{Entry, entry_at, entry_part, unit_loads, most_unit, kept_most, most_stated, IsNumber}
use Rattle.cut_pool.specs.Shorts.{unit_row}
use Rattle.cut_pool.specs.Stated.{IsStated}
use Rattle.cut_pool.specs.Units.{Units, kept_row, AreUnits}
use Rattle.cut_pool.proofs.Columns.{column_at}

-- ---- parts of 1

pub whole_row : (us : List ℕ) → map (λ u. u / 1) us ≡ us
whole_row [] = refl
whole_row (u ∷ us) = ap₂ (λ (x : ℕ) (xs : List ℕ). x ∷ xs) (div-one u) (whole_row us)

-- ---- a cut added

pub units_more : (es : List Entry) (e : Entry) (u v : Units) (total : ℕ) (row : List ℕ) → AreUnits es u
    → v.totals ≡ u.totals ++ total ∷ [] → v.rows ≡ u.rows ++ row ∷ [] → total ≡ e.total / entry_part e
    → row ≡ kept_row (entry_part e) e.loads → AreUnits (es ++ e ∷ []) v
units_more es e u v total row are totals rows total_is row_is = record {
  totals = totals ∙ ap₂ (λ (xs : List ℕ) (x : ℕ). xs ++ x ∷ []) are.totals total_is ∙ sym (map_push (λ (e : Entry). e.total / entry_part e) es e);
  rows = rows ∙ ap₂ (λ (xs : List (List ℕ)) (x : List ℕ). xs ++ x ∷ []) are.rows row_is
      ∙ sym (map_push (λ (e : Entry). kept_row (entry_part e) e.loads) es e);
}

-- ---- the loads of the first entries

pub loads_taken : (es : List Entry) (i : ℕ) → i < length es
    → take (i + 1) (unit_loads es) ≡ take i (unit_loads es) ++ unit_row (entry_at es (i + 1)) ∷ []
loads_taken es i low =
    let next : i + 1 ≡ suc i = omega arith in
    let same : i ≡ (i + 1) - 1 = omega arith in
    let here : IsNumber es (i + 1) = record { least = omega arith; most = omega (arith, low) } in
    ap (λ (n : ℕ). take n (unit_loads es)) next ∙ take-suc (unit_loads es) i [] (omega (arith, low, length-map es unit_row))
    ∙ ap (λ (row : List ℕ). take i (unit_loads es) ++ row ∷ [])
    (ap (λ (k : ℕ). get_or (unit_loads es) k []) same ∙ column_at unit_row es (unit_loads es) (i + 1) [] refl here)

-- ---- the greatest load

pub greater_is : (a b : ℕ) → ord_max nat_cmp a b ≡ max a b
greater_is a b = grind (arith, nat_tests)

pub most_unit_push : (part : ℕ) (us : List ℕ) (u : ℕ) → most_unit part (us ++ u ∷ []) ≡ max (most_unit part us) (u / part)
most_unit_push part [] u = omega arith
most_unit_push part (x ∷ us) u = let rest = most_unit_push part us u in omega (arith, rest)

pub most_more : (es : List Entry) (e : Entry) → most_stated (es ++ e ∷ []) ≡ max (most_stated es) (kept_most e.cut e.loads)
most_more [] e = omega arith
most_more (x ∷ es) e = let rest = most_more es e in omega (arith, rest)

pub stated_most : (k : Kept) (loads : List ℕ) → IsStated k → kept_most k loads ≡ most_unit (kept_part k) loads
stated_most (by_values rows) loads is = absurd is
stated_most (by_set hubs order) loads is = absurd is
stated_most (cored x) loads is = refl
stated_most (given cut) loads is = refl
