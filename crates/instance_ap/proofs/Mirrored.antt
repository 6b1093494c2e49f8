-- The distance back is the distance there, and stands before it where the first node is the greater.
use Rattle.std.proofs.Common.{◌≡◌, ℕ, ◌+◌, ◌*◌, ◌/◌, ◌%◌, ◌<◌, ◌≤◌, List, length, get_or, map, All, ℤ, pos, negsuc, FitsSigned, sym, ap, ap₂, ◌∙◌, arith}
use Rattle.std.specs.List.{range_with_len}
use Rattle.std.proofs.lemmas.Int.{ints, to_z-of_z}
use Rattle.std.proofs.lemmas.Nat.{div-mul-add, mod-mul-add}
use Rattle.std.proofs.Math.Nat.{mul-le-mul_right}
use Rattle.std.proofs.lemmas.List.{get_or-map}
use Rattle.std.proofs.lemmas.List.FromFn.{length-range_with_len, get_or-range_with_len}
use Rattle.std.proofs.lemmas.List.Elements.{All-get_or}
use mir.Val.{to_z, of_z}
use mir.Syntax.{w128}
use Rattle.file_spec.specs.Distances.{planar_distance, gap}
use Rattle.hub_model.specs.Amounts.{natural, IsListedNumber}
use Rattle.instance_ap.specs.Points.{origin, distance_between, distance_of, distances_front}

gap_back : (a b : ℤ) → gap a b ≡ gap b a
gap_back a b = omega (arith, ints)

distance_back : (divide : ℕ) (x y : ℤ × ℤ) → distance_between divide x y ≡ distance_between divide y x
distance_back divide x y = ap₂ (planar_distance divide) (gap_back x.0 y.0) (gap_back x.1 y.1)

pub back_before : (n from to place : ℕ) → place ≡ from * n + to → to < from → from < n → to * n + from < place
back_before n from to place is less below =
    let rows : (to + 1) * n ≤ from * n = mul-le-mul_right n (omega arith) in
    omega (arith, is, rows)

-- the distance of the commodity back is that of the commodity of this place
mirrored : (divide n : ℕ) (points : List (ℤ × ℤ)) (place from to : ℕ) → from ≡ place / n → to ≡ place % n → from < n → to < n
    → distance_of divide n points (to * n + from) ≡ distance_of divide n points place
mirrored divide n points place from to is_from is_to below within =
    let first : (to * n + from) / n ≡ place % n = div-mul-add to n from below ∙ is_to in
    let last : (to * n + from) % n ≡ place / n = mod-mul-add to n from below ∙ is_from in
    ap₂ (λ a b. distance_between divide (get_or points a origin) (get_or points b origin)) first last
    ∙ distance_back divide (get_or points (place % n) origin) (get_or points (place / n) origin)

-- the number that stands at a place of the front
front_at : (divide n : ℕ) (points : List (ℤ × ℤ)) (before : List ℤ) (m : ℕ) → m < length before
    → map natural before ≡ distances_front divide n points (length before) → natural (get_or before m (pos 0)) ≡ distance_of divide n points m
unfolding distances_front
front_at divide n points before m below values =
    let all : List ℕ = range_with_len 0 (length before) in
    let start : 0 + m ≡ m = omega arith in
    let long : m < length all = omega (arith, length-range_with_len 0 (length before)) in
    sym (get_or-map natural before m (pos 0) 0 below)
    ∙ ap (λ (xs : List ℕ). get_or xs m 0) values
    ∙ get_or-map (distance_of divide n points) all m 0 0 long
    ∙ ap (distance_of divide n points) (get_or-range_with_len 0 (length before) m 0 below ∙ start)

back_distance : (divide n : ℕ) (points : List (ℤ × ℤ)) (before : List ℤ) (from to : ℕ) → from ≡ length before / n → to ≡ length before % n
    → from < n → to < n → to * n + from < length before → map natural before ≡ distances_front divide n points (length before)
    → natural (get_or before (to * n + from) (pos 0)) ≡ distance_of divide n points (length before)
back_distance divide n points before from to is_from is_to below within earlier values =
    front_at divide n points before (to * n + from) earlier values ∙ mirrored divide n points (length before) from to is_from is_to below within

fits : (z : ℤ) → IsListedNumber z → FitsSigned w128 z
fits (pos n) h = record { sfits = omega (arith, ints, h.most) }
fits (negsuc n) h = absurd (omega (arith, ints, h.least))

-- as the machine hands it on
pub back_handed : (divide n : ℕ) (points : List (ℤ × ℤ)) (before : List ℤ) (from to : ℕ) → from ≡ length before / n → to ≡ length before % n
    → from < n → to < n → to * n + from < length before → All IsListedNumber before → map natural before ≡ distances_front divide n points (length before)
    → natural (to_z w128 (of_z w128 (get_or before (to * n + from) (pos 0)))) ≡ distance_of divide n points (length before)
back_handed divide n points before from to is_from is_to below within earlier listed values =
    let one = fits (get_or before (to * n + from) (pos 0)) (All-get_or IsListedNumber before (to * n + from) (pos 0) earlier listed) in
    ap natural (to_z-of_z w128 (get_or before (to * n + from) (pos 0)) one)
    ∙ back_distance divide n points before from to is_from is_to below within earlier values
