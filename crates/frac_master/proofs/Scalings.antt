-- How often numbers are halved, and what is small then.
use Rattle.std.proofs.Common.{◌≡◌, ℕ, zero, suc, ◌/◌, ◌^◌, ◌<◌, ◌≤◌, false, List, [], ◌∷◌, ◌++◌, get_or, max, not, All, refl, sym, ap, ◌∙◌, ⊎_elim, arith}
use Rattle.std.specs.Prelude.{fold, nat_le, slice_index}
use Rattle.std.specs.List.{flat_map, range_with_len, position_or_len}
use Rattle.std.proofs.Math.Nat.{le-max_left, le-max_right, le-div_iff_mul-le, div-eq_of_lt, pow-suc}
use Rattle.std.proofs.lemmas.Nat.{pow_pos}
use Rattle.std.proofs.lemmas.Bool.{leb-true, cases_lt}
use Rattle.std.proofs.lemmas.Bool.Decides.{nat_tests}
use Rattle.std.proofs.lemmas.List.Elements.{All-nil, All-cons, All-head, All-tail, All-append, All-map, All-weaker}
use Rattle.std.proofs.lemmas.List.Sums.{fold-append, position_or_len_is, fails_before_first, passes_at_first, prefix_len-le-length}
use Rattle.std.proofs.lemmas.List.FromFn.{length-range_with_len, get_or-range_with_len}
use Rattle.hub_spec.specs.Problem.{greatest}
use Rattle.hub_spec.specs.Trees.{Branching}
use Rattle.frac_master.specs.Masters.{MasterNumbers, AreWithinTotals, master_of, candidates_of, at_nodes, greatest_number, most_scaled, halved, halvings}
use Rattle.frac_master.specs.Theorems.{AreHalvings, LeastHalvings}
use Rattle.frac_master.specs.Scaled.{AreSmallAt, AreScaled}
use Rattle.frac_master.proofs.Parts.{all_left, all_right, all_mapped, all_parts}

-- ---- the greatest

fold_max : (a : ℕ) (xs : List ℕ) → (a ≤ fold max a xs) × All (λ x. x ≤ fold max a xs) xs
fold_max a [] = (omega arith, All-nil (λ x. x ≤ a))
fold_max a (x ∷ xs) =
    let rest = fold_max (max a x) xs in
    let low = rest.0 in (
      omega (arith, le-max_left a x),
      All-cons (λ y. y ≤ fold max (max a x) xs) x xs (omega (arith, le-max_right a x)) rest.1,
    )

all_below : (m : MasterNumbers) (b : Branching)
    → All (λ x. x ≤ greatest_number m b) (m.totals ++ (flat_map (at_nodes (candidates_of b)) m.loads ++ at_nodes (candidates_of b) m.fixed))
unfolding greatest_number greatest
all_below m b = (fold_max 0 (m.totals ++ (flat_map (at_nodes (candidates_of b)) m.loads ++ at_nodes (candidates_of b) m.fixed))).1

-- no load of a node of the branch is above it
pub loads_below : (m : MasterNumbers) (b : Branching) → All (λ row. All (λ k. slice_index row k ≤ greatest_number m b) (candidates_of b)) m.loads
loads_below m b =
    let nodes = candidates_of b in
    let of_loads = flat_map (at_nodes nodes) m.loads in
    let of_fixed = at_nodes nodes m.fixed in
    let g = greatest_number m b in
    let low : All (λ x. x ≤ g) of_loads = all_left (λ x. x ≤ g) of_loads of_fixed (all_right (λ x. x ≤ g) m.totals (of_loads ++ of_fixed) (all_below m b)) in
    All-weaker (λ row. All (λ x. x ≤ g) (at_nodes nodes row)) (λ row. All (λ k. slice_index row k ≤ g) nodes)
    (λ row all. all_mapped (λ x. x ≤ g) (slice_index row) nodes all) m.loads (all_parts (λ x. x ≤ g) (at_nodes nodes) m.loads low)

pub greatest_by : (totals fixed : List ℕ) (loads : List (List ℕ)) (b : Branching) (most result : ℕ)
    → most ≡ fold max 0 (totals ++ flat_map (at_nodes (candidates_of b)) loads) → result ≡ fold max most (at_nodes (candidates_of b) fixed)
    → result ≡ greatest_number (master_of totals loads fixed) b
unfolding greatest_number greatest
greatest_by totals fixed loads b most result most_is result_is =
    let of_fixed = at_nodes (candidates_of b) fixed in
    let of_loads = flat_map (at_nodes (candidates_of b)) loads in
    result_is ∙ ap (λ n. fold max n of_fixed) (most_is ∙ fold-append max 0 totals of_loads)
    ∙ sym (fold-append max (fold max 0 totals) of_loads of_fixed) ∙ sym (fold-append max 0 totals (of_loads ++ of_fixed))

-- ---- the greatest where no load is above both its cut's total and a number

fold_within : (a : ℕ) (xs : List ℕ) → All (λ x. x ≤ a) xs → fold max a xs ≡ a
fold_within a [] within = refl
fold_within a (x ∷ xs) within =
    let low = All-head (λ y. y ≤ a) x xs within in
    let same : max a x ≡ a = omega arith in
    ap (λ n. fold max n xs) same ∙ fold_within a xs (All-tail (λ y. y ≤ a) x xs within)

get_within : (a : ℕ) (row : List ℕ) (k : ℕ) → All (λ x. x ≤ a) row → slice_index row k ≤ a
get_within a [] k within = omega arith
get_within a (x ∷ row) zero within = All-head (λ y. y ≤ a) x row within
get_within a (x ∷ row) (suc k) within = get_within a row k (All-tail (λ y. y ≤ a) x row within)

row_within : (a : ℕ) (nodes row : List ℕ) → All (λ x. x ≤ a) row → All (λ x. x ≤ a) (at_nodes nodes row)
row_within a nodes row within =
    All-map (λ x. x ≤ a) (slice_index row) nodes (λ k d l. get_within a row (get_or nodes k d) within)

rows_within : (a c : ℕ) (nodes totals : List ℕ) (loads : List (List ℕ)) → AreWithinTotals c totals loads → c ≤ a → All (λ x. x ≤ a) totals
    → All (λ x. x ≤ a) (flat_map (at_nodes nodes) loads)
rows_within a c nodes [] [] within top low = All-nil (λ x. x ≤ a)
rows_within a c nodes [] (row ∷ loads) within top low = absurd within
rows_within a c nodes (t ∷ totals) [] within top low = absurd within
rows_within a c nodes (t ∷ totals) (row ∷ loads) within top low =
    let total = All-head (λ x. x ≤ a) t totals low in
    All-append (λ x. x ≤ a) (at_nodes nodes row) (flat_map (at_nodes nodes) loads)
    (row_within a nodes row (All-weaker (λ x. x ≤ max t c) (λ x. x ≤ a) (λ x le. omega (arith, le, total, top)) row within.0))
    (rows_within a c nodes totals loads within.1 top (All-tail (λ x. x ≤ a) t totals low))

-- folds of max, with more at the start
fold_from : (a c : ℕ) (xs : List ℕ) → fold max (max a c) xs ≡ max (fold max a xs) c
fold_from a c [] = refl
fold_from a c (x ∷ xs) = let same : max (max a c) x ≡ max (max a x) c = omega arith in ap (λ n. fold max n xs) same ∙ fold_from (max a x) c xs

pub greatest_within : (totals fixed : List ℕ) (loads : List (List ℕ)) (b : Branching) (c most result : ℕ)
    → AreWithinTotals c totals loads → c ≤ greatest_number (master_of totals loads fixed) b
    → most ≡ fold max 0 totals → result ≡ fold max most (at_nodes (candidates_of b) fixed)
    → max result c ≡ greatest_number (master_of totals loads fixed) b
greatest_within totals fixed loads b c most result within reached most_is result_is =
    let of_fixed = at_nodes (candidates_of b) fixed in
    let of_loads = flat_map (at_nodes (candidates_of b)) loads in
    let top = fold max 0 totals in
    let high = max top c in
    let lows : All (λ x. x ≤ high) totals = All-weaker (λ x. x ≤ top) (λ x. x ≤ high) (λ x le. omega (arith, le)) totals (fold_max 0 totals).1 in
    let below = rows_within high c (candidates_of b) totals loads within (omega arith) lows in
    let whole = greatest_by totals fixed loads b (fold max top of_loads) (fold max (fold max top of_loads) of_fixed) (sym (fold-append max 0 totals of_loads)) refl in
    let with_loads : max (fold max top of_loads) c ≡ high = sym (fold_from top c of_loads) ∙ fold_within high of_loads below in
    let same : max result c ≡ max (fold max (fold max top of_loads) of_fixed) c =
    ap (λ n. max n c) (result_is ∙ ap (λ n. fold max n of_fixed) most_is)
    ∙ sym (fold_from top c of_fixed) ∙ ap (λ n. fold max n of_fixed) (sym with_loads) ∙ fold_from (fold max top of_loads) c of_fixed in
    omega (arith, same, whole, reached)

halved_le : (h x y : ℕ) → x ≤ y → halved h x ≤ halved h y
halved_le h x y le =
    let pos = pow_pos h in
    (le-div_iff_mul-le {k = 2 ^ h} {x = x / 2 ^ h} {y = y} pos).1 (omega (arith, (le-div_iff_mul-le {k = 2 ^ h} {x = x / 2 ^ h} {y = x} pos).0 (omega arith)))

small_under : (h g x : ℕ) → halved h g ≤ most_scaled → x ≤ g → halved h x ≤ most_scaled
small_under h g x enough le = omega (arith, halved_le h x g le)

pub scaled_by : (h : ℕ) (m : MasterNumbers) (b : Branching) → halved h (greatest_number m b) ≤ most_scaled → AreScaled h m b
scaled_by h m b enough =
    let nodes = candidates_of b in
    let of_loads = flat_map (at_nodes nodes) m.loads in
    let of_fixed = at_nodes nodes m.fixed in
    let g = greatest_number m b in
    let below : All (λ x. x ≤ g) (m.totals ++ (of_loads ++ of_fixed)) = all_below m b in
    let small = λ (x : ℕ) (le : x ≤ g). small_under h g x enough le in
    let behind : All (λ x. x ≤ g) (of_loads ++ of_fixed) = all_right (λ x. x ≤ g) m.totals (of_loads ++ of_fixed) below in
    let row = λ (row : List ℕ) (all : All (λ x. x ≤ g) (at_nodes nodes row)).
    All-weaker (λ k. slice_index row k ≤ g) (λ k. halved h (slice_index row k) ≤ most_scaled) (λ k le. small (slice_index row k) le) nodes
    (all_mapped (λ x. x ≤ g) (slice_index row) nodes all) in
    record {
      totals = All-weaker (λ x. x ≤ g) (λ x. halved h x ≤ most_scaled) small m.totals (all_left (λ x. x ≤ g) m.totals (of_loads ++ of_fixed) below);
      loads =
          All-weaker (λ row. All (λ x. x ≤ g) (at_nodes nodes row)) (AreSmallAt h nodes) row m.loads
          (all_parts (λ x. x ≤ g) (at_nodes nodes) m.loads (all_left (λ x. x ≤ g) of_loads of_fixed behind));
      fixed = row m.fixed (all_right (λ x. x ≤ g) of_loads of_fixed behind);
    }

-- ---- halvings

lt_pow : (n : ℕ) → n < 2 ^ n
lt_pow zero = omega arith
lt_pow (suc n) = omega (arith, lt_pow n, pow-suc 2 n)

-- there are no more halvings than the number itself
few_halvings : (g h : ℕ) → AreHalvings g h → h ≤ g
few_halvings g zero are = omega arith
few_halvings g (suc e) are =
    let more = are.least e (omega arith) in
    let whole = (le-div_iff_mul-le {k = 2 ^ e} {x = 1} {y = g} (pow_pos e)).0 (omega (arith, more)) in
    omega (arith, whole, lt_pow e)

pub halvings_are : (g h : ℕ) → AreHalvings g h → halvings g ≡ h
unfolding halvings
halvings_are g h are =
    position_or_len_is (λ e. nat_le (halved e g) most_scaled) (range_with_len 0 g) h 0
    (omega (arith, length-range_with_len 0 g, few_halvings g h are))
    (λ k low.
    let within : k < g = omega (arith, few_halvings g h are) in
    let more = are.least k low in
    rw (get_or-range_with_len 0 g k 0 within) (grind (arith, nat_tests)))
    (λ low.
    let within : h < g = omega (arith, length-range_with_len 0 g) in
    let enough = are.enough in
    rw (get_or-range_with_len 0 g h 0 within) (grind (arith, nat_tests)))

-- the number of the list 0, 1, 2 and so on at the place i
range_at : (n i : ℕ) → i < n → get_or (range_with_len 0 n) i 0 ≡ i
range_at n i low = get_or-range_with_len 0 n i 0 low ∙ omega arith

pub least_halvings : LeastHalvings
unfolding halvings
least_halvings g =
    let p = λ (e : ℕ). nat_le (halved e g) most_scaled in
    let h = position_or_len p (range_with_len 0 g) in
    let most : h ≤ g = omega (arith, prefix_len-le-length (λ x. not (p x)) (range_with_len 0 g), length-range_with_len 0 g) in
    record {
      enough =
          ⊎_elim
          (λ (less : h < g).
          let passes = passes_at_first p (range_with_len 0 g) 0 (omega (arith, length-range_with_len 0 g)) in
          leb-true (halved h g) most_scaled (ap p (sym (range_at g h less)) ∙ passes))
          (λ (all : g ≤ h).
          let same : h ≡ g = omega arith in
          let none : halved g g ≡ 0 = div-eq_of_lt (lt_pow g) in
          rw same (omega (arith, none)))
          (cases_lt h g);
      least =
          λ e low.
          let fails = fails_before_first p (range_with_len 0 g) e 0 low in
          let at : p e ≡ false = ap p (sym (range_at g e (omega arith))) ∙ fails in
          grind (arith, nat_tests);
    }
