-- The lines of a cut's duals, origin by origin and run by run.
use Rattle.std.proofs.Common.{◌≡◌, ◌≢◌, ℕ, zero, suc, ◌+◌, ◌-◌, ◌*◌, ◌%◌, ◌<◌, ◌≤◌, Bool, true, not, ◌&&◌, List, [], ◌∷◌, ◌++◌, length, drop, get_or, replicate, map, flat_map, Option, Some, None, ℤ, nat_eq, refl, sym, ap, ap₂, ◌∙◌, subst, length-drop, append_assoc, mul-le-mul_right, eq-eqb, eqb-true, arith}
use Rattle.std.specs.List.{range_with_len}
use Rattle.std.proofs.lemmas.Bool.{eqb-false}
use Rattle.std.proofs.lemmas.List.{get_or_read, drop_more, replicate_more, map-append, take-append-drop, drop-drop, drop_all, length-take-le}
use Rattle.std.proofs.lemmas.List.FromFn.{length-map-range_with_len, get_or-range_with_len}
use Rattle.std.proofs.lemmas.Nat.{mod-mul-add, div-mul-add}
use Rattle.std.proofs.lemmas.Option.{same_Some, none-some}
use Rattle.hub_spec.specs.Problem.{commodities, commodity_at}
use Rattle.hub_spec.specs.Cuts.{Prices}
use Rattle.hub_spec.proofs.SumLemmas.{by_test}
use Rattle.cert_spec.specs.Lines.{says_dual}
use Rattle.cert_spec.specs.Runs.{ends_row, joined, runs, spread, before_at, AreRuns}
use Rattle.hub_model.specs.Prices.{natural_values, signed_values}
use Rattle.cert_spec.specs.Text.{line_bytes, same_prices, is_first, singles, run_items, dual_items}
use Rattle.cert_spec.proofs.RunLaws.{runs_are, spread_runs, runs_spread}
use Rattle.cert_spec.proofs.SamePrices.{prices_told}
use Rattle.cert_spec.proofs.Leads.{length-spread, spread_singles}
use Rattle.cert_format.proofs.Joined.{texts_joined}
use Rattle.hub_model.proofs.ListedValues.{listed_again}
use Rattle.cert_format.specs.DualItems.{runs_from, row_items_from, row_items, dual_row, no_dual, BeginsOther, IsRunAt, row_of, all_dual_items}

-- ---- runs of a list that begins with equal ones

-- the run before does not matter but for being another than the first
before_joined : {X : Type 0} (same : X → X → Bool) (last : Bool) (n t : ℕ) (before : Option X) (y : X) (rs : List (ℕ × X)) → before ≢ Some y
    → AreRuns n t None (joined same last y rs) → AreRuns n t before (joined same last y rs)
before_joined same last n t before y [] other = λ are. (are.0, are.1, other, are.3)
before_joined {X} same last n t before y (r ∷ rest) other =
    by_test (not last && same y r.1)
    (λ e. rw e (λ (are : AreRuns n t None ((r.0 + 1, y) ∷ rest)). (are.0, are.1, other, are.3)))
    (λ e. rw e (λ (are : AreRuns n t None ((1, y) ∷ (r ∷ rest))). (are.0, are.1, other, are.3)))

-- the run at the end of a row is not kept, and else it is another than the next
other_kept : (n t : ℕ) (x y : Prices) → x ≢ y → before_at n t x ≢ Some y
other_kept n t x y other =
    by_test (nat_eq (t % n) 0) (λ e. rw e (λ i. none-some y i)) (λ e. rw e (λ i. other (same_Some x y i)))

runs_after : (n t : ℕ) (x : Prices) (ys : List Prices) → 1 ≤ n → BeginsOther x ys → AreRuns n t (before_at n t x) (runs same_prices n t ys)
runs_after n t x [] some other = tt
runs_after n t x (y ∷ ys) some other =
    before_joined same_prices (ends_row n t) n t (before_at n t x) y (runs same_prices n (t + 1) ys) (other_kept n t x y other)
    (runs_are same_prices n t (y ∷ ys) prices_told some)

run_front : (n t r : ℕ) (x : Prices) (ys : List Prices) → 1 ≤ n → 1 ≤ r → t % n + r ≤ n → BeginsOther x ys
    → runs same_prices n t (replicate r x ++ ys) ≡ (r, x) ∷ runs same_prices n (t + r) ys
run_front n t r x ys some one fits other =
    let rest = runs same_prices n (t + r) ys in
    ap (λ zs. runs same_prices n t (replicate r x ++ zs)) (sym (spread_runs same_prices n (t + r) ys prices_told))
    ∙ runs_spread same_prices n t None ((r, x) ∷ rest) prices_told some (one, fits, (λ e. none-some x e), runs_after n (t + r) x ys some other)

-- one equal dual more
pub one_more_equal : (row : List Prices) (j end : ℕ) → j ≤ end → end < length row → get_or row j no_dual ≡ get_or row end no_dual
    → drop j row ≡ replicate (end - j) (get_or row j no_dual) ++ drop end row
    → drop j row ≡ replicate (end + 1 - j) (get_or row j no_dual) ++ drop (end + 1) row
one_more_equal row j end order below same so_far =
    let x = get_or row j no_dual in
    let rest = drop (end + 1) row in
    let longer : end - j + 1 ≡ end + 1 - j = omega (arith, order) in
    so_far
    ∙ ap (λ (ds : List Prices). replicate (end - j) x ++ ds) (drop_more row end no_dual below ∙ ap (λ (d : Prices). d ∷ rest) (sym same))
    ∙ sym (append_assoc (replicate (end - j) x) (x ∷ []) rest)
    ∙ ap (λ (ds : List Prices). ds ++ rest) (replicate_more (end - j) x ∙ ap (λ (m : ℕ). replicate m x) longer)

-- ---- the next line of a row

run_said : (v n t j run : ℕ) (row : List Prices) → 1 ≤ n → t % n + run ≤ n → IsRunAt v row j run
    → runs_from v n t (drop j row) ≡ (run, get_or row j no_dual) ∷ runs_from v n (t + run) (drop (j + run) row)
run_said v n t j run row some fits is =
    let dual = get_or row j no_dual in
    let left = drop (j + run) row in
    ap (runs_from v n t) is.equal.same
    ∙ by_test (is_first v)
    (λ e. rw e (let one = is.first (eqb-true v 1 e) in
    subst (λ (m : ℕ). singles (replicate m dual ++ left) ≡ (m, dual) ∷ singles left) (sym one) refl))
    (λ e. rw e (run_front n t run dual left some is.equal.some fits (is.later (eqb-false v 1 e))))

pub next_line : (v n i j run : ℕ) (row : List Prices) → length row ≡ n → IsRunAt v row j run
    → row_items_from v n i j (drop j row) ≡ says_dual (i, j) run (get_or row j no_dual) ∷ row_items_from v n i (j + run) (drop (j + run) row)
next_line v n i j run row whole is =
    let below : j < n = omega (arith, is.equal.some, is.equal.within, whole) in
    let column = mod-mul-add i n j below in
    let line = div-mul-add i n j below in
    let place : i * n + j + run ≡ i * n + (j + run) = omega arith in
    ap (run_items n (i * n + j)) (run_said v n (i * n + j) j run row (omega (arith, below)) (omega (arith, column, is.equal.within, whole)) is)
    ∙ ap₂ (λ (a b : ℕ). says_dual (a, b) run (get_or row j no_dual)
    ∷ run_items n (i * n + j + run) (runs_from v n (i * n + j + run) (drop (j + run) row))) line column
    ∙ ap (λ (t : ℕ). says_dual (i, j) run (get_or row j no_dual) ∷ run_items n t (runs_from v n t (drop (j + run) row))) place

-- the text of the next line, by what is put
pub next_text : (v n i j run : ℕ) (row : List Prices) (dual : Prices) {price : ℕ} (values : List (ℕ × ℤ)) → length row ≡ n → IsRunAt v row j run
    → dual ≡ get_or row j dual → price ≡ dual.a → values ≡ signed_values dual.u
    → line_bytes (says_dual (i, j) run (record { a = price; u = natural_values values })) ++ flat_map line_bytes (row_items_from v n i (j + run) (drop (j + run) row))
    ≡ flat_map line_bytes (row_items_from v n i j (drop j row))
next_text v n i j run row dual values whole is read same listed =
    let u : natural_values values ≡ dual.u = ap natural_values listed ∙ listed_again dual.u in
    let at = get_or_read row j dual (omega (arith, is.equal.some, is.equal.within)) read no_dual in
    let later = flat_map line_bytes (row_items_from v n i (j + run) (drop (j + run) row)) in
    (λ t. line_bytes (says_dual (i, j) run (record { a = same t; u = u t })) ++ later)
    ∙ ap (λ (d : Prices). line_bytes (says_dual (i, j) run d) ++ later) at
    ∙ ap (flat_map line_bytes) (sym (next_line v n i j run row whole is))

-- the same where the dual is put as it is
pub next_stated : (v n i j run : ℕ) (row : List Prices) (dual : Prices) → length row ≡ n → IsRunAt v row j run → dual ≡ get_or row j no_dual
    → line_bytes (says_dual (i, j) run dual) ++ flat_map line_bytes (row_items_from v n i (j + run) (drop (j + run) row))
    ≡ flat_map line_bytes (row_items_from v n i j (drop j row))
next_stated v n i j run row dual whole is at =
    ap (λ (d : Prices). line_bytes (says_dual (i, j) run d) ++ flat_map line_bytes (row_items_from v n i (j + run) (drop (j + run) row))) at
    ∙ ap (flat_map line_bytes) (sym (next_line v n i j run row whole is))

pub no_lines : (v n i j : ℕ) (row : List Prices) → length row ≤ j → row_items_from v n i j (drop j row) ≡ []
no_lines v n i j row past =
    ap (row_items_from v n i j) (drop_all j row past) ∙ by_test (is_first v) (λ e. rw e refl) (λ e. rw e refl)

-- ---- row after row

-- at the end of a row nothing is joined
joined_last : {X : Type 0} (same : X → X → Bool) (x : X) (rs : List (ℕ × X)) → joined same true x rs ≡ (1, x) ∷ rs
joined_last same x [] = refl
joined_last same x (r ∷ rest) = refl

-- what is behind the first run does not matter
joined_front : {X : Type 0} (same : X → X → Bool) (last : Bool) (x : X) (r : ℕ × X) (rest more : List (ℕ × X))
    → joined same last x (r ∷ (rest ++ more)) ≡ joined same last x (r ∷ rest) ++ more
joined_front same last x r rest more = by_test (not last && same x r.1) (λ e. rw e refl) (λ e. rw e refl)

joined_behind : {X : Type 0} (same : X → X → Bool) (last other : Bool) (x y : X) (rs more : List (ℕ × X))
    → joined same last x (joined same other y rs ++ more) ≡ joined same last x (joined same other y rs) ++ more
joined_behind same last other x y [] more = joined_front same last x (1, y) [] more
joined_behind same last other x y (r ∷ rest) more =
    by_test (not other && same y r.1)
    (λ e. rw e (joined_front same last x (r.0 + 1, y) rest more))
    (λ e. rw e (joined_front same last x (1, y) (r ∷ rest) more))

-- runs end where a row does
runs_split : {X : Type 0} (same : X → X → Bool) (n t : ℕ) (xs ys : List X) → (t + length xs) % n ≡ 0
    → runs same n t (xs ++ ys) ≡ runs same n t xs ++ runs same n (t + length xs) ys
runs_split same n t [] ys whole = let place : t ≡ t + 0 = omega arith in ap (λ (m : ℕ). runs same n m ys) place
runs_split same n t (x ∷ []) ys whole =
    let last : ends_row n t ≡ true = eq-eqb ((t + 1) % n) 0 whole in
    rw last (joined_last same x (runs same n (t + 1) ys))
runs_split same n t (x ∷ y ∷ xs) ys whole =
    let place : t + 1 + length (y ∷ xs) ≡ t + length (x ∷ y ∷ xs) = omega arith in
    ap (joined same (ends_row n t) x) (runs_split same n (t + 1) (y ∷ xs) ys (ap (λ (m : ℕ). m % n) place ∙ whole))
    ∙ joined_behind same (ends_row n t) (ends_row n (t + 1)) x y (runs same n (t + 1 + 1) xs) (runs same n (t + 1 + length (y ∷ xs)) ys)
    ∙ ap (λ (m : ℕ). runs same n t (x ∷ y ∷ xs) ++ runs same n m ys) place

run_items-append : (n t : ℕ) (rs qs : List (ℕ × Prices)) → run_items n t (rs ++ qs) ≡ run_items n t rs ++ run_items n (t + length (spread rs)) qs
run_items-append n t [] qs = let place : t ≡ t + 0 = omega arith in ap (λ (m : ℕ). run_items n m qs) place
run_items-append n t (r ∷ rs) qs =
    let place : t + r.0 + length (spread rs) ≡ t + length (spread (r ∷ rs)) = omega (arith, length-spread r.0 r.1 rs) in
    ap (λ items. says_dual (commodity_at n t) r.0 r.1 ∷ items)
    (run_items-append n (t + r.0) rs qs ∙ ap (λ (m : ℕ). run_items n (t + r.0) rs ++ run_items n m qs) place)

spread_from : (v n t : ℕ) (duals : List Prices) → spread (runs_from v n t duals) ≡ duals
spread_from v n t duals =
    by_test (is_first v) (λ e. rw e (spread_singles duals)) (λ e. rw e (spread_runs same_prices n t duals prices_told))

runs_from-append : (v n t : ℕ) (xs ys : List Prices) → (t + length xs) % n ≡ 0
    → runs_from v n t (xs ++ ys) ≡ runs_from v n t xs ++ runs_from v n (t + length xs) ys
runs_from-append v n t xs ys whole =
    by_test (is_first v) (λ e. rw e (map-append (λ (d : Prices). (1, d)) xs ys)) (λ e. rw e (runs_split same_prices n t xs ys whole))

rows_split : (v n t : ℕ) (xs ys : List Prices) → (t + length xs) % n ≡ 0
    → run_items n t (runs_from v n t (xs ++ ys)) ≡ run_items n t (runs_from v n t xs) ++ run_items n (t + length xs) (runs_from v n (t + length xs) ys)
rows_split v n t xs ys whole =
    ap (run_items n t) (runs_from-append v n t xs ys whole)
    ∙ run_items-append n t (runs_from v n t xs) (runs_from v n (t + length xs) ys)
    ∙ ap (λ (ds : List Prices). run_items n t (runs_from v n t xs) ++ run_items n (t + length ds) (runs_from v n (t + length xs) ys)) (spread_from v n t xs)

-- the lines of whole rows, of which the first has the number i
rows_joined : (v n : ℕ) (row : ℕ → List Prices) (i m : ℕ) → 1 ≤ n → ((r : ℕ) → r < i + m → length (row r) ≡ n)
    → run_items n (i * n + 0) (runs_from v n (i * n + 0) (flat_map row (range_with_len i m))) ≡ flat_map (λ r. row_items v n r (row r)) (range_with_len i m)
rows_joined v n row i zero some long = by_test (is_first v) (λ e. rw e refl) (λ e. rw e refl)
rows_joined v n row i (suc m) some long =
    let here = long i (omega arith) in
    let place : i * n + 0 + length (row i) ≡ (i + 1) * n + 0 = omega (arith, here) in
    rows_split v n (i * n + 0) (row i) (flat_map row (range_with_len (i + 1) m)) (ap (λ (t : ℕ). t % n) place ∙ mod-mul-add (i + 1) n 0 some)
    ∙ ap (λ (t : ℕ). row_items v n i (row i) ++ run_items n t (runs_from v n t (flat_map row (range_with_len (i + 1) m)))) place
    ∙ ap (λ items. row_items v n i (row i) ++ items) (rows_joined v n row (i + 1) m some (λ r less. long r (omega (arith, less))))

-- ---- all rows of a list

row_within : (n i : ℕ) (duals : List Prices) → i < n → length duals ≡ n * n → length (dual_row n duals i) ≡ n
row_within n i duals less whole =
    let rows = mul-le-mul_right n less in
    length-take-le n (drop (i * n) duals) (omega (arith, rows, whole, length-drop (i * n) duals))

rows_of_list : (n i m : ℕ) (duals : List Prices) → length duals ≡ (i + m) * n → flat_map (dual_row n duals) (range_with_len i m) ≡ drop (i * n) duals
rows_of_list n i zero duals whole = sym (drop_all (i * n) duals (omega (arith, whole)))
rows_of_list n i (suc m) duals whole =
    let next : i * n + n ≡ (i + 1) * n = omega arith in
    ap (λ (ds : List Prices). dual_row n duals i ++ ds) (rows_of_list n (i + 1) m duals (let e : i + suc m ≡ i + 1 + m = omega arith in whole ∙ ap (λ k. k * n) e)
    ∙ ap (λ (k : ℕ). drop k duals) (sym next) ∙ sym (drop-drop n (i * n) duals))
    ∙ take-append-drop n (drop (i * n) duals)

pub dual_items_by_rows : (v n : ℕ) (duals : List Prices) → 1 ≤ n → length duals ≡ n * n
    → flat_map (λ i. row_items v n i (dual_row n duals i)) (range_with_len 0 n) ≡ dual_items v n duals
dual_items_by_rows v n duals some whole =
    let none : 0 * n + 0 ≡ 0 = omega arith in
    let first : 0 * n ≡ 0 = omega arith in
    sym (rows_joined v n (dual_row n duals) 0 n some (λ r less. row_within n r duals (omega (arith, less)) whole))
    ∙ ap (λ (t : ℕ). run_items n t (runs_from v n t (flat_map (dual_row n duals) (range_with_len 0 n)))) none
    ∙ ap (λ (ds : List Prices). run_items n 0 (runs_from v n 0 ds)) (rows_of_list n 0 n duals (let all : (0 + n) * n ≡ n * n = omega arith in whole ∙ sym all) ∙ ap (λ (k : ℕ). drop k duals) first)

-- the text of the duals of the commodities from i
abbrev pub row_bytes : (v n : ℕ) → List Prices → ℕ → List ℕ
row_bytes v n duals i = flat_map line_bytes (row_items v n i (dual_row n duals i))

pub rows_text : (v n : ℕ) (duals : List Prices) → 1 ≤ n → length duals ≡ n * n
    → flat_map (row_bytes v n duals) (range_with_len 0 n) ≡ flat_map line_bytes (dual_items v n duals)
rows_text v n duals some whole =
    texts_joined (λ i. row_items v n i (dual_row n duals i)) (range_with_len 0 n) ∙ ap (flat_map line_bytes) (dual_items_by_rows v n duals some whole)

pub row_text : (v n : ℕ) (duals : List Prices) (i : ℕ) (row : List Prices) → row ≡ dual_row n duals i → i < n
    → flat_map line_bytes (row_items v n i row) ≡ row_bytes v n duals (get_or (range_with_len 0 n) i 0)
row_text v n duals i row is less =
    let at : get_or (range_with_len 0 n) i 0 ≡ i = get_or-range_with_len 0 n i 0 less ∙ omega arith in
    ap (λ ds. flat_map line_bytes (row_items v n i ds)) is
    ∙ ap (row_bytes v n duals) (sym at)

-- ---- duals that a function gives

map_twice : (d : ℕ × ℕ → Prices) (i : ℕ) (js : List ℕ) → map d (map (λ j. (i, j)) js) ≡ map (λ j. d (i, j)) js
map_twice d i [] = refl
map_twice d i (j ∷ js) = ap (λ ds. d (i, j) ∷ ds) (map_twice d i js)

rows_mapped : (d : ℕ × ℕ → Prices) (js is : List ℕ) → map d (flat_map (λ i. map (λ j. (i, j)) js) is) ≡ flat_map (λ i. map (λ j. d (i, j)) js) is
rows_mapped d js [] = refl
rows_mapped d js (i ∷ is) =
    map-append d (map (λ j. (i, j)) js) (flat_map (λ i. map (λ j. (i, j)) js) is)
    ∙ ap₂ (λ (a b : List Prices). a ++ b) (map_twice d i js) (rows_mapped d js is)

-- their lines are those of the cut of these duals
pub all_dual_items-mapped : (v n : ℕ) (d : ℕ × ℕ → Prices) → 1 ≤ n → all_dual_items v n d ≡ dual_items v n (map d (commodities n))
unfolding commodities
all_dual_items-mapped v n d some =
    let none : 0 * n + 0 ≡ 0 = omega arith in
    sym (rows_joined v n (row_of n d) 0 n some (λ i less. length-map-range_with_len (λ j. d (i, j)) 0 n))
    ∙ ap (λ (t : ℕ). run_items n t (runs_from v n t (flat_map (row_of n d) (range_with_len 0 n)))) none
    ∙ ap (λ (ds : List Prices). run_items n 0 (runs_from v n 0 ds)) (sym (rows_mapped d (range_with_len 0 n) (range_with_len 0 n)))
