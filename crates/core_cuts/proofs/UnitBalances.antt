-- What is read of a best table's basic solution is feasible, and balanced by the cover of the objective row.
use Rattle.std.proofs.Common.{◌≡◌, ℕ, zero, suc, ◌+◌, ◌-◌, ◌*◌, ◌<◌, ◌≤◌, List, [], ◌∷◌, ◌++◌, map, length, drop, get_or, sum_by, All, ℤ, pos, ◌+ℤ◌, ◌-ℤ◌, ◌*ℤ◌, ◌≤ℤ◌, ◌⊎◌, inl, inr, refl, sym, ap, ap₂, ◌∙◌, subst, ⊎_elim, arith}
use Rattle.std.specs.List.{range_with_len}
use Rattle.std.proofs.Math.Nat.{le_of_mul-le-mul_left, eq_of_mul-eq-mul_left}
use Rattle.std.proofs.Math.IntN.{*ℤ-zero, *ℤ_comm, pos-*ℤ-pos}
use Rattle.std.proofs.lemmas.Int.{ints}
use Rattle.std.proofs.lemmas.Bool.{cases_eq, cases_lt}
use Rattle.std.proofs.lemmas.List.{length-append, length-map, length-drop, get_or-drop, get_or_default}
use Rattle.std.proofs.lemmas.List.FromFn.{length-map-range_with_len, get_or-map-range_with_len}
use Rattle.std.proofs.lemmas.List.Elements.{All-get_or, All-from_get_or, All-map}
use Rattle.std.proofs.lemmas.List.Sums.{sum_by-cons}
use Rattle.hub_spec.specs.Problem.{Problem}
use Rattle.hub_spec.specs.Plans.{IsHubSet}
use Rattle.hub_spec.specs.Sums.{sum_ints}
use Rattle.frac_rows.specs.Rows.{Table, number, right_side, row_at, objective, IsTable}
use Rattle.frac_rows.specs.Runs.{run}
use Rattle.frac_rows.specs.Starts.{own_numbers, start_row, start}
use Rattle.frac_rows.specs.Stored.{dot}
use Rattle.frac_rows.specs.Theorems.{Solves, IsSolution, IsBasic, IsBasicSolution}
use Rattle.frac_rows.specs.declared.ended.Ended.TheVariants.{Best}
use Rattle.frac_rows.proofs.Integers.{*ℤ-+ℤ, *ℤ--ℤ, *ℤ_assoc}
use Rattle.frac_rows.proofs.Solutions.{positive_size}
use Rattle.frac_rows.proofs.RunLaws.{run_keeps_rights, products_low}
use Rattle.frac_rows.proofs.BasicSolutions.{IsPivotal, some_basic_solution, solved_by, values_low}
use Rattle.frac_rows.proofs.LastSolutions.{pivotal_last, solves_first}
use Rattle.frac_rows.proofs.FirstRows.{length-own_numbers, own_right, dot-own_numbers}
use Rattle.frac_rows.proofs.FirstTables.{first_is_table}
use Rattle.core_cuts.specs.Combined.{IsCombined}
use Rattle.core_cuts.specs.CoreTables.{core_edges, edge_right, through, counts, price_column, value_column, core_columns, core_rights, core_table, ways_of}
use Rattle.core_cuts.specs.RunTheorems.{variable_of, IsReadOf, IsBalancedDual, IsBestCover, IsNarrowCore}
use Rattle.core_cuts.proofs.Combining.{equal_from_times, number_behind, run_combines}
use Rattle.core_cuts.proofs.BestCovers.{columns_long}

-- whether a column is basic in one of the first rows
pub basic_or_not : (basis : List ℕ) (c n : ℕ) → ((i : ℕ) × (i < n) × (get_or basis i 0 ≡ c)) ⊎ ((i : ℕ) → i < n → get_or basis i 0 ≡ c → ⊥)
basic_or_not basis c zero = inr (λ i l e. omega arith)
basic_or_not basis c (suc n) = ⊎_elim
    (λ found. inl (found.0, omega (arith, found.1), found.2))
    (λ none. ⊎_elim (λ same. inl (n, omega arith, same))
    (λ apart. inr (λ i l e. ⊎_elim (λ (less : i < n). none i less e)
    (λ (last : n ≤ i). apart (let at : i ≡ n = omega arith in ap (λ j. get_or basis j 0) (sym at) ∙ e)) (cases_lt i n)))
    (cases_eq (get_or basis n 0) c))
    (basic_or_not basis c n)

-- ---- what is read, times the denominator, is the solution's value times the part

read_values : (p : Problem) (t : Table) (part price : ℕ) (value : ℕ → ℕ) (values : List ℤ) (denom j : ℕ) → IsBasic t
    → IsReadOf p t part price value → IsBasicSolution t values denom → j < length p.candidates + 1 → j + 2 < length (objective t)
    → pos denom *ℤ pos (variable_of p price value j) ≡ pos part *ℤ number values j
read_values p t part price value values denom j basic read solution within before =
    ⊎_elim
    (λ found. (let i = found.0 in
    let c = get_or t.basis i 0 in
    let size = positive_size (number (row_at t i) c) (basic.own i found.1) in
    let x : ℤ = pos (variable_of p price value c) in
    let one : pos size.0 *ℤ x ≡ pos part *ℤ right_side (row_at t i) =
    ap (λ z. z *ℤ x) (sym size.2) ∙ read.basic i found.1 (omega (arith, found.2)) in
    let other : pos size.0 *ℤ number values c ≡ pos denom *ℤ right_side (row_at t i) =
    ap (λ z. z *ℤ number values c) (sym size.2) ∙ solution.basic i found.1 in
    let both : pos size.0 *ℤ (pos denom *ℤ x) ≡ pos size.0 *ℤ (pos part *ℤ number values c) =
    swap (pos size.0) (pos denom) x ∙ ap (λ z. pos denom *ℤ z) one
    ∙ swap (pos denom) (pos part) (right_side (row_at t i))
    ∙ ap (λ z. pos part *ℤ z) (sym other) ∙ swap (pos part) (pos size.0) (number values c) in
    let at_c = equal_from_times size.0 (pos denom *ℤ x) (pos part *ℤ number values c) size.1 both in
    subst (λ (k : ℕ). pos denom *ℤ pos (variable_of p price value k) ≡ pos part *ℤ number values k) found.2 at_c))
    (λ none. ap (λ n. pos denom *ℤ pos n) (read.others j within none) ∙ *ℤ-zero (pos denom)
    ∙ sym (*ℤ-zero (pos part)) ∙ ap (λ z. pos part *ℤ z) (sym (solution.others j before (λ among. none among.0 among.1 (get_or_default t.basis among.0 0 j among.1 ∙ among.2)))))
    (basic_or_not t.basis j (length t.basis))
  where
    swap : (a b d : ℤ) → a *ℤ (b *ℤ d) ≡ b *ℤ (a *ℤ d)
    swap a b d = sym (*ℤ_assoc a b d) ∙ ap (λ z. z *ℤ d) (*ℤ_comm a b) ∙ *ℤ_assoc b a d

-- ---- a first row at the solution

dot_parts : (f : List ℤ → ℤ) (cs : List (List ℤ)) (own values : List ℤ) → length cs ≤ length values
    → dot (map f cs ++ own) values ≡ dot (map f cs) values +ℤ dot own (drop (length cs) values)
dot_parts f [] own values long = omega (arith, ints)
dot_parts f (c ∷ cs) own [] long = absurd (omega arith)
dot_parts f (c ∷ cs) own (y ∷ values) long = omega (arith, ints, dot_parts f cs own values (omega arith))

map_twice : (f : List ℤ → ℤ) (g : ℕ → List ℤ) (ks : List ℕ) → map f (map g ks) ≡ map (λ k. f (g k)) ks
map_twice f g [] = refl
map_twice f g (k ∷ ks) = ap (λ xs. f (g k) ∷ xs) (map_twice f g ks)

right_of_start : (columns : List (List ℤ)) (rights : List ℤ) (i : ℕ) → right_side (start_row columns rights i) ≡ number rights i
unfolding start_row
right_of_start columns rights i =
    let long = length-append (map (λ (column : List ℤ). number column i) columns) (own_numbers rights i) in
    number_behind (λ column. number column i) columns (own_numbers rights i) (length rights + 1)
    (length (map (λ (column : List ℤ). number column i) columns ++ own_numbers rights i) - 1)
    (omega (arith, long, length-map columns (λ (column : List ℤ). number column i), length-own_numbers rights i))
    ∙ own_right rights i (length rights + 1) refl

parts_of : (columns : List (List ℤ)) (rights : List ℤ) (k : ℕ) (values : List ℤ) → length columns ≤ length values
    → dot (start_row columns rights k) values
    ≡ dot (map (λ d. number d k) columns) values +ℤ dot (own_numbers rights k) (drop (length columns) values)
unfolding start_row
parts_of columns rights k values l = dot_parts (λ d. number d k) columns (own_numbers rights k) values l

-- the row i of the core table at a solution: the price and the values, and the slack or v
row_at_solution : (p : Problem) (hubs : List ℕ) (c : ℕ × ℕ) (y : ℤ) (vs : List ℤ) (denom i : ℕ)
    → IsSolution (core_table p hubs c) (y ∷ vs) denom → length vs ≡ length p.candidates + (length (core_edges p c) + 1) → i < length (core_edges p c) + 1
    → number (price_column (core_edges p c) (length p.candidates)) i *ℤ y
    +ℤ dot (map (λ k. number (value_column (core_edges p c) hubs (length p.candidates) k) i) p.candidates) vs
    +ℤ number vs (length p.candidates + i)
    ≡ pos denom *ℤ number (core_rights p c) i
unfolding core_table start
row_at_solution p hubs c y vs denom i solution long within =
    let columns = core_columns p hubs c in
    let rights = core_rights p c in
    let edges = core_edges p c in
    let turns = length p.candidates in
    let column = value_column edges hubs turns in
    let rights_long : length rights ≡ length edges = length-map edges (λ e. pos (edge_right p c e)) in
    let rows_long = length-map-range_with_len (start_row columns rights) 0 (length rights + 1) in
    let solves = All-get_or (Solves (y ∷ vs) denom) (map (start_row columns rights) (range_with_len 0 (length rights + 1))) i []
    (omega (arith, rows_long, rights_long, within)) solution.solves in
    let row_is : get_or (map (start_row columns rights) (range_with_len 0 (length rights + 1))) i [] ≡ start_row columns rights i =
    get_or-map-range_with_len (start_row columns rights) 0 (length rights + 1) i i [] (omega (arith, rights_long, within)) (omega arith) in
    let here : Solves (y ∷ vs) denom (start_row columns rights i) = subst (Solves (y ∷ vs) denom) row_is solves in
    let variables : length columns ≡ turns + 1 = omega (arith, length-map p.candidates column) in
    let behind = drop turns vs in
    let behind_long : length behind ≡ length rights + 1 = omega (arith, length-drop turns vs, long, rights_long) in
    let parts = parts_of columns rights i (y ∷ vs) (omega (arith, variables, long)) in
    let behind_is : drop (length columns) (y ∷ vs) ≡ behind = ap (λ n. drop n vs) (length-map p.candidates column) in
    let own : dot (own_numbers rights i) (drop (length columns) (y ∷ vs)) ≡ number vs (turns + i) =
    ap (dot (own_numbers rights i)) behind_is ∙ dot-own_numbers rights i behind behind_long ∙ get_or-drop turns vs i (pos 0) in
    let front : dot (map (λ d. number d i) columns) (y ∷ vs)
    ≡ number (price_column edges turns) i *ℤ y +ℤ dot (map (λ k. number (column k) i) p.candidates) vs =
    ap (λ xs. number (price_column edges turns) i *ℤ y +ℤ dot xs vs) (map_twice (λ d. number d i) column p.candidates) in
    let right = ap (λ z. pos denom *ℤ z) (right_of_start columns rights i) in
    omega (arith, ints, here, parts, own, front, right)

-- ---- its variables, times the part

dot_read : (h : ℕ → ℤ) (value : ℕ → ℕ) (denom part : ℕ) (ks : List ℕ) (vs : List ℤ) → length ks ≤ length vs
    → ((x : ℕ) → x < length ks → pos denom *ℤ pos (value (get_or ks x 0)) ≡ pos part *ℤ number vs x)
    → pos part *ℤ dot (map h ks) vs ≡ pos denom *ℤ sum_ints (λ k. h k *ℤ pos (value k)) ks
dot_read h value denom part [] vs long read = *ℤ-zero (pos part) ∙ sym (*ℤ-zero (pos denom))
dot_read h value denom part (k ∷ ks) [] long read = absurd (omega arith)
dot_read h value denom part (k ∷ ks) (v ∷ vs) long read =
    let rest = dot_read h value denom part ks vs (omega arith) (λ x l. read (suc x) (omega arith)) in
    let here : pos part *ℤ (h k *ℤ v) ≡ pos denom *ℤ (h k *ℤ pos (value k)) =
    swap (pos part) (h k) v ∙ ap (λ z. h k *ℤ z) (sym (read 0 (omega arith))) ∙ swap (h k) (pos denom) (pos (value k)) in
    *ℤ-+ℤ (pos part) (h k *ℤ v) (dot (map h ks) vs) ∙ ap₂ ◌+ℤ◌ here rest
    ∙ sym (*ℤ-+ℤ (pos denom) (h k *ℤ pos (value k)) (sum_ints (λ m. h m *ℤ pos (value m)) ks))
  where
    swap : (a b d : ℤ) → a *ℤ (b *ℤ d) ≡ b *ℤ (a *ℤ d)
    swap a b d = sym (*ℤ_assoc a b d) ∙ ap (λ z. z *ℤ d) (*ℤ_comm a b) ∙ *ℤ_assoc b a d

sum_taken : (h : ℕ → ℤ) (n value : ℕ → ℕ) (ks : List ℕ) → ((k : ℕ) → h k ≡ pos 0 -ℤ pos (n k))
    → sum_ints (λ k. h k *ℤ pos (value k)) ks ≡ pos 0 -ℤ pos (sum_by (λ k. n k * value k) ks)
sum_taken h n value [] is = refl
sum_taken h n value (k ∷ ks) is =
    let rest = sum_taken h n value ks is in
    let here : h k *ℤ pos (value k) ≡ pos 0 -ℤ pos (n k * value k) =
    ap (λ z. z *ℤ pos (value k)) (is k) ∙ *ℤ_comm (pos 0 -ℤ pos (n k)) (pos (value k))
    ∙ omega (arith, ints, *ℤ--ℤ (pos (value k)) (pos 0) (pos (n k)), *ℤ-zero (pos (value k)), *ℤ_comm (pos (value k)) (pos (n k)), pos-*ℤ-pos (n k) (value k)) in
    let whole = ap pos (sum_by-cons (λ (m : ℕ). n m * value m) k ks) in
    omega (arith, ints, rest, here, whole)

sum_added : (h : ℕ → ℤ) (n value : ℕ → ℕ) (ks : List ℕ) → ((k : ℕ) → h k ≡ pos (n k))
    → sum_ints (λ k. h k *ℤ pos (value k)) ks ≡ pos (sum_by (λ k. n k * value k) ks)
sum_added h n value [] is = refl
sum_added h n value (k ∷ ks) is =
    let rest = sum_added h n value ks is in
    let here : h k *ℤ pos (value k) ≡ pos (n k * value k) = ap (λ z. z *ℤ pos (value k)) (is k) ∙ pos-*ℤ-pos (n k) (value k) in
    let whole = ap pos (sum_by-cons (λ (m : ℕ). n m * value m) k ks) in
    omega (arith, ints, rest, here, whole)

-- ---- one row in natural numbers

one_times : (y : ℤ) → pos 1 *ℤ y ≡ y
one_times y = omega (arith, ints)

less_times : (a n : ℕ) → pos a *ℤ (pos 0 -ℤ pos n) ≡ pos 0 -ℤ pos (a * n)
less_times a n = omega (arith, ints, *ℤ--ℤ (pos a) (pos 0) (pos n), *ℤ-zero (pos a), pos-*ℤ-pos a n)

feasible_step : (part denom price sum right : ℕ) (y d s : ℤ) → 1 ≤ denom → pos 1 *ℤ y +ℤ d +ℤ s ≡ pos denom *ℤ pos right
    → pos denom *ℤ pos price ≡ pos part *ℤ y → pos part *ℤ d ≡ pos denom *ℤ (pos 0 -ℤ pos sum) → pos 0 ≤ℤ s
    → price ≤ part * right + sum
feasible_step part denom price sum right y d s some row read sums low =
    let whole = ap (λ z. pos part *ℤ z) row in
    let x1 = *ℤ-+ℤ (pos part) (pos 1 *ℤ y +ℤ d) s in
    let x2 = *ℤ-+ℤ (pos part) (pos 1 *ℤ y) d in
    let x3 = ap (λ z. pos part *ℤ z) (one_times y) in
    let x4 : pos part *ℤ (pos denom *ℤ pos right) ≡ pos (part * (denom * right)) =
    ap (λ z. pos part *ℤ z) (pos-*ℤ-pos denom right) ∙ pos-*ℤ-pos part (denom * right) in
    let x5 = less_times denom sum in
    let x6 = pos-*ℤ-pos denom price in
    let x7 = products_low (pos part) s (omega (arith, ints)) low in
    let le : denom * price ≤ part * (denom * right) + denom * sum = omega (arith, ints, whole, x1, x2, x3, x4, x5, x6, x7, read, sums) in
    le_of_mul-le-mul_left {k = denom} (omega (arith, le)) some

balanced_step : (part denom price sum n scale cost : ℕ) (y d v : ℤ) → 1 ≤ denom
    → (pos 0 -ℤ pos n) *ℤ y +ℤ d +ℤ v ≡ pos denom *ℤ pos 0
    → pos denom *ℤ pos price ≡ pos part *ℤ y → pos part *ℤ d ≡ pos denom *ℤ pos sum → pos scale *ℤ v ≡ pos denom *ℤ pos cost
    → scale * (n * price) ≡ scale * sum + part * cost
balanced_step part denom price sum n scale cost y d v some row read sums of_v =
    let m = pos 0 -ℤ pos n in
    let whole = ap (λ z. pos part *ℤ z) row in
    let x1 = *ℤ-+ℤ (pos part) (m *ℤ y +ℤ d) v in
    let x2 = *ℤ-+ℤ (pos part) (m *ℤ y) d in
    let x3 : pos part *ℤ (m *ℤ y) ≡ pos 0 -ℤ pos (denom * price * n) =
    swap (pos part) m y ∙ ap (λ z. m *ℤ z) (sym read ∙ pos-*ℤ-pos denom price) ∙ *ℤ_comm m (pos (denom * price)) ∙ less_times (denom * price) n in
    let x4 : pos part *ℤ (pos denom *ℤ pos 0) ≡ pos 0 = ap (λ z. pos part *ℤ z) (*ℤ-zero (pos denom)) ∙ *ℤ-zero (pos part) in
    let x5 = pos-*ℤ-pos denom sum in
    let pv : pos part *ℤ v ≡ pos (denom * price * n) -ℤ pos (denom * sum) = omega (arith, ints, whole, x1, x2, x3, x4, x5, sums) in
    let y1 : pos scale *ℤ (pos part *ℤ v) ≡ pos (part * (denom * cost)) =
    swap (pos scale) (pos part) v ∙ ap (λ z. pos part *ℤ z) (of_v ∙ pos-*ℤ-pos denom cost) ∙ pos-*ℤ-pos part (denom * cost) in
    let y2 : pos scale *ℤ (pos part *ℤ v) ≡ pos (scale * (denom * price * n)) -ℤ pos (scale * (denom * sum)) =
    ap (λ z. pos scale *ℤ z) pv ∙ *ℤ--ℤ (pos scale) (pos (denom * price * n)) (pos (denom * sum))
    ∙ ap₂ ◌-ℤ◌ (pos-*ℤ-pos scale (denom * price * n)) (pos-*ℤ-pos scale (denom * sum)) in
    let le : scale * (denom * price * n) ≡ part * (denom * cost) + scale * (denom * sum) = omega (arith, ints, y1, y2) in
    eq_of_mul-eq-mul_left denom some (scale * (n * price)) (scale * sum + part * cost) (omega (arith, le))
  where
    swap : (a b e : ℤ) → a *ℤ (b *ℤ e) ≡ b *ℤ (a *ℤ e)
    swap a b e = sym (*ℤ_assoc a b e) ∙ ap (λ z. z *ℤ e) (*ℤ_comm a b) ∙ *ℤ_assoc b a e

-- ---- the numbers of the columns

pub number_of_map : (f : ℕ × ℕ → ℤ) (edges : List (ℕ × ℕ)) (ys : List ℤ) (i : ℕ) → i < length edges → number (map f edges ++ ys) i ≡ f (get_or edges i (0, 0))
number_of_map f [] ys i l = absurd (omega arith)
number_of_map f (e ∷ edges) ys zero l = refl
number_of_map f (e ∷ edges) ys (suc i) l = number_of_map f edges ys i (omega arith)

pub number_after : (f : ℕ × ℕ → ℤ) (edges : List (ℕ × ℕ)) (y : ℤ) (i : ℕ) → i ≡ length edges → number (map f edges ++ y ∷ []) i ≡ y
number_after f [] y i e = ap (number (y ∷ [])) e
number_after f (x ∷ edges) y zero e = absurd (omega arith)
number_after f (x ∷ edges) y (suc i) e = number_after f edges y i (omega arith)

number_right : (f : ℕ × ℕ → ℤ) (edges : List (ℕ × ℕ)) (i : ℕ) → i < length edges → number (map f edges) i ≡ f (get_or edges i (0, 0))
number_right f [] i l = absurd (omega arith)
number_right f (e ∷ edges) zero l = refl
number_right f (e ∷ edges) (suc i) l = number_right f edges i (omega arith)

number_past : (f : ℕ × ℕ → ℤ) (edges : List (ℕ × ℕ)) (i : ℕ) → i ≡ length edges → number (map f edges) i ≡ pos 0
number_past f [] i e = refl
number_past f (x ∷ edges) zero e = absurd (omega arith)
number_past f (x ∷ edges) (suc i) e = number_past f edges i (omega arith)

-- ---- all rows

-- a solution of the core table whose price and values are read
record IsReadSolution (p : Problem) (hubs : List ℕ) (c : ℕ × ℕ) (part price : ℕ) (value : ℕ → ℕ) (y : ℤ) (vs : List ℤ) (denom : ℕ) : Type 0 where
  some : 1 ≤ denom
  solution : IsSolution (core_table p hubs c) (y ∷ vs) denom
  long : length vs ≡ length p.candidates + (length (core_edges p c) + 1)
  low : (i : ℕ) → i < length (core_edges p c) → pos 0 ≤ℤ number vs (length p.candidates + i)
  price_read : pos denom *ℤ pos price ≡ pos part *ℤ y
  values_read : (x : ℕ) → x < length p.candidates → pos denom *ℤ pos (value (get_or p.candidates x 0)) ≡ pos part *ℤ number vs x

feasible_at : (p : Problem) (hubs : List ℕ) (c : ℕ × ℕ) (part price : ℕ) (value : ℕ → ℕ) (y : ℤ) (vs : List ℤ) (denom i : ℕ)
    → IsReadSolution p hubs c part price value y vs denom → i < length (core_edges p c)
    → price ≤ part * edge_right p c (get_or (core_edges p c) i (0, 0)) + sum_by (λ k. through (get_or (core_edges p c) i (0, 0)) k * value k) p.candidates
feasible_at p hubs c part price value y vs denom i read within =
    let edges = core_edges p c in
    let turns = length p.candidates in
    let e = get_or edges i (0, 0) in
    let h = λ (k : ℕ). number (value_column edges hubs turns k) i in
    let row = row_at_solution p hubs c y vs denom i read.solution read.long (omega (arith, within)) in
    let price_is : number (price_column edges turns) i ≡ pos 1 = number_of_map (λ x. pos 1) edges ((pos 0 -ℤ pos (2 + 2 * turns)) ∷ []) i within in
    let right_is : number (core_rights p c) i ≡ pos (edge_right p c e) = number_right (λ x. pos (edge_right p c x)) edges i within in
    let h_is : (k : ℕ) → h k ≡ pos 0 -ℤ pos (through e k) = λ k. number_of_map (λ x. pos 0 -ℤ pos (through x k)) edges (pos (counts hubs turns k) ∷ []) i within in
    let sums = dot_read h value denom part p.candidates vs (omega (arith, read.long)) read.values_read
    ∙ ap (λ z. pos denom *ℤ z) (sum_taken h (through e) value p.candidates h_is) in
    feasible_step part denom price (sum_by (λ k. through e k * value k) p.candidates) (edge_right p c e) y (dot (map h p.candidates) vs)
    (number vs (turns + i)) read.some
    (ap (λ z. z *ℤ y +ℤ dot (map h p.candidates) vs +ℤ number vs (turns + i)) (sym price_is) ∙ row ∙ ap (λ z. pos denom *ℤ z) right_is)
    read.price_read sums (read.low i within)

balanced_at : (p : Problem) (hubs : List ℕ) (c : ℕ × ℕ) (part price : ℕ) (value : ℕ → ℕ) (y : ℤ) (vs : List ℤ) (denom scale cost : ℕ)
    → IsReadSolution p hubs c part price value y vs denom
    → pos scale *ℤ number vs (length p.candidates + length (core_edges p c)) ≡ pos denom *ℤ pos cost
    → scale * ((2 + 2 * length p.candidates) * price) ≡ scale * sum_by (λ k. counts hubs (length p.candidates) k * value k) p.candidates + part * cost
balanced_at p hubs c part price value y vs denom scale cost read of_v =
    let edges = core_edges p c in
    let turns = length p.candidates in
    let i = length edges in
    let h = λ (k : ℕ). number (value_column edges hubs turns k) i in
    let row = row_at_solution p hubs c y vs denom i read.solution read.long (omega arith) in
    let price_is : number (price_column edges turns) i ≡ pos 0 -ℤ pos (2 + 2 * turns) = number_after (λ x. pos 1) edges (pos 0 -ℤ pos (2 + 2 * turns)) i refl in
    let right_is : number (core_rights p c) i ≡ pos 0 = number_past (λ x. pos (edge_right p c x)) edges i refl in
    let h_is : (k : ℕ) → h k ≡ pos (counts hubs turns k) = λ k. number_after (λ x. pos 0 -ℤ pos (through x k)) edges (pos (counts hubs turns k)) i refl in
    let sums = dot_read h value denom part p.candidates vs (omega (arith, read.long)) read.values_read
    ∙ ap (λ z. pos denom *ℤ z) (sum_added h (counts hubs turns) value p.candidates h_is) in
    balanced_step part denom price (sum_by (λ k. counts hubs turns k * value k) p.candidates) (2 + 2 * turns) scale cost y (dot (map h p.candidates) vs)
    (number vs (turns + i)) read.some
    (ap (λ z. z *ℤ y +ℤ dot (map h p.candidates) vs +ℤ number vs (turns + i)) (sym price_is) ∙ row ∙ ap (λ z. pos denom *ℤ z) right_is)
    read.price_read sums of_v

-- ---- the end of the run

by_solution : (p : Problem) (hubs : List ℕ) (c : ℕ × ℕ) (part price scale cost denom : ℕ) (value : ℕ → ℕ) (u : Table) (values : List ℤ)
    → IsTable u → IsBasic u → length (objective u) ≡ length p.candidates + 1 + (length (core_edges p c) + 2)
    → IsReadOf p u part price value → IsBasicSolution u values denom → IsSolution (core_table p hubs c) values denom → 1 ≤ denom
    → All (λ x. pos 0 ≤ℤ x) values
    → number (objective u) (length (objective u) - 2) ≡ pos scale → right_side (objective u) ≡ pos cost
    → All (λ e. price ≤ part * edge_right p c e + sum_by (λ k. through e k * value k) p.candidates) (core_edges p c)
    × (scale * ((2 + 2 * length p.candidates) * price)
    ≡ scale * sum_by (λ k. counts hubs (length p.candidates) k * value k) p.candidates + part * cost)
by_solution p hubs c part price scale cost denom value u [] table basic width read_of at_end solution some low scale_is right_is =
    absurd (omega (arith, at_end.one_each, width))
by_solution p hubs c part price scale cost denom value u (y ∷ vs) table basic width read_of at_end solution some low scale_is right_is =
    let edges = core_edges p c in
    let turns = length p.candidates in
    let long : length vs ≡ turns + (length edges + 1) = omega (arith, at_end.one_each, width) in
    let read : IsReadSolution p hubs c part price value y vs denom = record {
      some = some;
      solution = solution;
      long = long;
      low = λ i l. All-get_or (λ x. pos 0 ≤ℤ x) (y ∷ vs) (suc (turns + i)) (pos 0) (omega (arith, at_end.one_each, width, l)) low;
      price_read = read_values p u part price value (y ∷ vs) denom 0 basic read_of at_end (omega arith) (omega (arith, width));
      values_read = λ x l. read_values p u part price value (y ∷ vs) denom (suc x) basic read_of at_end (omega arith) (omega (arith, width, l));
    } in
    let last : length (objective u) - 2 ≡ suc (turns + length edges) = omega (arith, width) in
    let of_v : pos scale *ℤ number vs (turns + length edges) ≡ pos denom *ℤ pos cost =
    ap₂ ◌*ℤ◌ (sym scale_is) (ap (number (y ∷ vs)) (sym last)) ∙ at_end.worth ∙ ap (λ z. pos denom *ℤ z) right_is in (
      All-from_get_or (λ e. price ≤ part * edge_right p c e + sum_by (λ k. through e k * value k) p.candidates) edges (0, 0)
          (λ i l. feasible_at p hubs c part price value y vs denom i read l),
      balanced_at p hubs c part price value y vs denom scale cost read of_v,
    )

rights_low : (p : Problem) (c : ℕ × ℕ) (edges : List (ℕ × ℕ)) → All (λ x. pos 0 ≤ℤ x) (map (λ e. pos (edge_right p c e)) edges)
rights_low p c edges = All-map (λ x. pos 0 ≤ℤ x) (λ e. pos (edge_right p c e)) edges (λ k d l. omega (arith, ints))

pub best_is_balanced : (p : Problem) (hubs : List ℕ) (c : ℕ × ℕ) (part price scale : ℕ) (value : ℕ → ℕ) → IsHubSet p hubs → IsNarrowCore p hubs c
    → (run (core_table p hubs c)).ended ≡ Best → IsReadOf p (run (core_table p hubs c)).table part price value
    → IsBestCover p hubs c (objective (run (core_table p hubs c)).table) scale
    → IsBalancedDual p hubs c part price value scale (ways_of (core_edges p c) (drop (length p.candidates + 1) (objective (run (core_table p hubs c)).table)))
unfolding core_table
best_is_balanced p hubs c part price scale value set narrow best read cover =
    let columns = core_columns p hubs c in
    let rights = core_rights p c in
    let t = start columns rights in
    let u = (run t).table in
    let first = first_is_table columns rights narrow.columns narrow.rights in
    let start_is : IsPivotal t = record { table = first.table; basic = first.basic; of_objective = first.of_objective } in
    let end = pivotal_last t start_is in
    let rights_stay = run_keeps_rights t first.table (first.rights_low (rights_low p c (core_edges p c))) in
    let has = some_basic_solution u end.table end.basic end.of_objective in
    let low = values_low u has.0 has.1 end rights_stay has.2 in
    let combined = All-get_or (IsCombined columns rights) u.rows (length u.basis) [] (omega (arith, end.table.one_objective))
    (run_combines columns rights narrow.columns narrow.rights (columns_long p hubs c)) in
    let width : length (objective u) ≡ length p.candidates + 1 + (length (core_edges p c) + 2) =
    omega (
      arith,
      combined.long,
      length-map p.candidates (value_column (core_edges p c) hubs (length p.candidates)),
      length-map (core_edges p c) (λ (e : ℕ × ℕ). pos (edge_right p c e)),
    ) in
    let both = by_solution p hubs c part price scale _ has.1 value u has.0 end.table end.basic width read has.2
    (solves_first t has.0 has.1 first.table (solved_by u has.0 has.1 end has.2)) has.2.above low cover.scale_is cover.right_is in
    record { feasible = both.0; balanced = both.1 }
