-- The rows of the core problem as they are laid out one after the other are its columns.
use Rattle.std.proofs.Common.{◌≡◌, ℕ, zero, suc, ◌+◌, ◌*◌, ◌<◌, ◌≤◌, List, [], ◌∷◌, ◌++◌, length, map, flat_map, get_or, take, drop, ℤ, pos, ◌-ℤ◌, unsigned_abs, Bool, true, false, cond, nat_eq, ◌||◌, ⊎_elim, sym, ap, ap₂, ◌∙◌, arith}
use Rattle.std.proofs.Math.Seq.{drop-append-add, take-append_seam}
use Rattle.std.proofs.lemmas.Bool.{cases_lt}
use Rattle.std.proofs.lemmas.List.{append_assoc, length-append, length-map, get_or-map, take_all}
use Rattle.std.proofs.lemmas.List.FromFn.{fill_by_all}
use Rattle.std.proofs.lemmas.Int.{ints}
use Rattle.std.proofs.lemmas.List.Elements.{All-nil, All-cons, All-append, All-map}
use Rattle.hub_spec.proofs.Sets.{is_in}
use Rattle.frac_rows.specs.Rows.{widest, number, AreNarrow}
use Rattle.frac_rows.specs.Stored.{piece, standing, columns_of}
use Rattle.core_cuts.specs.CoreTables.{through, counts, price_column, value_column}
use Rattle.core_cuts.proofs.UnitBalances.{number_of_map, number_after}
use Rattle.core_cuts.specs.Bodies.{way_row, objective_row}

-- the rows of these ways, and the objective row
abbrev pub laid : List ℕ → List ℕ → List (ℕ × ℕ) → List ℤ
laid candidates hubs edges = flat_map (way_row candidates) edges ++ objective_row candidates hubs

length-way_row : (candidates : List ℕ) (e : ℕ × ℕ) → length (way_row candidates e) ≡ length candidates + 1
length-way_row candidates e = omega (arith, length-map candidates (λ k. pos 0 -ℤ pos (through e k)))

length-objective_row : (candidates hubs : List ℕ) → length (objective_row candidates hubs) ≡ length candidates + 1
length-objective_row candidates hubs = omega (arith, length-map candidates (λ k. pos (counts hubs (length candidates) k)))

-- ---- rows that stand one after the other

front : (w : ℕ) (xs ys : List ℤ) → length xs ≡ w → take w (xs ++ ys) ≡ xs
front w xs ys long = ap (λ n. take n (xs ++ ys)) (sym long) ∙ take-append_seam xs ys

behind : (w n : ℕ) (xs ys : List ℤ) → length xs ≡ w → drop (w + n) (xs ++ ys) ≡ drop n ys
behind w n xs ys long = ap (λ m. drop (m + n) (xs ++ ys)) (sym long) ∙ drop-append-add xs ys n

piece_way : (candidates : List ℕ) (edges : List (ℕ × ℕ)) (last : List ℤ) (i : ℕ) → i < length edges
    → piece (length candidates + 1) (flat_map (way_row candidates) edges ++ last) i ≡ way_row candidates (get_or edges i (0, 0))
piece_way candidates [] last i within = absurd (omega arith)
piece_way candidates (e ∷ edges) last zero within =
    let w = length candidates + 1 in
    ap (λ n. take w (drop n (flat_map (way_row candidates) (e ∷ edges) ++ last))) (none w)
    ∙ ap (take w) (append_assoc (way_row candidates e) (flat_map (way_row candidates) edges) last)
    ∙ front w (way_row candidates e) (flat_map (way_row candidates) edges ++ last) (length-way_row candidates e)
  where
    none : (w : ℕ) → 0 * w ≡ 0
    none w = omega arith
piece_way candidates (e ∷ edges) last (suc i) within =
    let w = length candidates + 1 in
    ap₂ (λ n xs. take w (drop n xs)) (next i w) (append_assoc (way_row candidates e) (flat_map (way_row candidates) edges) last)
    ∙ ap (take w) (behind w (i * w) (way_row candidates e) (flat_map (way_row candidates) edges ++ last) (length-way_row candidates e))
    ∙ piece_way candidates edges last i (omega arith)
  where
    next : (n w : ℕ) → suc n * w ≡ w + n * w
    next n w = omega arith

piece_last : (candidates : List ℕ) (edges : List (ℕ × ℕ)) (last : List ℤ) (i : ℕ) → i ≡ length edges → length last ≡ length candidates + 1
    → piece (length candidates + 1) (flat_map (way_row candidates) edges ++ last) i ≡ last
piece_last candidates [] last i at long =
    let w = length candidates + 1 in
    ap (λ n. take w (drop n last)) (none i w at) ∙ take_all w last (omega (arith, long))
  where
    none : (n w : ℕ) → n ≡ 0 → n * w ≡ 0
    none n w e = rw e (omega arith)
piece_last candidates (e ∷ edges) last zero at long = absurd (omega arith)
piece_last candidates (e ∷ edges) last (suc i) at long =
    let w = length candidates + 1 in
    ap₂ (λ n xs. take w (drop n xs)) (next i w) (append_assoc (way_row candidates e) (flat_map (way_row candidates) edges) last)
    ∙ ap (take w) (behind w (i * w) (way_row candidates e) (flat_map (way_row candidates) edges ++ last) (length-way_row candidates e))
    ∙ piece_last candidates edges last i (omega arith) long
  where
    next : (n w : ℕ) → suc n * w ≡ w + n * w
    next n w = omega arith

-- ---- their numbers are those of the columns

abbrev pub laid_columns : List ℕ → List ℕ → List (ℕ × ℕ) → List (List ℤ)
laid_columns candidates hubs edges = price_column edges (length candidates) ∷ map (value_column edges hubs (length candidates)) candidates

way_number : (candidates hubs : List ℕ) (edges : List (ℕ × ℕ)) (i j : ℕ) → i < length edges → j < length candidates + 1
    → number (way_row candidates (get_or edges i (0, 0))) j ≡ number (get_or (laid_columns candidates hubs edges) j []) i
way_number candidates hubs edges i zero row column = sym (number_of_map (λ e. pos 1) edges ((pos 0 -ℤ pos (2 + 2 * length candidates)) ∷ []) i row)
way_number candidates hubs edges i (suc x) row column =
    let q = length candidates in
    let k = get_or candidates x 0 in
    get_or-map (λ m. pos 0 -ℤ pos (through (get_or edges i (0, 0)) m)) candidates x 0 (pos 0) (omega arith)
    ∙ sym (number_of_map (λ e. pos 0 -ℤ pos (through e k)) edges (pos (counts hubs q k) ∷ []) i row)
    ∙ ap (λ ys. number ys i) (sym (get_or-map (value_column edges hubs q) candidates x 0 [] (omega arith)))

last_number : (candidates hubs : List ℕ) (edges : List (ℕ × ℕ)) (i j : ℕ) → i ≡ length edges → j < length candidates + 1
    → number (objective_row candidates hubs) j ≡ number (get_or (laid_columns candidates hubs edges) j []) i
last_number candidates hubs edges i zero row column = sym (number_after (λ e. pos 1) edges (pos 0 -ℤ pos (2 + 2 * length candidates)) i row)
last_number candidates hubs edges i (suc x) row column =
    let q = length candidates in
    let k = get_or candidates x 0 in
    get_or-map (λ m. pos (counts hubs q m)) candidates x 0 (pos 0) (omega arith)
    ∙ sym (number_after (λ e. pos 0 -ℤ pos (through e k)) edges (pos (counts hubs q k)) i row)
    ∙ ap (λ ys. number ys i) (sym (get_or-map (value_column edges hubs q) candidates x 0 [] (omega arith)))

laid_number : (candidates hubs : List ℕ) (edges : List (ℕ × ℕ)) (i j : ℕ) → i < length edges + 1 → j < length candidates + 1
    → number (piece (length candidates + 1) (laid candidates hubs edges) i) j ≡ number (get_or (laid_columns candidates hubs edges) j []) i
laid_number candidates hubs edges i j row column =
    ⊎_elim
    (λ (less : i < length edges). ap (λ ys. number ys j) (piece_way candidates edges (objective_row candidates hubs) i less)
    ∙ way_number candidates hubs edges i j less column)
    (λ (last : length edges ≤ i). (let at : i ≡ length edges = omega (arith, row, last) in
    ap (λ ys. number ys j) (piece_last candidates edges (objective_row candidates hubs) i at (length-objective_row candidates hubs))
    ∙ last_number candidates hubs edges i j at column))
    (cases_lt i (length edges))

column_long : (candidates hubs : List ℕ) (edges : List (ℕ × ℕ)) (j : ℕ) → j < length candidates + 1
    → length (get_or (laid_columns candidates hubs edges) j []) ≡ length edges + 1
column_long candidates hubs edges zero within =
    omega (arith, length-append (map (λ e. pos 1) edges) ((pos 0 -ℤ pos (2 + 2 * length candidates)) ∷ []), length-map edges (λ (e : ℕ × ℕ). pos 1))
column_long candidates hubs edges (suc x) within =
    let q = length candidates in
    let k = get_or candidates x 0 in
    let is : get_or (map (value_column edges hubs q) candidates) x [] ≡ value_column edges hubs q k = get_or-map (value_column edges hubs q) candidates x 0 [] (omega arith) in
    ap length is
    ∙ omega (
      arith,
      length-append (map (λ e. pos 0 -ℤ pos (through e k)) edges) (pos (counts hubs q k) ∷ []),
      length-map edges (λ (e : ℕ × ℕ). pos 0 -ℤ pos (through e k)),
    )

pub columns_laid : (candidates hubs : List ℕ) (edges : List (ℕ × ℕ)) (n w : ℕ) → n ≡ length edges + 1 → w ≡ length candidates + 1
    → columns_of n w (laid candidates hubs edges) ≡ laid_columns candidates hubs edges
unfolding columns_of
columns_laid candidates hubs edges n w height width =
    rw (height, width)
    (sym
    (fill_by_all (standing (laid candidates hubs edges) (length candidates + 1) (length edges + 1)) (laid_columns candidates hubs edges) (length candidates + 1) []
    (omega (arith, length-map candidates (value_column edges hubs (length candidates))))
    (λ j low.
    fill_by_all (λ i. number (piece (length candidates + 1) (laid candidates hubs edges) i) j) (get_or (laid_columns candidates hubs edges) j []) (length edges + 1) (pos 0)
    (column_long candidates hubs edges j low)
    (λ i less. sym (laid_number candidates hubs edges i j less low)))))

pub laid_long : (candidates hubs : List ℕ) (edges : List (ℕ × ℕ)) → length (laid candidates hubs edges) ≡ (length edges + 1) * (length candidates + 1)
laid_long candidates hubs edges =
    omega (
      arith,
      length-append (flat_map (way_row candidates) edges) (objective_row candidates hubs),
      length-objective_row candidates hubs,
      ways_long edges,
    )
  where
    ways_long : (es : List (ℕ × ℕ)) → length (flat_map (way_row candidates) es) ≡ length es * (length candidates + 1)
    ways_long [] = omega arith
    ways_long (e ∷ es) =
        omega (
          arith,
          length-append (way_row candidates e) (flat_map (way_row candidates) es),
          length-way_row candidates e,
          ways_long es,
        )

-- ---- no number is great

narrow_way : (candidates : List ℕ) (e : ℕ × ℕ) → AreNarrow (way_row candidates e)
narrow_way candidates e =
    All-cons (λ x. unsigned_abs x ≤ widest) (pos 1) (map (λ k. pos 0 -ℤ pos (through e k)) candidates) (omega arith)
    (All-map (λ x. unsigned_abs x ≤ widest) (λ k. pos 0 -ℤ pos (through e k)) candidates (λ k d l. small (nat_eq e.0 (get_or candidates k d) || nat_eq e.1 (get_or candidates k d))))
  where
    small : (b : Bool) → unsigned_abs (pos 0 -ℤ pos (cond b 1 0)) ≤ widest
    small true = omega arith
    small false = omega arith

narrow_ways : (candidates : List ℕ) (edges : List (ℕ × ℕ)) → AreNarrow (flat_map (way_row candidates) edges)
narrow_ways candidates [] = All-nil (λ x. unsigned_abs x ≤ widest)
narrow_ways candidates (e ∷ edges) =
    All-append (λ x. unsigned_abs x ≤ widest) (way_row candidates e) (flat_map (way_row candidates) edges) (narrow_way candidates e) (narrow_ways candidates edges)

narrow_objective : (candidates hubs : List ℕ) → length candidates ≤ 200 → AreNarrow (objective_row candidates hubs)
narrow_objective candidates hubs few =
    let q = length candidates in
    All-cons (λ x. unsigned_abs x ≤ widest) (pos 0 -ℤ pos (2 + 2 * q)) (map (λ k. pos (counts hubs q k)) candidates) (omega (arith, ints, few))
    (All-map (λ x. unsigned_abs x ≤ widest) (λ k. pos (counts hubs q k)) candidates (λ k d l. small (is_in hubs (get_or candidates k d)) q few))
  where
    small : (b : Bool) (q : ℕ) → q ≤ 200 → unsigned_abs (pos (cond b (1 + 2 * q) 1)) ≤ widest
    small true q few = omega (arith, few)
    small false q few = omega arith

pub laid_narrow : (candidates hubs : List ℕ) (edges : List (ℕ × ℕ)) → length candidates ≤ 200 → AreNarrow (laid candidates hubs edges)
laid_narrow candidates hubs edges few =
    All-append (λ x. unsigned_abs x ≤ widest) (flat_map (way_row candidates) edges) (objective_row candidates hubs) (narrow_ways candidates edges)
    (narrow_objective candidates hubs few)
