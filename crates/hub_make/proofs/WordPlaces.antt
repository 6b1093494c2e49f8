-- The words of a made-up text by their places, counted from 0.
use Rattle.std.proofs.Common.{◌≡◌, ℕ, zero, suc, ◌+◌, ◌*◌, ◌/◌, ◌%◌, ◌<◌, ◌≤◌, List, [], ◌∷◌, ◌++◌, map, flat_map, length, codes, decimal, Some, None, option_map, refl, sym, ap, ◌∙◌, append-nil, length-append, div-add-mod', arith}
use Rattle.std.specs.List.{range_with_len, slice_get}
use Rattle.std.proofs.lemmas.List.{length-map}
use Rattle.std.proofs.lemmas.List.Concat.{flat_map-append}
use Rattle.std.proofs.lemmas.List.Folds.{flat_map-map}
use Rattle.std.proofs.lemmas.List.FromFn.{length-map-range_with_len, get_or-map-range_with_len}
use Rattle.std.proofs.lemmas.Option.{slice_get-map, slice_get-get_or, slice_get_past}
use Rattle.std.proofs.lemmas.Nat.{div_below, mod_below}
use Rattle.hub_make.specs.Numbers.{nodes, made_x, made_y, made_flow, made_cost}
use Rattle.hub_make.specs.Texts.{number_words, coordinate_words, flow_words, cost_words, made_lines}
use Rattle.hub_make.proofs.TokenTexts.{all_words}

-- ---- places in lists

front_at : {A : Type 0} (xs ys : List A) (i : ℕ) → i < length xs → slice_get (xs ++ ys) i ≡ slice_get xs i
front_at [] ys i h = absurd (omega arith)
front_at (x ∷ xs) ys zero h = refl
front_at (x ∷ xs) ys (suc i) h = front_at xs ys i (omega arith)

back_at : {A : Type 0} (xs ys : List A) (at i : ℕ) → at ≡ length xs + i → slice_get (xs ++ ys) at ≡ slice_get ys i
back_at [] ys at i e = let same : at ≡ i = omega arith in ap (slice_get ys) same
back_at (x ∷ xs) ys zero i e = absurd (omega arith)
back_at (x ∷ xs) ys (suc at) i e = back_at xs ys at i (omega arith)

rows_length : {A : Type 0} (f : ℕ → List A) (k a m : ℕ) → ((x : ℕ) → length (f x) ≡ k) → length (flat_map f (range_with_len a m)) ≡ m * k
rows_length f k a zero h = omega arith
rows_length f k a (suc m) h =
    let rest = rows_length f k (a + 1) m h in
    let more : suc m * k ≡ k + m * k = omega arith in
    length-append (f a) (flat_map f (range_with_len (a + 1) m)) ∙ omega (arith, h a, rest, more)

-- element j of row i, where each row has k
row_at : {A : Type 0} (f : ℕ → List A) (k a m i j node : ℕ) → ((x : ℕ) → length (f x) ≡ k) → i < m → j < k → node ≡ a + i
    → slice_get (flat_map f (range_with_len a m)) (i * k + j) ≡ slice_get (f node) j
row_at f k a zero i j node h row column e = absurd (omega arith)
row_at f k a (suc m) zero j node h row column e =
    let rest = flat_map f (range_with_len (a + 1) m) in
    let start : 0 * k + j ≡ j = omega arith in
    let same : a ≡ node = omega arith in
    ap (slice_get (f a ++ rest)) start ∙ front_at (f a) rest j (omega (arith, h a)) ∙ ap (λ x. slice_get (f x) j) same
row_at f k a (suc m) (suc i) j node h row column e =
    let rest = flat_map f (range_with_len (a + 1) m) in
    let turn : suc i * k + j ≡ k + (i * k + j) = omega arith in
    back_at (f a) rest (suc i * k + j) (i * k + j) (omega (arith, turn, h a)) ∙ row_at f k (a + 1) m i j node h (omega arith) column (omega arith)

number_at : (f : ℕ → ℕ) (n i node : ℕ) → i < n → node ≡ 1 + i → slice_get (number_words (map f (nodes n))) i ≡ Some (decimal (f node))
number_at f n i node h e =
    let row = map f (nodes n) in
    slice_get-map decimal row i
    ∙ ap (option_map decimal) (slice_get-get_or row i 0 (omega (arith, length-map-range_with_len f 1 n)) ∙ ap Some (get_or-map-range_with_len f 1 n i node 0 h (sym e)))

-- ---- the words

-- the listed number of hubs, the factors and the fixed costs
abbrev pub last_words : ℕ → ℕ → List (List ℕ)
last_words seed n = codes "1" ∷ codes "3" ∷ codes "0.75" ∷ codes "2" ∷ cost_words seed n

abbrev point_words : ℕ → ℕ → List (List ℕ)
point_words seed n = flat_map (coordinate_words seed) (nodes n)

abbrev matrix_words : ℕ → ℕ → List (List ℕ)
matrix_words seed n = flat_map (flow_words seed n) (nodes n)

-- all words of the text
abbrev pub made_words : ℕ → ℕ → List (List ℕ)
made_words seed n = all_words (made_lines seed n)

words_are : (seed n : ℕ) → made_words seed n ≡ decimal n ∷ (point_words seed n ++ (matrix_words seed n ++ last_words seed n))
words_are seed n =
    let points = map (coordinate_words seed) (nodes n) in
    let flows = map (flow_words seed n) (nodes n) in
    let last : List (List (List ℕ)) = (codes "1" ∷ []) ∷ (codes "3" ∷ []) ∷ (codes "0.75" ∷ []) ∷ (codes "2" ∷ []) ∷ cost_words seed n ∷ [] in
    let ended : all_words last ≡ last_words seed n = ap (λ ws. codes "1" ∷ codes "3" ∷ codes "0.75" ∷ codes "2" ∷ ws) (append-nil (cost_words seed n)) in
    let second : all_words (flows ++ last) ≡ matrix_words seed n ++ last_words seed n =
    flat_map-append (λ words. words) flows last ∙ (λ i. flat_map-map (λ words. words) (flow_words seed n) (nodes n) i ++ ended i) in
    ap (λ ws. decimal n ∷ ws) (flat_map-append (λ words. words) points (flows ++ last) ∙ (λ i. flat_map-map (λ words. words) (coordinate_words seed) (nodes n) i ++ second i))

points_length : (seed n : ℕ) → length (point_words seed n) ≡ n * 2
points_length seed n = rows_length (coordinate_words seed) 2 1 n (λ x. refl)

row_length : (seed n i : ℕ) → length (flow_words seed n i) ≡ n
row_length seed n i = length-map (map (made_flow seed i) (nodes n)) decimal ∙ length-map-range_with_len (made_flow seed i) 1 n

matrix_length : (seed n : ℕ) → length (matrix_words seed n) ≡ n * n
matrix_length seed n = rows_length (flow_words seed n) n 1 n (row_length seed n)

costs_length : (seed n : ℕ) → length (cost_words seed n) ≡ n
costs_length seed n = length-map (map (made_cost seed n) (nodes n)) decimal ∙ length-map-range_with_len (made_cost seed n) 1 n

pub words_length : (seed n : ℕ) → length (made_words seed n) ≡ 5 + 3 * n + n * n
words_length seed n =
    let all = ap (λ (ws : List (List ℕ)). length ws) (words_are seed n) in
    let front = length-append (point_words seed n) (matrix_words seed n ++ last_words seed n) in
    let behind = length-append (matrix_words seed n) (last_words seed n) in
    omega (arith, all, front, behind, points_length seed n, matrix_length seed n, costs_length seed n)

pub size_word : (seed n : ℕ) → slice_get (made_words seed n) 0 ≡ Some (decimal n)
size_word seed n = ap (λ ws. slice_get ws 0) (words_are seed n)

point_word : (seed n at i : ℕ) → at ≡ suc i → i < n * 2 → slice_get (made_words seed n) at ≡ slice_get (point_words seed n) i
point_word seed n at i e h =
    ap (slice_get (made_words seed n)) e ∙ ap (λ ws. slice_get ws (suc i)) (words_are seed n)
    ∙ front_at (point_words seed n) (matrix_words seed n ++ last_words seed n) i (omega (arith, points_length seed n))

matrix_word : (seed n at i : ℕ) → at ≡ suc (n * 2 + i) → i < n * n → slice_get (made_words seed n) at ≡ slice_get (matrix_words seed n) i
matrix_word seed n at i e h =
    ap (slice_get (made_words seed n)) e ∙ ap (λ ws. slice_get ws (suc (n * 2 + i))) (words_are seed n)
    ∙ back_at (point_words seed n) (matrix_words seed n ++ last_words seed n) (n * 2 + i) i (omega (arith, points_length seed n))
    ∙ front_at (matrix_words seed n) (last_words seed n) i (omega (arith, matrix_length seed n))

pub last_word : (seed n at i : ℕ) → at ≡ 1 + 2 * n + n * n + i → slice_get (made_words seed n) at ≡ slice_get (last_words seed n) i
last_word seed n at i e =
    let turn : at ≡ suc (n * 2 + (n * n + i)) = omega arith in
    ap (slice_get (made_words seed n)) turn ∙ ap (λ ws. slice_get ws (suc (n * 2 + (n * n + i)))) (words_are seed n)
    ∙ back_at (point_words seed n) (matrix_words seed n ++ last_words seed n) (n * 2 + (n * n + i)) (n * n + i) (omega (arith, points_length seed n))
    ∙ back_at (matrix_words seed n) (last_words seed n) (n * n + i) i (omega (arith, matrix_length seed n))

pub x_word : (seed n at i : ℕ) → at ≡ 1 + 2 * i → i < n → slice_get (made_words seed n) at ≡ Some (decimal (made_x seed (i + 1)))
x_word seed n at i e h =
    point_word seed n at (i * 2 + 0) (omega arith) (omega arith)
    ∙ row_at (coordinate_words seed) 2 1 n i 0 (i + 1) (λ x. refl) h (omega arith) (omega arith)

pub y_word : (seed n at i : ℕ) → at ≡ 2 + 2 * i → i < n → slice_get (made_words seed n) at ≡ Some (decimal (made_y seed (i + 1)))
y_word seed n at i e h =
    point_word seed n at (i * 2 + 1) (omega arith) (omega arith)
    ∙ row_at (coordinate_words seed) 2 1 n i 1 (i + 1) (λ x. refl) h (omega arith) (omega arith)

pub flow_word : (seed n at s : ℕ) → at ≡ 1 + 2 * n + s → 1 ≤ n → s < n * n
    → slice_get (made_words seed n) at ≡ Some (decimal (made_flow seed (s / n + 1) (s % n + 1)))
flow_word seed n at s e one h =
    let row : s / n < n = div_below s n n one h in
    let column : s % n < n = mod_below s n one in
    let whole : s / n * n + s % n ≡ s = div-add-mod' s n in
    matrix_word seed n at s (omega arith) h
    ∙ ap (slice_get (matrix_words seed n)) (sym whole)
    ∙ row_at (flow_words seed n) n 1 n (s / n) (s % n) (s / n + 1) (row_length seed n) row column (omega arith)
    ∙ number_at (made_flow seed (s / n + 1)) n (s % n) (s % n + 1) column (omega arith)

pub cost_word : (seed n at k : ℕ) → at ≡ 5 + 2 * n + n * n + k → k < n → slice_get (made_words seed n) at ≡ Some (decimal (made_cost seed n (k + 1)))
cost_word seed n at k e h =
    last_word seed n at (suc (suc (suc (suc k)))) (omega arith) ∙ number_at (made_cost seed n) n k (k + 1) h (omega arith)

pub no_word : (seed n at : ℕ) → 5 + 3 * n + n * n ≤ at → slice_get (made_words seed n) at ≡ None
no_word seed n at h = slice_get_past (made_words seed n) at (omega (arith, words_length seed n))
