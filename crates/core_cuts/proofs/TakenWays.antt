-- The ways that are taken, in the order of a proof line.
use Rattle.std.proofs.Common.{◌≡◌, ℕ, ◌+◌, ◌<◌, true, false, cond, nat_eq, nat_lt, List, [], ◌∷◌, ◌++◌, length, get_or, drop, filter, flat_map, ℤ, unsigned_abs, refl, sym, ap, ap₂, ◌∙◌, ⊎_elim, arith}
use Rattle.std.proofs.lemmas.Bool.{cases_Bool, cond-true, cond-false, and_right}
use Rattle.std.proofs.lemmas.List.{append_assoc, drop_more}
use Rattle.core_spec.specs.CoreCuts.{Way}
use Rattle.core_cuts.specs.CoreTables.{ways_of, begins_at, ordered_ways}
use Rattle.core_cuts.specs.Bodies.{is_taken}

filter_taken : (k : ℕ) (ways : List Way) → filter (begins_at k) (filter is_taken ways) ≡ filter (begins_at k) ways
filter_taken k [] = refl
filter_taken k (w ∷ ways) =
    ⊎_elim
    (λ (yes : is_taken w ≡ true).
    ap (filter (begins_at k)) (cond-true (is_taken w) (w ∷ filter is_taken ways) (filter is_taken ways) yes)
    ∙ ap (λ rest. cond (begins_at k w) (w ∷ rest) rest) (filter_taken k ways))
    (λ (no : is_taken w ≡ false).
    ap (filter (begins_at k)) (cond-false (is_taken w) (w ∷ filter is_taken ways) (filter is_taken ways) no)
    ∙ filter_taken k ways
    ∙ sym (cond-false (begins_at k w) (w ∷ filter (begins_at k) ways) (filter (begins_at k) ways) (and_right (nat_eq w.0 k) (nat_lt 0 w.2) no)))
    (cases_Bool (is_taken w))

by_nodes : (nodes : List ℕ) (ways : List Way) → flat_map (λ k. filter (begins_at k) (filter is_taken ways)) nodes ≡ flat_map (λ k. filter (begins_at k) ways) nodes
by_nodes [] ways = refl
by_nodes (k ∷ nodes) ways = ap₂ (λ x y. x ++ y) (filter_taken k ways) (by_nodes nodes ways)

-- those that are not taken are of no matter
pub ordered_taken : (nodes : List ℕ) (ways : List Way) → ordered_ways nodes (filter is_taken ways) ≡ ordered_ways nodes ways
unfolding ordered_ways
ordered_taken nodes ways = by_nodes nodes ways

-- ---- one more edge

single : (w : Way) (ways : List Way) → filter is_taken (w ∷ []) ++ filter is_taken ways ≡ filter is_taken (w ∷ ways)
single w ways =
    ⊎_elim
    (λ (yes : is_taken w ≡ true).
    ap (λ xs. xs ++ filter is_taken ways) (cond-true (is_taken w) (w ∷ []) [] yes)
    ∙ sym (cond-true (is_taken w) (w ∷ filter is_taken ways) (filter is_taken ways) yes))
    (λ (no : is_taken w ≡ false).
    ap (λ xs. xs ++ filter is_taken ways) (cond-false (is_taken w) (w ∷ []) [] no)
    ∙ sym (cond-false (is_taken w) (w ∷ filter is_taken ways) (filter is_taken ways) no))
    (cases_Bool (is_taken w))

pub taken_next : (edges : List (ℕ × ℕ)) (row : List ℤ) (first x : ℕ) (d e : ℕ × ℕ) (y : ℤ) (before now : List Way) → x < length edges → first + x < length row
    → e ≡ get_or edges x d → y ≡ get_or row (first + x) y → now ≡ before ++ filter is_taken ((e.0, e.1, unsigned_abs y) ∷ [])
    → now ++ filter is_taken (ways_of (drop (x + 1) edges) (drop (first + (x + 1)) row))
    ≡ before ++ filter is_taken (ways_of (drop x edges) (drop (first + x) row))
taken_next edges row first x d e y before now low within of_edge of_number is =
    let rest = ways_of (drop (x + 1) edges) (drop (first + (x + 1)) row) in
    let w : Way = (e.0, e.1, unsigned_abs y) in
    let edge : drop x edges ≡ e ∷ drop (x + 1) edges = drop_more edges x d low ∙ ap (λ z. z ∷ drop (x + 1) edges) (sym of_edge) in
    let number : drop (first + x) row ≡ y ∷ drop (first + (x + 1)) row =
    drop_more row (first + x) y within ∙ ap₂ (λ z n. z ∷ drop n row) (sym of_number) (next first x) in
    ap (λ zs. zs ++ filter is_taken rest) is
    ∙ append_assoc before (filter is_taken (w ∷ [])) (filter is_taken rest)
    ∙ ap (λ zs. before ++ zs) (single w rest ∙ sym (ap₂ (λ es ys. filter is_taken (ways_of es ys)) edge number))
  where
    next : (first x : ℕ) → first + x + 1 ≡ first + (x + 1)
    next first x = omega arith
