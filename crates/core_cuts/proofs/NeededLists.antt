-- The needed edges of a list of candidates, one candidate after another.
use Rattle.std.proofs.Common.{◌≡◌, ℕ, ◌+◌, ◌-◌, ◌/◌, ◌<◌, ◌≤◌, true, false, cond, List, [], ◌∷◌, ◌++◌, length, map, filter, get_or, take, drop, ℤ, pos, sym, ap, ap₂, ◌∙◌, arith}
use Rattle.std.proofs.lemmas.List.{append_assoc, append-nil, get_or-map, length-map, length-drop, take_all, map-append, drop-map}
use Rattle.std.proofs.lemmas.Simd.{map-map}
use Rattle.std.proofs.lemmas.List.Elements.{filter_more}
use Rattle.hub_spec.specs.Problem.{Problem, flow}
use Rattle.core_spec.specs.CoreCuts.{pair_cost}
use Rattle.core_cuts.specs.CoreTables.{is_needed, pairs_of, edge_right}
use Rattle.core_cuts.specs.Ahead.{AreCosts}

-- the needed edges of the candidates from this place on
abbrev pub needed_from : Problem → ℕ × ℕ → ℕ → List (ℕ × ℕ)
needed_from p c x = filter (is_needed p c) (pairs_of (drop x p.candidates))

-- ---- one candidate

abbrev fan : ℕ → List ℕ → List (ℕ × ℕ)
fan k later = map (λ m. (k, m)) later

-- the needed ones of its first edges
abbrev pub first_needed : Problem → ℕ × ℕ → ℕ → List ℕ → ℕ → List (ℕ × ℕ)
first_needed p c k later i = filter (is_needed p c) (take i (fan k later))

more_needed : (p : Problem) (c : ℕ × ℕ) (k : ℕ) (later : List ℕ) (i : ℕ) → i < length later
    → first_needed p c k later (i + 1) ≡ first_needed p c k later i ++ cond (is_needed p c (k, get_or later i 0)) ((k, get_or later i 0) ∷ []) []
more_needed p c k later i within =
    let at : get_or (fan k later) i (k, 0) ≡ (k, get_or later i 0) = get_or-map (λ m. (k, m)) later i 0 (k, 0) within in
    filter_more (is_needed p c) (fan k later) i (k, 0) (omega (arith, within, length-map {B = ℕ × ℕ} later (λ m. (k, m))))
    ∙ ap (λ e. first_needed p c k later i ++ cond (is_needed p c e) (e ∷ []) []) at

pub needed_yes : (p : Problem) (c : ℕ × ℕ) (k : ℕ) (later : List ℕ) (i : ℕ) (base old : List (ℕ × ℕ)) → i < length later
    → is_needed p c (k, get_or later i 0) ≡ true → old ≡ base ++ first_needed p c k later i
    → old ++ (k, get_or later i 0) ∷ [] ≡ base ++ first_needed p c k later (i + 1)
needed_yes p c k later i base old within is_one before =
    let e : ℕ × ℕ = (k, get_or later i 0) in
    ap (λ es. es ++ e ∷ []) before ∙ append_assoc base (first_needed p c k later i) (e ∷ [])
    ∙ ap (λ es. base ++ es) (sym (more_needed p c k later i within ∙ ap (λ b. first_needed p c k later i ++ cond b (e ∷ []) []) is_one))

pub needed_no : (p : Problem) (c : ℕ × ℕ) (k : ℕ) (later : List ℕ) (i : ℕ) (base old : List (ℕ × ℕ)) → i < length later
    → is_needed p c (k, get_or later i 0) ≡ false → old ≡ base ++ first_needed p c k later i
    → old ≡ base ++ first_needed p c k later (i + 1)
needed_no p c k later i base old within is_none before =
    let e : ℕ × ℕ = (k, get_or later i 0) in
    before
    ∙ ap (λ es. base ++ es)
    (sym (more_needed p c k later i within ∙ ap (λ b. first_needed p c k later i ++ cond b (e ∷ []) []) is_none ∙ append-nil (first_needed p c k later i)))

-- ---- what they cost by unit of flow

pub singles_cost : (p : Problem) (c : ℕ × ℕ) (nodes : List ℕ)
    → map (λ cost. pos (cost / flow p c.0 c.1)) (map (λ k. pair_cost p c k k) nodes) ≡ map (λ e. pos (edge_right p c e)) (map (λ k. (k, k)) nodes)
singles_cost p c nodes =
    map-map (λ (cost : ℕ). pos (cost / flow p c.0 c.1)) (λ (k : ℕ). pair_cost p c k k) nodes
    ∙ sym (map-map (λ (e : ℕ × ℕ). pos (edge_right p c e)) (λ (k : ℕ). (k, k)) nodes)

pub costs_more : (p : Problem) (c : ℕ × ℕ) (edges : List (ℕ × ℕ)) (rights : List ℤ) (e : ℕ × ℕ) (right : ℕ) → AreCosts p c edges rights
    → right ≡ edge_right p c e → AreCosts p c (edges ++ e ∷ []) (rights ++ pos right ∷ [])
costs_more p c edges rights e right costs is =
    ap₂ (λ (rs : List ℤ) (n : ℕ). rs ++ pos n ∷ []) costs is ∙ sym (map-append (λ (e : ℕ × ℕ). pos (edge_right p c e)) edges (e ∷ []))

-- ---- the rest of a list as a slice

pub rest_of : {A : Type 0} (n : ℕ) (xs : List A) → take (length xs - n) (drop n xs) ≡ drop n xs
rest_of n xs = take_all (length xs - n) (drop n xs) (omega (arith, length-drop n xs))

pub rest_of_map : (f : ℕ → ℕ) (n : ℕ) (xs ys : List ℕ) → ys ≡ map f xs → take (length ys - n) (drop n ys) ≡ map f (take (length xs - n) (drop n xs))
rest_of_map f n xs ys are = rest_of n ys ∙ ap (drop n) are ∙ drop-map f n xs ∙ ap (map f) (sym (rest_of n xs))
