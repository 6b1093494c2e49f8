-- Answers by place, in the order of the places, are answers item by item.
use Rattle.std.proofs.Common.{◌≡◌, ℕ, zero, suc, ◌+◌, ◌<◌, List, [], ◌∷◌, ◌++◌, length, get_or, refl, ap, sym, subst, ◌∙◌, map-id, arith}
use Rattle.std.specs.List.{AllZip, HoldsAt, range_with_len}
use Rattle.std.proofs.lemmas.List.FromFn.{get_or-range_with_len, length-range_with_len, map-range_with_len_more}
use Rattle.std.proofs.lemmas.Slice.Zip.{all_zipped_more}
use Rattle.node_rounds.specs.declared.outcomes.Outcome.{Outcome}
use Rattle.node_rounds.specs.declared.rounds.Round.{Round}
use Rattle.node_rounds.specs.Outcomes.{IsTurnOf, IsOutcomeOf}
use Rattle.node_rounds.specs.Rounds.{IsTurnAt}

same_at : {A : Type 0} (xs : List A) (i : ℕ) (d e : A) → i < length xs → get_or xs i d ≡ get_or xs i e
same_at [] i d e below = absurd (omega arith)
same_at (x ∷ xs) zero d e below = refl
same_at (x ∷ xs) (suc i) d e below = same_at xs i d e (omega (arith, below))

long_zip : {B : Type 0} (R : ℕ → B → Type 0) (ns : List ℕ) (ys : List B) → AllZip R ns ys → length ns ≡ length ys
long_zip R [] [] h = omega arith
long_zip R [] (y ∷ ys) h = absurd h
long_zip R (n ∷ ns) [] h = absurd h
long_zip R (n ∷ ns) (y ∷ ys) h = let rest = long_zip R ns ys h.1 in omega arith

zip_at : {B : Type 0} (R : ℕ → B → Type 0) (ns : List ℕ) (ys : List B) (i d : ℕ) (e : B) → AllZip R ns ys → i < length ns → R (get_or ns i d) (get_or ys i e)
zip_at R [] ys i d e h below = absurd (omega arith)
zip_at R (n ∷ ns) [] i d e h below = absurd h
zip_at R (n ∷ ns) (y ∷ ys) zero d e h below = h.0
zip_at R (n ∷ ns) (y ∷ ys) (suc i) d e h below = zip_at R ns ys i d e h.1 (omega arith)

by_places : {A B : Type 0} (Q : A → B → Type 0) (xs : List A) (ys : List B) → length ys ≡ length xs
    → ((i : ℕ) (d : A) (e : B) → i < length xs → Q (get_or xs i d) (get_or ys i e)) → AllZip Q xs ys
by_places Q [] [] long at = tt
by_places Q [] (y ∷ ys) long at = absurd (omega (arith, long))
by_places Q (x ∷ xs) [] long at = absurd (omega (arith, long))
by_places Q (x ∷ xs) (y ∷ ys) long at =
    (at 0 x y (omega arith), by_places Q xs ys (omega (arith, long)) (λ i d e below. at (suc i) d e (omega (arith, below))))

pub in_order : {A B : Type 0} (Q : A → B → Type 0) (xs : List A) (n : ℕ) (ys : List B) → n ≡ length xs
    → AllZip (λ i y. HoldsAt (λ x. Q x y) xs i) (range_with_len 0 n) ys → AllZip Q xs ys
in_order Q xs n ys long h =
    let many = long_zip (λ i y. HoldsAt (λ x. Q x y) xs i) (range_with_len 0 n) ys h in
    by_places Q xs ys (omega (arith, many, long, length-range_with_len 0 n))
    (λ i d e below.
    let place : get_or (range_with_len 0 n) i 0 ≡ i = omega (arith, get_or-range_with_len 0 n i 0 (omega (arith, below, long))) in
    let here = zip_at (λ i y. HoldsAt (λ x. Q x y) xs i) (range_with_len 0 n) ys i 0 e h (omega (arith, below, long, length-range_with_len 0 n)) in
    subst (λ (k : ℕ). HoldsAt (λ x. Q x (get_or ys i e)) xs k) place here d)

-- what is so of each pair makes another so
pub zip_weaker : {A B : Type 0} (P Q : A → B → Type 0) (xs : List A) (ys : List B) → ((x : A) (y : B) → P x y → Q x y) → AllZip P xs ys → AllZip Q xs ys
zip_weaker P Q [] [] less h = tt
zip_weaker P Q [] (y ∷ ys) less h = absurd h
zip_weaker P Q (x ∷ xs) [] less h = absurd h
zip_weaker P Q (x ∷ xs) (y ∷ ys) less h = (less x y h.0, zip_weaker P Q xs ys less h.1)

-- the answers of a round's work are the turns of its nodes
pub turns_in_order : (r : Round) (n : ℕ) (os : List Outcome) → n ≡ length r.nodes.now → AllZip (IsTurnAt r) (range_with_len 0 n) os
    → AllZip (IsTurnOf r.instance.now r.pool.now.entries r.cost) r.nodes.now os
turns_in_order r n os long h =
    let is = IsTurnOf r.instance.now r.pool.now.entries r.cost in
    in_order is r.nodes.now n os long
    (zip_weaker (IsTurnAt r) (λ i o. HoldsAt (λ x. is x o) r.nodes.now i) (range_with_len 0 n) os (λ i o at. at.turn) h)

-- and may be relied on
pub outcomes_in_order : (r : Round) (n : ℕ) (os : List Outcome) → n ≡ length r.nodes.now → AllZip (IsTurnAt r) (range_with_len 0 n) os
    → AllZip (IsOutcomeOf r.instance.now r.pool.now.entries) r.nodes.now os
outcomes_in_order r n os long h =
    let is = IsOutcomeOf r.instance.now r.pool.now.entries in
    in_order is r.nodes.now n os long
    (zip_weaker (IsTurnAt r) (λ i o. HoldsAt (λ x. is x o) r.nodes.now i) (range_with_len 0 n) os (λ i o at. at.sound) h)

-- ---- one place more

range_further : (n : ℕ) → range_with_len 0 (n + 1) ≡ range_with_len 0 n ++ n ∷ []
range_further n =
    sym (map-id (range_with_len 0 (n + 1))) ∙ map-range_with_len_more (λ (x : ℕ). x) 0 n n (omega arith) ∙ ap (λ (ns : List ℕ). ns ++ n ∷ []) (map-id (range_with_len 0 n))

pub further : {B : Type 0} (R : ℕ → B → Type 0) (n : ℕ) (ys more : List B) (y : B) → AllZip R (range_with_len 0 n) ys → R n y → more ≡ ys ++ y ∷ []
    → AllZip R (range_with_len 0 (n + 1)) more
further R n ys more y all here is =
    subst (AllZip R (range_with_len 0 (n + 1))) (sym is)
    (subst (λ (ns : List ℕ). AllZip R ns (ys ++ y ∷ [])) (sym (range_further n)) (all_zipped_more R (range_with_len 0 n) ys n y all here))
