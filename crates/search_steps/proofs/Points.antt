-- Choices by a point: nodes in ascending lists, and the first best of a list.
use Rattle.std.proofs.Common.{◌≡◌, ℕ, zero, suc, ◌+◌, ◌-◌, ◌<◌, ◌≤◌, ◌++◌, int_lt, List, [], ◌∷◌, length, get_or, Contains, All, Bool, false, ◌&&◌, ◌||◌, nat_eq, nat_lt, Result, Ok, Err, refl, sym, ap, subst, ◌∙◌, add-zero, ne_eqb, eq-eqb, ltb-true, ⊎_elim, arith}
use Rattle.std.specs.Prelude.{is_ok}
use Rattle.std.specs.Ordering.{nat_cmp}
use Rattle.std.specs.List.{best_of}
use Rattle.std.specs.List.Sorted.{IsStrictlyIncreasing, IsBinarySearchResult}
use Rattle.std.proofs.lemmas.Bool.{eqb-false, ltb-false}
use Rattle.std.proofs.lemmas.List.Sorted.{searched}
use Rattle.std.proofs.lemmas.List.Elements.{All-nil, All-cons, All-contains, All-contains_itself, All-filter, All-from_get_or, Contains-get_or}
use Rattle.std.proofs.lemmas.List.Kept.{IsStrictlyIncreasing-filter}
use Rattle.hub_spec.specs.Problem.{Problem, IsProblem}
use Rattle.hub_spec.specs.Plans.{IsCandidateSet}
use Rattle.hub_spec.specs.Trees.{Branching, IsBranch}
use Rattle.hub_spec.proofs.Ascending.{ascend_nil, ascend_cons}
use Rattle.hub_spec.proofs.Sets.{Contains-head, Contains-later}
use Rattle.hub_spec.proofs.SumLemmas.{by_test, Contains-cons_cases, nil_contains_none}
use Rattle.search_spec.specs.States.{Advice}
use Rattle.search_spec.specs.Choices.{has_node, first_best, is_half, rounded, picked}
use Rattle.search_spec.proofs.RuleParts.{has_when, in_when}

-- ---- nodes in ascending lists

rising : (ks : List ℕ) → IsStrictlyIncreasing ks → (i d : ℕ) → i + d < length ks → get_or ks i 0 ≤ get_or ks (i + d) 0
rising ks up i zero low = rw (add-zero i) (omega arith)
rising ks up i (suc d) low =
    let before = rising ks up i d (omega arith) in
    let more : get_or ks (i + d) 0 < get_or ks (i + d + 1) 0 = up (i + d) (omega arith) in
    let same : get_or ks (i + suc d) 0 ≡ get_or ks (i + d + 1) 0 = ap (λ j. get_or ks j 0) (omega arith) in
    omega (arith, before, more, same)

pub not_falling : (ks : List ℕ) → IsStrictlyIncreasing ks → (i j : ℕ) → i ≤ j → j < length ks → get_or ks i 0 ≤ get_or ks j 0
not_falling ks up i j less low =
    let same : i + (j - i) ≡ j = omega arith in
    subst (λ n. get_or ks i 0 ≤ get_or ks n 0) same (rising ks up i (j - i) (omega arith))

not_below : (j i : ℕ) → nat_lt j i ≡ false → i ≤ j
not_below j i e = omega (arith, ltb-false j i e)

pub found_is : (ks : List ℕ) (k : ℕ) (r : Result ℕ ℕ) → IsStrictlyIncreasing ks → IsBinarySearchResult (λ y. nat_cmp y k) ks r
    → is_ok r ≡ has_node ks k
found_is ks k (Ok i) up is =
    let s = searched ks k (Ok i) is (not_falling ks up) in
    sym (has_when ks k (subst (Contains ks) s.1 (Contains-get_or ks i 0 s.0)))
found_is ks k (Err i) up is =
    let s = searched ks k (Err i) is (not_falling ks up) in
    let apart : All (λ m. m ≡ k → ⊥) ks = All-from_get_or (λ m. m ≡ k → ⊥) ks 0 (λ j low same.
    by_test (nat_lt j i) (λ e. let below = s.1 j (omega (arith, ltb-true j i e)) in absurd (omega (arith, below, same)))
    (λ e. let above = s.2 j (not_below j i e) low in absurd (omega (arith, above, same)))) in
    by_test (has_node ks k) (λ e. absurd (All-contains (λ m. m ≡ k → ⊥) ks k apart (in_when ks k e) refl)) (λ e. sym e)

-- ---- the first best of a list

best_in : (beats : ℕ → ℕ → Bool) (a : ℕ) (ks : List ℕ) → Contains (a ∷ ks) (best_of beats a ks)
best_in beats a [] = Contains-head a []
best_in beats a (k ∷ ks) =
    by_test (beats k a) (λ t. rw t (Contains-later a (k ∷ ks) (best_of beats k ks) (best_in beats k ks)))
    (λ t. rw t (⊎_elim (λ here. subst (Contains (a ∷ (k ∷ ks))) here (Contains-head a (k ∷ ks)))
    (λ later. Contains-later a (k ∷ ks) (best_of beats a ks) (Contains-later k ks (best_of beats a ks) later))
    (Contains-cons_cases a ks (best_of beats a ks) (best_in beats a ks))))

pub first_best_in : (beats : ℕ → ℕ → Bool) (ks : List ℕ) → 1 ≤ length ks → Contains ks (first_best beats ks)
first_best_in beats [] some = absurd (omega arith)
first_best_in beats (k ∷ ks) some = best_in beats k ks

-- ---- the set that is picked

one_hub : (p : Problem) (k : ℕ) → Contains p.candidates k → IsCandidateSet p (k ∷ [])
one_hub p k candidate = record {
  some_hub = omega arith;
  ascend = ascend_cons k [] (λ m c. nil_contains_none m c) ascend_nil;
  are_candidates = All-cons (Contains p.candidates) k [] candidate (All-nil (Contains p.candidates));
}

rounded_is_set : (p : Problem) (a : Advice) (b : Branching) → IsProblem p → 1 ≤ length (rounded p a b) → IsCandidateSet p (rounded p a b)
unfolding rounded
rounded_is_set p a b ok some =
    let test : ℕ → Bool = λ k. has_node b.inside k || (has_node b.free k && is_half a k) in
    record {
      some_hub = some;
      ascend = IsStrictlyIncreasing-filter test p.candidates ok.candidates_ascend;
      are_candidates = All-filter test (Contains p.candidates) p.candidates (All-contains_itself p.candidates);
    }

pub picked_is_set : (p : Problem) (a : Advice) (b : Branching) → IsProblem p → IsBranch p b → 1 ≤ length b.free → IsCandidateSet p (picked p a b)
unfolding picked
picked_is_set p a b ok is some =
    let beats : ℕ → ℕ → Bool = λ k m. int_lt (a.point m) (a.point k) in
    by_test (nat_eq (length (rounded p a b)) 0)
    (λ e. rw e (one_hub p (first_best beats b.free)
    (All-contains (Contains p.candidates) b.free (first_best beats b.free) is.free_are (first_best_in beats b.free some))))
    (λ e. let none = eqb-false (length (rounded p a b)) 0 e in rw e (rounded_is_set p a b ok (omega (arith, none))))

-- nothing is rounded up
pub picked_greatest : (p : Problem) (a : Advice) (b : Branching) (set : List ℕ) (k : ℕ) → set ≡ rounded p a b → length set ≡ 0
    → k ≡ first_best (λ i j. int_lt (a.point j) (a.point i)) b.free → set ++ k ∷ [] ≡ picked p a b
unfolding picked
picked_greatest p a b [] k is none greatest =
    let empty : length (rounded p a b) ≡ 0 = sym (ap length is) ∙ none in
    rw (eq-eqb (length (rounded p a b)) 0 empty) (ap (λ m. m ∷ []) greatest)
picked_greatest p a b (x ∷ set) k is none greatest = absurd (omega (arith, none))

-- something is
pub picked_rounded : (p : Problem) (a : Advice) (b : Branching) (set : List ℕ) → set ≡ rounded p a b → (length set ≡ 0 → ⊥) → set ≡ picked p a b
unfolding picked
picked_rounded p a b set is some =
    rw (ne_eqb (length (rounded p a b)) 0 (λ e. some (ap length is ∙ e))) is
