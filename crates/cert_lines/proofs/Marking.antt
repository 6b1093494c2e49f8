-- Marks as lists of nodes: which nodes are marked, and what a mark set or taken away makes of the list.
use Rattle.std.proofs.Common.{◌≡◌, ℕ, zero, suc, ◌+◌, ◌<◌, ◌≤◌, Bool, true, false, cond, List, [], ◌∷◌, ◌++◌, length, take, get_or, set, sum_by, replicate, Contains, IsTrue, ◌↔◌, nat_eq, nat_lt, refl, sym, ap, subst, ◌∙◌, ⊎_elim, add-one, add-zero, ne_eqb, ltb-true, arith}
use Rattle.std.proofs.lemmas.Bool.{eq-eqb, eqb-false, ltb-false, false_from_ne_true}
use Rattle.std.specs.List.Sorted.{IsStrictlyIncreasing}
use Rattle.std.proofs.lemmas.List.{get_or_default, take_more}
use Rattle.std.proofs.lemmas.List.Elements.{Contains-get_or}
use Rattle.std.proofs.lemmas.List.Sums.{sum_by-cons}
use Rattle.hub_spec.specs.Sums.{with_node, without}
use Rattle.hub_spec.proofs.SumLemmas.{by_test, Contains-cons_cases, nil_contains_none}
use Rattle.hub_spec.proofs.Sets.{Contains-head, Contains-later, ascend_tail, ascend_head}
use Rattle.cert_lines.specs.Marks.{marked_from, marked}

-- where a marked node's mark stands
pub record IsMarkedAt (first : ℕ) (marks : List Bool) (k i : ℕ) : Type 0 where
  pub place : k ≡ first + i
  pub within : i < length marks
  pub mark : get_or marks i false ≡ true

pub marked_place : (first : ℕ) (marks : List Bool) (k : ℕ) → Contains (marked_from first marks) k → (i : ℕ) × IsMarkedAt first marks k i
marked_place first [] k c = nil_contains_none k c
marked_place first (true ∷ marks) k c =
    ⊎_elim (λ here. (0, record { place = omega (arith, here); within = omega arith; mark = refl }))
    (λ later. let there = marked_place (first + 1) marks k later in
    (suc there.0, record { place = omega (arith, there.1.place); within = omega (arith, there.1.within); mark = there.1.mark }))
    (Contains-cons_cases first (marked_from (first + 1) marks) k c)
marked_place first (false ∷ marks) k c =
    let there = marked_place (first + 1) marks k c in
    (suc there.0, record { place = omega (arith, there.1.place); within = omega (arith, there.1.within); mark = there.1.mark })

-- every marked node is at least the first
pub marked_above : (first : ℕ) (marks : List Bool) (k : ℕ) → Contains (marked_from first marks) k → first ≤ k
marked_above first marks k c = omega (arith, (marked_place first marks k c).1.place)

pub marked_has : (first : ℕ) (marks : List Bool) (i k : ℕ) → k ≡ first + i → i < length marks → get_or marks i false ≡ true
    → Contains (marked_from first marks) k
marked_has first [] i k place within mark = absurd (omega (arith, within))
marked_has first (true ∷ marks) zero k place within mark =
    let same : first ≡ k = omega (arith, place) in
    subst (Contains (first ∷ marked_from (first + 1) marks)) same (Contains-head first (marked_from (first + 1) marks))
marked_has first (false ∷ marks) zero k place within mark = let e : false ≡ true = mark in cc
marked_has first (true ∷ marks) (suc i) k place within mark =
    Contains-later first (marked_from (first + 1) marks) k (marked_has (first + 1) marks i k (omega (arith, place)) (omega (arith, within)) mark)
marked_has first (false ∷ marks) (suc i) k place within mark =
    marked_has (first + 1) marks i k (omega (arith, place)) (omega (arith, within)) mark

-- ---- a mark is set

pub with_node-front : (k : ℕ) (ms : List ℕ) → ((m : ℕ) → Contains ms m → k < m) → with_node k ms ≡ k ∷ ms
with_node-front k [] above = refl
with_node-front k (m ∷ ms) above = by_test (nat_lt k m) (λ e. rw e refl) (λ e. absurd (omega (arith, ltb-false k m e, above m (Contains-head m ms))))

pub with_node-behind : (k m : ℕ) (ms : List ℕ) → m ≤ k → with_node k (m ∷ ms) ≡ m ∷ with_node k ms
with_node-behind k m ms below = by_test (nat_lt k m) (λ e. absurd (omega (arith, nat_less k m e, below))) (λ e. rw e refl)
  where
    nat_less : (k m : ℕ) → nat_lt k m ≡ true → k < m
    nat_less k m e = ltb-true k m e

pub with_node-end : (k : ℕ) (ms : List ℕ) → ((m : ℕ) → Contains ms m → m < k) → with_node k ms ≡ ms ++ k ∷ []
with_node-end k [] below = refl
with_node-end k (m ∷ ms) below =
    with_node-behind k m ms (omega (arith, below m (Contains-head m ms)))
    ∙ ap (λ ks. m ∷ ks) (with_node-end k ms (λ x c. below x (Contains-later m ms x c)))

pub marked-set : (first : ℕ) (marks : List Bool) (i k : ℕ) → k ≡ first + i → i < length marks → get_or marks i false ≡ false
    → marked_from first (set marks i true) ≡ with_node k (marked_from first marks)
marked-set first [] i k place within mark = absurd (omega (arith, within))
marked-set first (true ∷ marks) zero k place within mark = let e : true ≡ false = mark in cc
marked-set first (false ∷ marks) zero k place within mark =
    let same : k ≡ first = omega (arith, place) in
    let rest = marked_from (first + 1) marks in
    sym (with_node-front first rest (λ m c. omega (arith, marked_above (first + 1) marks m c)))
    ∙ ap (λ (x : ℕ). with_node x rest) (sym same)
marked-set first (true ∷ marks) (suc i) k place within mark =
    ap (λ ks. first ∷ ks) (marked-set (first + 1) marks i k (omega (arith, place)) (omega (arith, within)) mark)
    ∙ sym (with_node-behind k first (marked_from (first + 1) marks) (omega (arith, place)))
marked-set first (false ∷ marks) (suc i) k place within mark =
    marked-set (first + 1) marks i k (omega (arith, place)) (omega (arith, within)) mark

-- ---- a mark is taken away

pub without-head : (k : ℕ) (ms : List ℕ) → without k (k ∷ ms) ≡ ms
without-head k ms = rw (eq-eqb k k refl) refl

pub without-behind : (k m : ℕ) (ms : List ℕ) → (k ≡ m → ⊥) → without k (m ∷ ms) ≡ m ∷ without k ms
without-behind k m ms apart = rw (ne_eqb k m apart) refl

pub marked-unset : (first : ℕ) (marks : List Bool) (i k : ℕ) → k ≡ first + i → i < length marks → get_or marks i false ≡ true
    → marked_from first (set marks i false) ≡ without k (marked_from first marks)
marked-unset first [] i k place within mark = absurd (omega (arith, within))
marked-unset first (false ∷ marks) zero k place within mark = let e : false ≡ true = mark in cc
marked-unset first (true ∷ marks) zero k place within mark =
    let same : k ≡ first = omega (arith, place) in
    let rest = marked_from (first + 1) marks in
    sym (without-head first rest) ∙ ap (λ (x : ℕ). without x (first ∷ rest)) (sym same)
marked-unset first (true ∷ marks) (suc i) k place within mark =
    ap (λ ks. first ∷ ks) (marked-unset (first + 1) marks i k (omega (arith, place)) (omega (arith, within)) mark)
    ∙ sym (without-behind k first (marked_from (first + 1) marks) (λ e. absurd (omega (arith, place, e))))
marked-unset first (false ∷ marks) (suc i) k place within mark =
    marked-unset (first + 1) marks i k (omega (arith, place)) (omega (arith, within)) mark

pub marked-none : (first n : ℕ) → marked_from first (replicate n false) ≡ []
marked-none first zero = refl
marked-none first (suc n) = marked-none (first + 1) n

-- ---- how many nodes

pub length-with_node : (k : ℕ) (ms : List ℕ) → length (with_node k ms) ≡ length ms + 1
length-with_node k [] = refl
length-with_node k (m ∷ ms) =
    by_test (nat_lt k m) (λ e. rw e (omega arith)) (λ e. rw e (omega (arith, length-with_node k ms)))

pub length-without : (k : ℕ) (ms : List ℕ) → Contains ms k → length (without k ms) + 1 ≡ length ms
length-without k [] c = nil_contains_none k c
length-without k (m ∷ ms) c =
    by_test (nat_eq k m) (λ e. rw e (omega arith))
    (λ e. rw e (⊎_elim (λ here. absurd (eqb-false k m e (sym here))) (λ later. omega (arith, length-without k ms later)) (Contains-cons_cases m ms k c)))

-- ---- one mark more

pub marked-more : (f : ℕ → ℕ) (first : ℕ) (marks : List Bool) (i : ℕ) → i < length marks
    → sum_by f (marked_from first (take (i + 1) marks)) ≡ sum_by f (marked_from first (take i marks)) + cond (get_or marks i false) (f (first + i)) 0
marked-more f first marks i within = rw add-one (more f first marks i within)
  where
    more : (f : ℕ → ℕ) (first : ℕ) (marks : List Bool) (i : ℕ) → i < length marks
        → sum_by f (marked_from first (take (suc i) marks)) ≡ sum_by f (marked_from first (take i marks)) + cond (get_or marks i false) (f (first + i)) 0
    more f first [] i within = absurd (omega (arith, within))
    more f first (true ∷ marks) zero within =
        let same = ap f (add-zero first) in
        let all : sum_by f (first ∷ []) ≡ sum_by f [] + f (first + 0) = omega (arith, sum_by-cons f first [], same) in
        all
    more f first (false ∷ marks) zero within = let all : sum_by f [] ≡ sum_by f [] + 0 = omega arith in all
    more f first (true ∷ marks) (suc i) within =
        let e : first + 1 + i ≡ first + suc i = omega arith in
        let here = cond (get_or marks i false) (f (first + suc i)) 0 in
        let later = marked_from (first + 1) (take (suc i) marks) in
        let before = marked_from (first + 1) (take i marks) in
        let rest : sum_by f later ≡ sum_by f before + here = rw (← e) (more f (first + 1) marks i (omega (arith, within))) in
        let all : sum_by f (first ∷ later) ≡ sum_by f (first ∷ before) + here =
        omega (arith, sum_by-cons f first later, sum_by-cons f first before, rest) in
        all
    more f first (false ∷ marks) (suc i) within =
        let e : first + 1 + i ≡ first + suc i = omega arith in
        rw (← e) (more f (first + 1) marks i (omega (arith, within)))

-- ---- what the methods of marked sets ask for

pub unmarked : (marks : List Bool) (k : ℕ) → (Contains (marked marks) k → ⊥) → k < length marks → get_or marks k false ≡ false
unmarked marks k new within =
    false_from_ne_true _ (λ mark. new (marked_has 0 marks k k (omega arith) within mark))

pub marked_after_set : (marks : List Bool) (k : ℕ) → (Contains (marked marks) k → ⊥) → k < length marks
    → marked (set marks k true) ≡ with_node k (marked marks)
marked_after_set marks k new within = marked-set 0 marks k k (omega arith) within (unmarked marks k new within)

pub marked_within : (marks : List Bool) (k : ℕ) → Contains (marked marks) k → k < length marks
marked_within marks k c =
    let place = marked_place 0 marks k c in
    omega (arith, place.1.place, place.1.within)

pub marked_mark : (marks : List Bool) (k : ℕ) → Contains (marked marks) k → get_or marks k false ≡ true
marked_mark marks k c =
    let place = marked_place 0 marks k c in
    let same : k ≡ place.0 = omega (arith, place.1.place) in
    ap (λ (i : ℕ). get_or marks i false) same ∙ place.1.mark

pub marked_after_unset : (marks : List Bool) (k : ℕ) → Contains (marked marks) k → marked (set marks k false) ≡ without k (marked marks)
marked_after_unset marks k c = marked-unset 0 marks k k (omega arith) (marked_within marks k c) (marked_mark marks k c)

pub few_marked : (first : ℕ) (marks : List Bool) → length (marked_from first marks) ≤ length marks
few_marked first [] = omega arith
few_marked first (true ∷ marks) = omega (arith, few_marked (first + 1) marks)
few_marked first (false ∷ marks) = omega (arith, few_marked (first + 1) marks)

pub has_within : (marks : List Bool) (k : ℕ) (mark : Bool) → mark ≡ get_or marks k mark → k < length marks
    → IsTrue mark ↔ Contains (marked marks) k
has_within marks k mark is within =
    let here : mark ≡ get_or marks k false = is ∙ get_or_default marks k mark false within in
    (λ holds. marked_has 0 marks k k (omega arith) within (sym here ∙ holds), λ c. here ∙ marked_mark marks k c)

pub has_past : (marks : List Bool) (k : ℕ) (b : Bool) → b ≡ false → length marks ≤ k → IsTrue b ↔ Contains (marked marks) k
has_past marks k b is past =
    (λ holds. let e : true ≡ false = sym holds ∙ is in cc, λ c. absurd (omega (arith, marked_within marks k c)))

-- ---- ascending nodes put in one after another

pub take_below : (nodes : List ℕ) (i : ℕ) → IsStrictlyIncreasing nodes → i < length nodes → (m : ℕ) → Contains (take i nodes) m
    → m < get_or nodes i 0
take_below [] i up within m c = absurd (omega (arith, within))
take_below (x ∷ xs) zero up within m c = nil_contains_none m c
take_below (x ∷ xs) (suc i) up within m c =
    let there : i < length xs = omega (arith, within) in
    ⊎_elim (λ here. let above = ascend_head x xs (get_or xs i 0) up (Contains-get_or xs i 0 there) in omega (arith, here, above))
    (λ later. take_below xs i (ascend_tail x xs up) there m later)
    (Contains-cons_cases x (take i xs) m c)

pub next_is_new : (nodes : List ℕ) (i : ℕ) → IsStrictlyIncreasing nodes → i < length nodes → Contains (take i nodes) (get_or nodes i 0) → ⊥
next_is_new nodes i up within c = omega (arith, take_below nodes i up within (get_or nodes i 0) c)

pub next_is_last : (nodes : List ℕ) (i : ℕ) → IsStrictlyIncreasing nodes → i < length nodes
    → with_node (get_or nodes i 0) (take i nodes) ≡ take (i + 1) nodes
next_is_last nodes i up within =
    with_node-end (get_or nodes i 0) (take i nodes) (take_below nodes i up within) ∙ sym (take_more nodes i 0 within)

-- ---- sums over marked nodes

pub sum_marked : (f : ℕ → ℕ) (marks : List Bool) (i sum : ℕ) → i < length marks → get_or marks i false ≡ true
    → sum ≡ sum_by f (marked (take i marks)) → sum + f i ≡ sum_by f (marked (take (i + 1) marks))
sum_marked f marks i sum within here so_far =
    let first : 0 + i ≡ i = omega arith in
    let more : sum_by f (marked (take (i + 1) marks)) ≡ sum_by f (marked (take i marks)) + f i =
    marked-more f 0 marks i within ∙ ap (λ (b : Bool). sum_by f (marked (take i marks)) + cond b (f (0 + i)) 0) here
    ∙ ap (λ (x : ℕ). sum_by f (marked (take i marks)) + f x) first in
    omega (arith, more, so_far)

pub sum_unmarked : (f : ℕ → ℕ) (marks : List Bool) (i sum : ℕ) → i < length marks → get_or marks i false ≡ false
    → sum ≡ sum_by f (marked (take i marks)) → sum ≡ sum_by f (marked (take (i + 1) marks))
sum_unmarked f marks i sum within here so_far =
    let more : sum_by f (marked (take (i + 1) marks)) ≡ sum_by f (marked (take i marks)) + 0 =
    marked-more f 0 marks i within ∙ ap (λ (b : Bool). sum_by f (marked (take i marks)) + cond b (f (0 + i)) 0) here in
    omega (arith, more, so_far)
