-- The choices of the rule are what their names say, and the only ones that are.
use Rattle.std.proofs.Common.{◌≡◌, ℕ, ◌<◌, ◌≤◌, ℤ, pos, ◌*ℤ◌, ◌≤ℤ◌, int_lt, int_le, List, [], ◌∷◌, length, get_or, filter, Contains, Bool, true, false, ◌&&◌, ◌||◌, nat_eq, nat_lt, ◌↔◌, inl, inr, ⊎_elim, refl, sym, ap, ap₂, subst, ◌∙◌, true≢false, eqb-true, ltb-true, arith}
use Rattle.std.specs.Cmp.{IsStrictWeakOrder}
use Rattle.std.specs.List.{best_of}
use Rattle.std.specs.List.Sorted.{IsStrictlyIncreasing}
use Rattle.std.proofs.lemmas.Bool.{cases_lt, and_parts, eqb-false, ltb-false}
use Rattle.std.proofs.lemmas.Int.{ints}
use Rattle.std.proofs.lemmas.List.{get_or_default}
use Rattle.std.proofs.lemmas.List.MinMax.{IsStrictWeakOrder-by_number, IsFirstBest-from_best_of}
use Rattle.std.proofs.lemmas.List.Elements.{All-contains, Contains-get_or, filter_passes}
use Rattle.std.proofs.lemmas.List.Kept.{IsStrictlyIncreasing-filter}
use Rattle.hub_spec.specs.Problem.{Problem, IsProblem}
use Rattle.hub_spec.specs.Trees.{Branching, IsBranch}
use Rattle.hub_spec.proofs.Ascending.{ascend_nil, ascend_cons}
use Rattle.hub_spec.proofs.Sets.{Contains-head, Contains-later, All-from_contains, is_in, is_in-yes, filter_same, part_is_filter}
use Rattle.hub_spec.proofs.SumLemmas.{by_test, Contains-cons_cases, nil_contains_none}
use Rattle.search_spec.specs.States.{Advice}
use Rattle.search_spec.specs.Choices.{has_node, first_best, is_half, from_half, rounded, picked, nearest_half}
use Rattle.search_spec.proofs.RuleParts.{has_when, in_when}
use Rattle.search_steps.specs.Choosing.{IsGreatest, IsNearest, IsRounded, IsPicked}
use Rattle.search_steps.specs.Theorems.{GreatestIsOne, NearestIsOne, PickedIsOne}
use Rattle.search_steps.proofs.Points.{not_falling}

-- ---- the first of some ascending nodes that none beats

-- none of the nodes beats this one of them, and of those that it does not beat it is the least
record IsFirst (beats : ℕ → ℕ → Bool) (ks : List ℕ) (k : ℕ) : Type 0 where
  listed : Contains ks k
  unbeaten : (m : ℕ) → Contains ks m → beats m k ≡ false
  least : (m : ℕ) → Contains ks m → beats k m ≡ false → k ≤ m

no_less : (ks : List ℕ) (k m b i : ℕ) → IsStrictlyIncreasing ks → b ≤ i → i < length ks → get_or ks b 0 ≡ k → get_or ks i 0 ≡ m → k ≤ m
no_less ks k m b i up after low here there = omega (arith, not_falling ks up b i after low, here, there)

best_is : (beats : ℕ → ℕ → Bool) (a : ℕ) (ks : List ℕ) → IsStrictWeakOrder beats → IsStrictlyIncreasing (a ∷ ks)
    → IsFirst beats (a ∷ ks) (best_of beats a ks)
best_is beats a ks o up =
    let found = IsFirstBest-from_best_of o a ks in
    let b = found.0 in
    let low : b < length (a ∷ ks) = found.1.0 in
    let place : (d : ℕ) → get_or (a ∷ ks) b d ≡ best_of beats a ks = λ d. get_or_default (a ∷ ks) b d a low ∙ found.2 in
    record {
      listed = subst (Contains (a ∷ ks)) (place 0) (Contains-get_or (a ∷ ks) b 0 low);
      unbeaten = λ m c. sym (ap₂ beats c.2 (place m)) ∙ found.1.1 c.0 m c.1;
      least = λ m c even. ⊎_elim
          (λ before. absurd (true≢false (sym (found.1.2 c.0 m before) ∙ ap₂ beats (place m) c.2 ∙ even)))
          (λ after. no_less (a ∷ ks) (best_of beats a ks) m b c.0 up after c.1 (place 0) (get_or_default (a ∷ ks) c.0 0 m c.1 ∙ c.2))
          (cases_lt c.0 b);
    }

first_is : (beats : ℕ → ℕ → Bool) (ks : List ℕ) → IsStrictWeakOrder beats → IsStrictlyIncreasing ks → 1 ≤ length ks
    → IsFirst beats ks (first_best beats ks)
first_is beats [] o up some = absurd (omega arith)
first_is beats (k ∷ ks) o up some = best_is beats k ks o up

one_first : (beats : ℕ → ℕ → Bool) (ks : List ℕ) (k m : ℕ) → IsFirst beats ks k → IsFirst beats ks m → k ≡ m
one_first beats ks k m first second =
    omega (arith, first.least m second.listed (second.unbeaten k first.listed), second.least k first.listed (first.unbeaten m second.listed))

-- a property that only the first has is the property to be it
as_first : (P : ℕ → Type 0) (beats : ℕ → ℕ → Bool) (ks : List ℕ) (k : ℕ) → IsStrictWeakOrder beats → IsStrictlyIncreasing ks → 1 ≤ length ks
    → ((m : ℕ) → P m → IsFirst beats ks m) → ((m : ℕ) → IsFirst beats ks m → P m) → P k ↔ (k ≡ first_best beats ks)
as_first P beats ks k o up some on back =
    let first = first_is beats ks o up some in
    (λ is. one_first beats ks k (first_best beats ks) (on k is) first, λ e. subst P (sym e) (back (first_best beats ks) first))

-- ---- the greatest node

not_less : (u v : ℤ) → v ≤ℤ u → int_lt u v ≡ false
not_less u v low = by_test (int_lt u v) (λ e. absurd (omega (arith, ints, e, low))) (λ e. e)

by_point : (point : ℕ → ℤ) → IsStrictWeakOrder (λ (k m : ℕ). int_lt (point m) (point k))
by_point point = record {
  one_way = λ x y e. not_less (point x) (point y) (omega (arith, ints, e));
  chain = λ x y z e f. not_less (point z) (point x) (omega (arith, ints, e, f));
}

greatest_first : (point : ℕ → ℤ) (ks : List ℕ) (k : ℕ) → IsGreatest point ks k → IsFirst (λ (i j : ℕ). int_lt (point j) (point i)) ks k
greatest_first point ks k is = record {
  listed = is.listed;
  unbeaten = λ m c. not_less (point k) (point m) (is.greatest m c);
  least = λ m c e. is.least m c (both_ways (point m) (point k) (is.greatest m c) (omega (arith, ints, e)));
}
  where
    both_ways : (x y : ℤ) → x ≤ℤ y → y ≤ℤ x → x ≡ y
    both_ways x y low high = omega (arith, ints)

first_greatest : (point : ℕ → ℤ) (ks : List ℕ) (k : ℕ) → IsFirst (λ (i j : ℕ). int_lt (point j) (point i)) ks k → IsGreatest point ks k
first_greatest point ks k is = record {
  listed = is.listed;
  greatest = λ m c. let e = is.unbeaten m c in omega (arith, ints, e);
  least = λ m c same. is.least m c (not_less (point m) (point k) (omega (arith, ints, same)));
}

pub greatest_one : GreatestIsOne
greatest_one point ks k up some =
    as_first (IsGreatest point ks) (λ (i j : ℕ). int_lt (point j) (point i)) ks k (by_point point) up some (greatest_first point ks) (first_greatest point ks)

-- ---- the node nearest to a half

not_lower : (x y : ℕ) → y ≤ x → nat_lt x y ≡ false
not_lower x y low = by_test (nat_lt x y) (λ e. absurd (omega (arith, ltb-true x y e, low))) (λ e. e)

nearest_first : (a : Advice) (ks : List ℕ) (k : ℕ) → IsNearest a ks k → IsFirst (λ (i j : ℕ). nat_lt (from_half a i) (from_half a j)) ks k
nearest_first a ks k is = record {
  listed = is.listed;
  unbeaten = λ m c. not_lower (from_half a m) (from_half a k) (is.nearest m c);
  least = λ m c e. is.least m c (as_near (from_half a m) (from_half a k) (is.nearest m c) e);
}
  where
    as_near : (x y : ℕ) → y ≤ x → nat_lt y x ≡ false → x ≡ y
    as_near x y low e = omega (arith, low, ltb-false y x e)

first_nearest : (a : Advice) (ks : List ℕ) (k : ℕ) → IsFirst (λ (i j : ℕ). nat_lt (from_half a i) (from_half a j)) ks k → IsNearest a ks k
first_nearest a ks k is = record {
  listed = is.listed;
  nearest = λ m c. ltb-false (from_half a m) (from_half a k) (is.unbeaten m c);
  least = λ m c same. is.least m c (not_lower (from_half a k) (from_half a m) (no_more (from_half a m) (from_half a k) same));
}
  where
    no_more : (x y : ℕ) → x ≡ y → x ≤ y
    no_more x y same = omega (arith, same)

pub nearest_one : NearestIsOne
unfolding nearest_half
nearest_one a b k up some =
    as_first (IsNearest a b.free) (λ (i j : ℕ). nat_lt (from_half a i) (from_half a j)) b.free k (IsStrictWeakOrder-by_number (from_half a)) up some
    (nearest_first a b.free) (first_nearest a b.free)

-- ---- ascending lists as sets

pub one_set : (P : ℕ → Type 0) (xs ys : List ℕ) → IsStrictlyIncreasing xs → IsStrictlyIncreasing ys
    → ((k : ℕ) → Contains xs k ↔ P k) → ((k : ℕ) → Contains ys k ↔ P k) → xs ≡ ys
one_set P xs ys up rising first second =
    sym (part_is_filter ys xs rising up (All-from_contains (Contains ys) xs (λ k c. (second k).1 ((first k).0 c))))
    ∙ filter_same (is_in xs) (is_in ys) ys (λ k c. is_in-yes xs k ((first k).1 ((second k).0 c)) ∙ sym (is_in-yes ys k c))
    ∙ part_is_filter ys ys rising rising (All-from_contains (Contains ys) ys (λ k c. c))

pub filter_has : (test : ℕ → Bool) (ks : List ℕ) (k : ℕ) → Contains ks k → test k ≡ true → Contains (filter test ks) k
filter_has test [] k c passes = c
filter_has test (m ∷ ms) k c passes =
    ⊎_elim (λ here. let e : test m ≡ true = ap test here ∙ passes in rw e (subst (Contains (m ∷ filter test ms)) here (Contains-head m (filter test ms))))
    (λ later. let rest = filter_has test ms k later passes in
    by_test (test m) (λ e. rw e (Contains-later m (filter test ms) k rest)) (λ e. rw e rest))
    (Contains-cons_cases m ms k c)

-- ---- the set that is picked

abbrev is_rounded : Advice → Branching → ℕ → Bool
is_rounded a b k = has_node b.inside k || (has_node b.free k && is_half a k)

half_when : (a : Advice) (k : ℕ) → a.scale ≤ℤ (pos 2 *ℤ a.point k) → is_half a k ≡ true
half_when a k half = at_least a.scale (pos 2 *ℤ a.point k) half
  where
    at_least : (u v : ℤ) → u ≤ℤ v → int_le u v ≡ true
    at_least u v low = by_test (int_le u v) (λ e. e) (λ e. absurd (omega (arith, ints, e, low)))

rounded_when : (a : Advice) (b : Branching) (k : ℕ) → IsRounded a b k → is_rounded a b k ≡ true
rounded_when a b k (inl inside) = rw (has_when b.inside k inside) refl
rounded_when a b k (inr half) =
    by_test (has_node b.inside k) (λ e. rw e refl)
    (λ e. rw e (ap₂ (λ (s t : Bool). s && t) (has_when b.free k half.0) (half_when a k half.1)))

when_rounded : (a : Advice) (b : Branching) (k : ℕ) → is_rounded a b k ≡ true → IsRounded a b k
when_rounded a b k passes =
    by_test (has_node b.inside k) (λ e. inl (in_when b.inside k e))
    (λ e. let parts = and_parts (has_node b.free k) (is_half a k) (rw e at passes) in
    let half = parts.1 in inr (in_when b.free k parts.0, omega (arith, ints, half)))

candidate_when : (p : Problem) (a : Advice) (b : Branching) (k : ℕ) → IsBranch p b → IsRounded a b k → Contains p.candidates k
candidate_when p a b k is (inl inside) = All-contains (Contains p.candidates) b.inside k is.inside_are inside
candidate_when p a b k is (inr half) = All-contains (Contains p.candidates) b.free k is.free_are half.0

rounded_has : (p : Problem) (a : Advice) (b : Branching) (k : ℕ) → IsBranch p b → Contains (rounded p a b) k ↔ IsRounded a b k
unfolding rounded
rounded_has p a b k is = (
  λ c. when_rounded a b k (All-contains (λ (m : ℕ). is_rounded a b m ≡ true) (filter (is_rounded a b) p.candidates) k
      (filter_passes (is_rounded a b) p.candidates) c),
  λ r. filter_has (is_rounded a b) p.candidates k (candidate_when p a b k is r) (rounded_when a b k r),
)

rounded_ascends : (p : Problem) (a : Advice) (b : Branching) → IsProblem p → IsStrictlyIncreasing (rounded p a b)
unfolding rounded
rounded_ascends p a b ok = IsStrictlyIncreasing-filter (is_rounded a b) p.candidates ok.candidates_ascend

-- whether a node is rounded up
none_rounded : (p : Problem) (a : Advice) (b : Branching) → IsBranch p b → nat_eq (length (rounded p a b)) 0 ≡ true
    → (k : ℕ) → IsRounded a b k → ⊥
none_rounded p a b is e k r =
    let c = (rounded_has p a b k is).1 r in
    let none : length (rounded p a b) ≡ 0 = eqb-true (length (rounded p a b)) 0 e in
    omega (arith, none, c.1)

some_rounded : (p : Problem) (a : Advice) (b : Branching) → IsBranch p b → nat_eq (length (rounded p a b)) 0 ≡ false
    → (k : ℕ) × IsRounded a b k
some_rounded p a b is e =
    let k = get_or (rounded p a b) 0 0 in
    (k, (rounded_has p a b k is).0 (Contains-get_or (rounded p a b) 0 0 (omega (arith, eqb-false (length (rounded p a b)) 0 e))))

rounded_is : (p : Problem) (a : Advice) (b : Branching) → IsProblem p → IsBranch p b → nat_eq (length (rounded p a b)) 0 ≡ false
    → IsPicked a b (rounded p a b)
rounded_is p a b ok is e = record {
  ascends = rounded_ascends p a b ok;
  rounded = λ k r m. rounded_has p a b m is;
  alone = λ none m. let some = some_rounded p a b is e in absurd (none some.0 some.1);
}

alone_is : (p : Problem) (a : Advice) (b : Branching) (g : ℕ) → IsBranch p b → nat_eq (length (rounded p a b)) 0 ≡ true
    → ((m : ℕ) → IsGreatest a.point b.free m ↔ (m ≡ g)) → IsPicked a b (g ∷ [])
alone_is p a b g is e one = record {
  ascends = ascend_cons g [] (λ m c. nil_contains_none m c) ascend_nil;
  rounded = λ k r m. absurd (none_rounded p a b is e k r);
  alone = λ none m. (
    λ c. (one m).1 (⊎_elim (λ here. sym here) (λ later. nil_contains_none m later) (Contains-cons_cases g [] m c)),
    λ greatest. subst (Contains (g ∷ [])) (sym ((one m).0 greatest)) (Contains-head g []),
  );
}

picked_is : (p : Problem) (a : Advice) (b : Branching) → IsProblem p → IsBranch p b → 1 ≤ length b.free → IsPicked a b (picked p a b)
unfolding picked
picked_is p a b ok is some =
    by_test (nat_eq (length (rounded p a b)) 0)
    (λ e. rw e (alone_is p a b (first_best (λ (k m : ℕ). int_lt (a.point m) (a.point k)) b.free) is e (λ m. greatest_one a.point b.free m is.free_ascends some)))
    (λ e. rw e (rounded_is p a b ok is e))

one_picked : (p : Problem) (a : Advice) (b : Branching) (set other : List ℕ) → IsBranch p b → IsPicked a b set → IsPicked a b other → set ≡ other
one_picked p a b set other is first second =
    by_test (nat_eq (length (rounded p a b)) 0)
    (λ e. let none = none_rounded p a b is e in
    one_set (IsGreatest a.point b.free) set other first.ascends second.ascends (first.alone none) (second.alone none))
    (λ e. let some = some_rounded p a b is e in
    one_set (IsRounded a b) set other first.ascends second.ascends (first.rounded some.0 some.1) (second.rounded some.0 some.1))

pub picked_one : PickedIsOne
picked_one p a b set ok is some =
    let there = picked_is p a b ok is some in
    (λ here. one_picked p a b set (picked p a b) is here there, λ e. subst (IsPicked a b) (sym e) there)
