-- An index of hub sets: a search in it, and a set added.
use Rattle.std.proofs.Common.{◌≡◌, ◌≢◌, ℕ, ◌+◌, ◌-◌, ◌<◌, ◌≤◌, true, List, [], ◌∷◌, ◌++◌, Option, Some, None, is_some, length, get_or, All, Contains, ⊎_elim, refl, sym, ap, subst, ◌∙◌, arith}
use Rattle.std.specs.Prelude.{IsFalse}
use Rattle.std.specs.List.{insert}
use Rattle.std.specs.Ordering.{nat_cmp, is_lt}
use Rattle.std.specs.Cmp.Lexicographic.{slice_cmp}
use Rattle.std.proofs.lemmas.Bool.{cases_lt}
use Rattle.std.proofs.lemmas.List.{get_or_append_left, get_or_push, get_or_past, get_or_default, length_push}
use Rattle.std.proofs.lemmas.List.Edits.{length-insert, get_or-insert_below, get_or-insert_at, get_or-insert_above}
use Rattle.std.proofs.lemmas.List.Elements.{All-get_or, All-cons, All-weaker, Contains-append_right}
use Rattle.std.proofs.lemmas.List.Sorted.{IsPermutation-insert, All-permutation, Contains-permutation}
use Rattle.cut_pool.specs.PoolCuts.{AreDistinct}
use Rattle.cut_pool.specs.Ordered.{Precedes, set_or_none, HasSet, set_at, IsIndex, IsSplitAt}
use Rattle.cut_pool.proofs.SetOrder.{precedes_trans, precedes_itself, precedes_other, not_before}

-- ---- the sets that there are

some_is : (o : Option (List ℕ)) → is_some o ≡ true → o ≡ Some (set_or_none o)
some_is (Some hubs) h = refl
some_is None h = cc

none_has : (o : Option (List ℕ)) → o ≡ None → is_some o ≡ true → ⊥
none_has (Some hubs) none h = cc
none_has None none h = cc

pub has_below : (sets : List (Option (List ℕ))) (place : ℕ) → HasSet sets place → place < length sets
has_below sets place has =
    ⊎_elim (λ less. less) (λ past. absurd (none_has (get_or sets place None) (get_or_past sets place None past) has)) (cases_lt place (length sets))

has_more : (sets : List (Option (List ℕ))) (o : Option (List ℕ)) (place : ℕ) → HasSet sets place → HasSet (sets ++ o ∷ []) place
has_more sets o place has = ap is_some (get_or_append_left sets (o ∷ []) None place (has_below sets place has)) ∙ has

has_before : (sets : List (Option (List ℕ))) (o : Option (List ℕ)) (place : ℕ) → place < length sets → HasSet (sets ++ o ∷ []) place → HasSet sets place
has_before sets o place less has = ap is_some (sym (get_or_append_left sets (o ∷ []) None place less)) ∙ has

-- ---- a search

-- the sets below `low` come before the hubs, and those from `high` on do not
pub record IsSearch (sets : List (Option (List ℕ))) (index : List ℕ) (hubs : List ℕ) (low high : ℕ) : Type 0 where
  pub order : low ≤ high
  pub most : high ≤ length index
  pub before : (k : ℕ) → k < low → Precedes (set_at sets index k) hubs
  pub after : (k : ℕ) → high ≤ k → k < length index → IsFalse (is_lt (slice_cmp nat_cmp (set_at sets index k) hubs))

pub search_above : (sets : List (Option (List ℕ))) (index hubs : List ℕ) (low high middle : ℕ) → IsIndex sets index → IsSearch sets index hubs low high
    → middle < high → Precedes (set_at sets index middle) hubs → IsSearch sets index hubs (middle + 1) high
search_above sets index hubs low high middle is s below test = record {
  order = omega arith;
  most = s.most;
  before = λ k within.
      let inner : k < middle → Precedes (set_at sets index k) hubs = λ less.
      precedes_trans (set_at sets index k) (set_at sets index middle) hubs (is.ascends k middle less (omega (arith, s.most))) test in
      let outer : middle ≤ k → Precedes (set_at sets index k) hubs = λ more.
      let e : middle ≡ k = omega arith in subst (λ (j : ℕ). Precedes (set_at sets index j) hubs) e test in
      ⊎_elim inner outer (cases_lt k middle);
  after = s.after;
}

pub search_below : (sets : List (Option (List ℕ))) (index hubs : List ℕ) (low high middle : ℕ) → IsIndex sets index → IsSearch sets index hubs low high
    → low ≤ middle → middle < high → IsFalse (is_lt (slice_cmp nat_cmp (set_at sets index middle) hubs)) → IsSearch sets index hubs low middle
search_below sets index hubs low high middle is s above below test = record {
  order = above;
  most = omega (arith, s.most);
  before = s.before;
  after = λ k from within.
      let inner : middle < k → IsFalse (is_lt (slice_cmp nat_cmp (set_at sets index k) hubs)) = λ less.
      not_before (set_at sets index middle) (set_at sets index k) hubs (is.ascends middle k less within) test in
      let outer : k ≤ middle → IsFalse (is_lt (slice_cmp nat_cmp (set_at sets index k) hubs)) = λ more.
      let e : middle ≡ k = omega arith in subst (λ (j : ℕ). IsFalse (is_lt (slice_cmp nat_cmp (set_at sets index j) hubs))) e test in
      ⊎_elim inner outer (cases_lt middle k);
}

-- what is read at i of the index
pub place_has : (sets : List (Option (List ℕ))) (index : List ℕ) (i place : ℕ) → IsIndex sets index → i < length index → place ≡ get_or index i place
    → HasSet sets place
place_has sets index i place is within read = subst (HasSet sets) (sym read) (All-get_or (HasSet sets) index i place within is.places)

pub read_at : (sets : List (Option (List ℕ))) (index : List ℕ) (i place : ℕ) (set : List ℕ) → i < length index → place ≡ get_or index i place
    → get_or sets place None ≡ Some set → set_at sets index i ≡ set
read_at sets index i place set within at read =
    ap (λ (x : ℕ). set_or_none (get_or sets x None)) (get_or_default index i 0 place within ∙ sym at) ∙ ap set_or_none read

-- what a comparison of the set that is read in the middle says
pub tested : (sets : List (Option (List ℕ))) (index hubs : List ℕ) (middle : ℕ) (set members : List ℕ)
    → get_or sets (get_or index middle 0) None ≡ Some set → members ≡ set
    → is_lt (slice_cmp nat_cmp members hubs) ≡ is_lt (slice_cmp nat_cmp (set_at sets index middle) hubs)
tested sets index hubs middle set members read same =
    ap (λ (xs : List ℕ). is_lt (slice_cmp nat_cmp xs hubs)) (same ∙ sym (ap set_or_none read))

-- the split's place is the only one where the hubs may stand
not_at : (sets : List (Option (List ℕ))) (index hubs : List ℕ) (at k : ℕ) → IsIndex sets index → IsSplitAt sets index hubs at
    → (at < length index → set_at sets index at ≢ hubs) → k < length index → set_at sets index k ≢ hubs
not_at sets index hubs at k is s other within same =
    let inner : k < at → ⊥ = λ less. precedes_itself hubs (subst (λ (xs : List ℕ). Precedes xs hubs) same (s.before k less)) in
    let here : k ≡ at → ⊥ = λ e. other (omega arith) (sym (ap (set_at sets index) e) ∙ same) in
    let outer : at < k → ⊥ = λ more.
    let p : Precedes (set_at sets index at) hubs =
    subst (λ (xs : List ℕ). Precedes (set_at sets index at) xs) same (is.ascends at k more within) in
    let n : IsFalse (is_lt (slice_cmp nat_cmp (set_at sets index at) hubs)) = s.after at (omega arith) (omega arith) in
    cc in
    let rest : at ≤ k → ⊥ = λ from. ⊎_elim outer (λ most. here (omega arith)) (cases_lt at k) in
    ⊎_elim inner rest (cases_lt k at)

-- where the hubs do not stand at the split's place, they are none of the sets
pub none_is : (sets : List (Option (List ℕ))) (index hubs : List ℕ) (at : ℕ) → IsIndex sets index → IsSplitAt sets index hubs at
    → (at < length index → set_at sets index at ≢ hubs) → All (λ s. s ≢ Some hubs) sets
none_is sets index hubs at is s other = λ place d below same.
    let read : get_or sets place None ≡ Some hubs = get_or_default sets place None d below ∙ same in
    let c = is.whole place (ap is_some read) in
    not_at sets index hubs at c.0 is s other c.1 (read_at sets index c.0 place hubs c.1 (sym c.2) read)

-- ---- a set added at the end, its place put into the index where it is split

module _ (sets : List (Option (List ℕ))) (index hubs : List ℕ) (at : ℕ) (is : IsIndex sets index) (s : IsSplitAt sets index hubs at) where
  abbrev more : List (Option (List ℕ))
  more = sets ++ Some hubs ∷ []

  abbrev longer : List ℕ
  longer = insert index at (length sets)

  has_place : (k : ℕ) → k < length index → HasSet sets (get_or index k 0)
  has_place k within = All-get_or (HasSet sets) index k 0 within is.places

  kept : (k : ℕ) → k < length index → set_or_none (get_or more (get_or index k 0) None) ≡ set_at sets index k
  kept k within =
      ap set_or_none (get_or_append_left sets (Some hubs ∷ []) None (get_or index k 0) (has_below sets (get_or index k 0) (has_place k within)))

  set_below : (k : ℕ) → k < at → set_at more longer k ≡ set_at sets index k
  set_below k less =
      ap (λ (j : ℕ). set_or_none (get_or more j None)) (get_or-insert_below index at (length sets) 0 k less s.within)
      ∙ kept k (omega (arith, s.within))

  set_there : set_at more longer at ≡ hubs
  set_there =
      ap (λ (j : ℕ). set_or_none (get_or more j None)) (get_or-insert_at index at (length sets) 0 s.within)
      ∙ ap set_or_none (get_or_push sets (Some hubs) None (length sets) refl)

  set_above : (k : ℕ) → at ≤ k → k < length index → set_at more longer (k + 1) ≡ set_at sets index k
  set_above k from within =
      ap (λ (j : ℕ). set_or_none (get_or more j None)) (get_or-insert_above index at (length sets) 0 k from s.within) ∙ kept k within

  precedes_along : (xs ys us vs : List ℕ) → xs ≡ us → ys ≡ vs → Precedes us vs → Precedes xs ys
  precedes_along xs ys us vs e f p = subst (λ (zs : List ℕ). Precedes zs ys) (sym e) (subst (Precedes us) (sym f) p)

  -- the places before the new one, the new one, and those after it
  ascends_below : (i j : ℕ) → i < j → j < at → Precedes (set_at more longer i) (set_at more longer j)
  ascends_below i j less below =
      precedes_along _ _ _ _ (set_below i (omega arith)) (set_below j below) (is.ascends i j less (omega (arith, s.within)))

  ascends_to : (i : ℕ) → i < at → Precedes (set_at more longer i) (set_at more longer at)
  ascends_to i below = precedes_along _ _ _ _ (set_below i below) set_there (s.before i below)

  ascends_across : (i k : ℕ) → i < at → at ≤ k → k < length index → Precedes (set_at more longer i) (set_at more longer (k + 1))
  ascends_across i k below from within =
      precedes_along _ _ _ _ (set_below i below) (set_above k from within) (is.ascends i k (omega arith) within)

  ascends_from : All (λ set. set ≢ Some hubs) sets → (k : ℕ) → at ≤ k → k < length index → Precedes (set_at more longer at) (set_at more longer (k + 1))
  ascends_from lacks k from within =
      let place = get_or index k 0 in
      let has = has_place k within in
      let other : set_at sets index k ≢ hubs = λ same.
      All-get_or (λ set. set ≢ Some hubs) sets place None (has_below sets place has) lacks (some_is (get_or sets place None) has ∙ ap Some same) in
      precedes_along _ _ _ _ set_there (set_above k from within) (precedes_other (set_at sets index k) hubs (s.after k from within) other)

  ascends_above : (i k : ℕ) → at ≤ i → i < k → k < length index → Precedes (set_at more longer (i + 1)) (set_at more longer (k + 1))
  ascends_above i k from less within =
      precedes_along _ _ _ _ (set_above i from (omega arith)) (set_above k (omega arith) within) (is.ascends i k less within)

  ascends_past : All (λ set. set ≢ Some hubs) sets → (i k : ℕ) → i < k + 1 → at ≤ k → k < length index → Precedes (set_at more longer i) (set_at more longer (k + 1))
  ascends_past lacks i k less from within =
      let inner : i < at → Precedes (set_at more longer i) (set_at more longer (k + 1)) = λ below. ascends_across i k below from within in
      let here : i ≡ at → Precedes (set_at more longer i) (set_at more longer (k + 1)) = λ e.
      subst (λ (j : ℕ). Precedes (set_at more longer j) (set_at more longer (k + 1))) (sym e) (ascends_from lacks k from within) in
      let outer : at < i → Precedes (set_at more longer i) (set_at more longer (k + 1)) = λ above.
      let e : (i - 1) + 1 ≡ i = omega arith in
      subst (λ (j : ℕ). Precedes (set_at more longer j) (set_at more longer (k + 1))) e
      (ascends_above (i - 1) k (omega arith) (omega arith) within) in
      let rest : at ≤ i → Precedes (set_at more longer i) (set_at more longer (k + 1)) = λ up.
      ⊎_elim outer (λ most. here (omega arith)) (cases_lt at i) in
      ⊎_elim inner rest (cases_lt i at)

  ascends_all : All (λ set. set ≢ Some hubs) sets → (i j : ℕ) → i < j → j < length index + 1 → Precedes (set_at more longer i) (set_at more longer j)
  ascends_all lacks i j less within =
      let inner : j < at → Precedes (set_at more longer i) (set_at more longer j) = λ below. ascends_below i j less below in
      let here : j ≡ at → Precedes (set_at more longer i) (set_at more longer j) = λ e.
      subst (λ (k : ℕ). Precedes (set_at more longer i) (set_at more longer k)) (sym e) (ascends_to i (omega arith)) in
      let outer : at < j → Precedes (set_at more longer i) (set_at more longer j) = λ above.
      let e : (j - 1) + 1 ≡ j = omega arith in
      subst (λ (k : ℕ). Precedes (set_at more longer i) (set_at more longer k)) e
      (ascends_past lacks i (j - 1) (omega arith) (omega arith) (omega arith)) in
      let rest : at ≤ j → Precedes (set_at more longer i) (set_at more longer j) = λ up.
      ⊎_elim outer (λ most. here (omega arith)) (cases_lt at j) in
      ⊎_elim inner rest (cases_lt j at)

  moved : (place : ℕ) → Contains (length sets ∷ index) place → Contains longer place
  moved place c = Contains-permutation (length sets ∷ index) longer place (IsPermutation-insert index at (length sets)) c

  whole_more : (place : ℕ) → HasSet more place → Contains longer place
  whole_more place has =
      let inner : place < length sets → Contains longer place = λ less.
      moved place (Contains-append_right (length sets ∷ []) index place (is.whole place (has_before sets (Some hubs) place less has))) in
      let outer : length sets ≤ place → Contains longer place = λ from.
      let e : length sets ≡ place = omega (arith, has_below more place has, length_push sets (Some hubs)) in
      subst (Contains longer) e (moved (length sets) (0, omega arith, refl)) in
      ⊎_elim inner outer (cases_lt place (length sets))

  places_more : All (HasSet more) longer
  places_more =
      All-permutation (HasSet more) (length sets ∷ index) longer (IsPermutation-insert index at (length sets))
      (All-cons (HasSet more) (length sets) index (ap is_some (get_or_push sets (Some hubs) None (length sets) refl))
      (All-weaker (HasSet sets) (HasSet more) (λ place h. has_more sets (Some hubs) place h) index is.places))

  pub index_more : All (λ set. set ≢ Some hubs) sets → IsIndex (sets ++ Some hubs ∷ []) (insert index at (length sets))
  index_more lacks =
      let m : length longer ≡ length index + 1 = length-insert index at (length sets) s.within in
      record {
        places = places_more;
        whole = whole_more;
        ascends = λ i j less within. ascends_all lacks i j less (omega (arith, m));
      }

-- ---- a cut of no set added at the end

unset_at : (sets : List (Option (List ℕ))) (index : List ℕ) → IsIndex sets index → (k : ℕ) → k < length index
    → set_at (sets ++ None ∷ []) index k ≡ set_at sets index k
unset_at sets index is k within =
    let has = All-get_or (HasSet sets) index k 0 within is.places in
    ap set_or_none (get_or_append_left sets (None ∷ []) None (get_or index k 0) (has_below sets (get_or index k 0) has))

pub index_unset : (sets : List (Option (List ℕ))) (index : List ℕ) → IsIndex sets index → IsIndex (sets ++ None ∷ []) index
index_unset sets index is = record {
  places = All-weaker (HasSet sets) (HasSet (sets ++ None ∷ [])) (λ place h. has_more sets None place h) index is.places;
  whole = λ place has.
      let below = has_below (sets ++ None ∷ []) place has in
      let outer : length sets ≤ place → Contains index place = λ from.
      let e : length sets ≡ place = omega (arith, below, length_push sets None) in
      absurd (none_has (get_or (sets ++ None ∷ []) place None) (get_or_push sets None None place e) has) in
      ⊎_elim (λ less. is.whole place (has_before sets None place less has)) outer (cases_lt place (length sets));
  ascends = λ i j less within.
      subst (λ (xs : List ℕ). Precedes xs (set_at (sets ++ None ∷ []) index j)) (sym (unset_at sets index is i (omega (arith, less, within))))
      (subst (Precedes (set_at sets index i)) (sym (unset_at sets index is j within)) (is.ascends i j less within));
}

-- ---- no set stands twice

pub distinct_more : (sets : List (Option (List ℕ))) (o : Option (List ℕ)) → AreDistinct sets
    → ((hubs : List ℕ) → o ≡ Some hubs → All (λ set. set ≢ Some hubs) sets) → AreDistinct (sets ++ o ∷ [])
distinct_more sets o distinct lacks = λ s t hubs less at_s at_t.
    let n = length_push sets o in
    let within = has_below (sets ++ o ∷ []) t (ap is_some at_t) in
    let before = get_or_append_left sets (o ∷ []) None s (omega (arith, n)) in
    let inner : t < length sets → ⊥ = λ below.
    distinct s t hubs less (sym before ∙ at_s) (sym (get_or_append_left sets (o ∷ []) None t below) ∙ at_t) in
    let outer : length sets ≤ t → ⊥ = λ from.
    let e : length sets ≡ t = omega (arith, n) in
    All-get_or (λ set. set ≢ Some hubs) sets s None (omega arith) (lacks hubs (sym (get_or_push sets o None t e) ∙ at_t)) (sym before ∙ at_s) in
    ⊎_elim inner outer (cases_lt t (length sets))
