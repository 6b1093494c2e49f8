-- Lists that climb: each element's number is at least the least one allowed, which is the one behind the element before. And the
-- ways of a proof, each behind the one before it.
use Rattle.std.proofs.Common.{◌≡◌, ℕ, ◌+◌, ◌<◌, ◌≤◌, Bool, true, List, [], ◌∷◌, ◌++◌, map, nat_lt, refl, arith, ◌&&◌, ◌||◌, nat_le, nat_eq, ◌⊎◌, inl, inr}
use Rattle.std.specs.List.{list_all}
use Rattle.std.proofs.lemmas.Bool.{and_from, and_parts, lt-ltb, ltb-true, or_left, or_right, or_cases, le-leb, leb-true, eq-eqb, eqb-true}
use Rattle.cert_spec.specs.Reading.{ascends, way_before, ways_ascend, is_way_text}
use Rattle.core_spec.specs.CoreCuts.{Way}
use Rattle.core_spec.specs.MarkRanges.{most_taken}

-- the elements pass the test, and their numbers climb from the first least one to the last
abbrev pub Climbs : {X : Type 0} → (X → Bool) → (X → ℕ) → ℕ → List X → ℕ → Type 0
Climbs test number low [] high = low ≡ high
Climbs test number low (x ∷ xs) high = (low ≤ number x) × (test x ≡ true) × Climbs test number (number x + 1) xs high

pub climbs_more : {X : Type 0} (test : X → Bool) (number : X → ℕ) (low : ℕ) (xs : List X) (high : ℕ) (y : X)
    → Climbs test number low xs high → high ≤ number y → test y ≡ true → Climbs test number low (xs ++ y ∷ []) (number y + 1)
climbs_more test number low [] high y h least ok = (omega arith, ok, refl)
climbs_more test number low (x ∷ xs) high y h least ok = (h.0, h.1, climbs_more test number (number x + 1) xs high y h.2 least ok)

pub climbs_ascend : {X : Type 0} (test : X → Bool) (number : X → ℕ) (low : ℕ) (xs : List X) (high : ℕ) → Climbs test number low xs high → ascends (map number xs) ≡ true
climbs_ascend test number low [] high h = refl
climbs_ascend test number low (x ∷ []) high h = refl
climbs_ascend test number low (x ∷ y ∷ rest) high h =
    and_from (nat_lt (number x) (number y)) (ascends (map number (y ∷ rest))) (lt-ltb (number x) (number y) (omega (arith, h.2.0)))
    (climbs_ascend test number (number x + 1) (y ∷ rest) high h.2)

pub climbs_pass : {X : Type 0} (test : X → Bool) (number : X → ℕ) (low : ℕ) (xs : List X) (high : ℕ) → Climbs test number low xs high → list_all test xs ≡ true
climbs_pass test number low [] high h = refl
climbs_pass test number low (x ∷ xs) high h = and_from (test x) (list_all test xs) h.1 (climbs_pass test number (number x + 1) xs high h.2)

-- the first number is at least the least one
abbrev pub StartsAt : {X : Type 0} → (X → ℕ) → ℕ → List X → Type 0
StartsAt number low [] = Unit {0}
StartsAt number low (x ∷ xs) = low ≤ number x

next_starts : {X : Type 0} (number : X → ℕ) (x : X) (xs : List X) → ascends (map number (x ∷ xs)) ≡ true → StartsAt number (number x + 1) xs × (ascends (map number xs) ≡ true)
next_starts number x [] h = (tt, refl)
next_starts number x (y ∷ rest) h =
    let k = and_parts (nat_lt (number x) (number y)) (ascends (map number (y ∷ rest))) h in
    let above : number x < number y = ltb-true (number x) (number y) k.0 in
    (omega arith, k.1)

pub climbs_from : {X : Type 0} (test : X → Bool) (number : X → ℕ) (low : ℕ) (xs : List X) → StartsAt number low xs → ascends (map number xs) ≡ true → list_all test xs ≡ true
    → (high : ℕ) × Climbs test number low xs high
climbs_from test number low [] s a t = (low, refl)
climbs_from test number low (x ∷ xs) s a t =
    let k = and_parts (test x) (list_all test xs) t in
    let next = next_starts number x xs a in
    let rest = climbs_from test number (number x + 1) xs next.0 next.1 k.1 in
    (rest.0, (s, k.0, rest.1))

-- ---- tests of each element

-- a test that another one implies
pub all_pass : {X : Type 0} (test other : X → Bool) (xs : List X) → ((x : X) → test x ≡ true → other x ≡ true) → list_all test xs ≡ true
    → list_all other xs ≡ true
all_pass test other [] h e = refl
all_pass test other (x ∷ xs) h e =
    let k = and_parts (test x) (list_all test xs) e in and_from (other x) (list_all other xs) (h x k.0) (all_pass test other xs h k.1)

-- and one that two imply together
pub both_pass : {X : Type 0} (test other last : X → Bool) (xs : List X) → ((x : X) → test x ≡ true → other x ≡ true → last x ≡ true)
    → list_all test xs ≡ true → list_all other xs ≡ true → list_all last xs ≡ true
both_pass test other last [] h e f = refl
both_pass test other last (x ∷ xs) h e f =
    let k = and_parts (test x) (list_all test xs) e in
    let m = and_parts (other x) (list_all other xs) f in
    and_from (last x) (list_all last xs) (h x k.0 m.0) (both_pass test other last xs h k.1 m.1)

-- the second two nodes stand behind the first two; they count from 1, and 0 stands for none
abbrev pub Behind : (from to first last : ℕ) → Type 0
Behind from to first last = (from < first) ⊎ ((from ≡ first) × (to < last))

-- ways between n nodes, each behind the one before it, from two nodes to two
abbrev pub WaysClimb : ℕ → ℕ → ℕ → List Way → ℕ → ℕ → Type 0
WaysClimb n from to [] first last = (from ≡ first) × (to ≡ last)
WaysClimb n from to (w ∷ ways) first last =
    Behind from to (w.0 + 1) (w.1 + 1) × (is_way_text n w ≡ true) × WaysClimb n (w.0 + 1) (w.1 + 1) ways first last

-- the test of two places is that they stand one behind the other
pub behind_is : (from to first last : ℕ) → (nat_lt from first || (nat_eq from first && nat_lt to last)) ≡ true → Behind from to first last
behind_is from to first last e = elim (or_cases (nat_lt from first) (nat_eq from first && nat_lt to last) e) [
  | inl low ↦ inl (ltb-true from first low)
  | inr same ↦ (let k = and_parts (nat_eq from first) (nat_lt to last) same in inr (eqb-true from first k.0, ltb-true to last k.1))
]

pub is_behind : (from to first last : ℕ) → Behind from to first last → (nat_lt from first || (nat_eq from first && nat_lt to last)) ≡ true
is_behind from to first last h = elim h [
  | inl low ↦ or_left (nat_lt from first) (nat_eq from first && nat_lt to last) (lt-ltb from first low)
  | inr same ↦ or_right (nat_lt from first) (nat_eq from first && nat_lt to last)
      (and_from (nat_eq from first) (nat_lt to last) (eq-eqb from first same.0) (lt-ltb to last same.1))
]

-- a way behind another one, by its nodes from 0
way_behind : (v w : Way) → Behind (v.0 + 1) (v.1 + 1) (w.0 + 1) (w.1 + 1) → way_before v w ≡ true
way_behind v w h = is_behind v.0 v.1 w.0 w.1 (elim h [ inl low ↦ inl (omega (arith, low)) | inr same ↦ inr (omega (arith, same.0), omega (arith, same.1)) ])

behind_way : (v w : Way) → way_before v w ≡ true → Behind (v.0 + 1) (v.1 + 1) (w.0 + 1) (w.1 + 1)
behind_way v w e = elim (behind_is v.0 v.1 w.0 w.1 e) [ inl low ↦ inl (omega (arith, low)) | inr same ↦ inr (omega (arith, same.0), omega (arith, same.1)) ]

pub ways_more : (n from to : ℕ) (ways : List Way) (first last : ℕ) (w : Way) → WaysClimb n from to ways first last → Behind first last (w.0 + 1) (w.1 + 1)
    → is_way_text n w ≡ true → WaysClimb n from to (ways ++ w ∷ []) (w.0 + 1) (w.1 + 1)
ways_more n from to [] first last w h behind ok =
    (elim behind [ inl low ↦ inl (omega (arith, low, h.0)) | inr same ↦ inr (omega (arith, same.0, h.0), omega (arith, same.1, h.1)) ], ok, (refl, refl))
ways_more n from to (v ∷ ways) first last w h behind ok = (h.0, h.1, ways_more n (v.0 + 1) (v.1 + 1) ways first last w h.2 behind ok)

pub ways_up : (n from to : ℕ) (ways : List Way) (first last : ℕ) → WaysClimb n from to ways first last → ways_ascend ways ≡ true
ways_up n from to [] first last h = refl
ways_up n from to (v ∷ []) first last h = refl
ways_up n from to (v ∷ w ∷ rest) first last h =
    and_from (way_before v w) (ways_ascend (w ∷ rest)) (way_behind v w h.2.0) (ways_up n (v.0 + 1) (v.1 + 1) (w ∷ rest) first last h.2)

pub ways_pass : (n from to : ℕ) (ways : List Way) (first last : ℕ) → WaysClimb n from to ways first last → list_all (is_way_text n) ways ≡ true
ways_pass n from to [] first last h = refl
ways_pass n from to (w ∷ ways) first last h =
    and_from (is_way_text n w) (list_all (is_way_text n) ways) h.1 (ways_pass n (w.0 + 1) (w.1 + 1) ways first last h.2)

-- the first way stands behind two nodes
abbrev pub StartsBehind : ℕ → ℕ → List Way → Type 0
StartsBehind from to [] = Unit {0}
StartsBehind from to (w ∷ ways) = Behind from to (w.0 + 1) (w.1 + 1)

next_behind : (v : Way) (ways : List Way) → ways_ascend (v ∷ ways) ≡ true → StartsBehind (v.0 + 1) (v.1 + 1) ways × (ways_ascend ways ≡ true)
next_behind v [] e = (tt, refl)
next_behind v (w ∷ rest) e = let k = and_parts (way_before v w) (ways_ascend (w ∷ rest)) e in (behind_way v w k.0, k.1)

-- ways that climb to some nodes
pub record ClimbTo (n from to : ℕ) (ways : List Way) : Type 0 where
  pub first : ℕ
  pub last : ℕ
  pub climb : WaysClimb n from to ways first last

pub ways_from : (n from to : ℕ) (ways : List Way) → StartsBehind from to ways → ways_ascend ways ≡ true → list_all (is_way_text n) ways ≡ true
    → ClimbTo n from to ways
ways_from n from to [] s a t = record { first = from; last = to; climb = (refl, refl) }
ways_from n from to (w ∷ ways) s a t =
    let k = and_parts (is_way_text n w) (list_all (is_way_text n) ways) t in
    let next = next_behind w ways a in
    let rest = ways_from n (w.0 + 1) (w.1 + 1) ways next.0 next.1 k.1 in
    record { first = rest.first; last = rest.last; climb = (s, k.0, rest.climb) }

-- the first way of a proof stands behind none
pub starts_behind : (ways : List Way) → StartsBehind 0 0 ways
starts_behind [] = tt
starts_behind (w ∷ ways) = inl (omega arith)

-- a way that a line can list
pub record WayIs (n : ℕ) (w : Way) : Type 0 where
  pub order : w.0 ≤ w.1
  pub node : w.1 < n
  pub some : 1 ≤ w.2
  pub few : w.2 ≤ most_taken

pub way_is : (n : ℕ) (w : Way) → is_way_text n w ≡ true → WayIs n w
way_is n w e =
    let a = and_parts (nat_le w.0 w.1) (nat_lt w.1 n && (nat_le 1 w.2 && nat_le w.2 most_taken)) e in
    let b = and_parts (nat_lt w.1 n) (nat_le 1 w.2 && nat_le w.2 most_taken) a.1 in
    let c = and_parts (nat_le 1 w.2) (nat_le w.2 most_taken) b.1 in
    record { order = leb-true w.0 w.1 a.0; node = ltb-true w.1 n b.0; some = leb-true 1 w.2 c.0; few = leb-true w.2 most_taken c.1 }

pub way_fits : (n : ℕ) (w : Way) → WayIs n w → is_way_text n w ≡ true
way_fits n w h =
    and_from (nat_le w.0 w.1) (nat_lt w.1 n && (nat_le 1 w.2 && nat_le w.2 most_taken)) (le-leb w.0 w.1 h.order)
    (and_from (nat_lt w.1 n) (nat_le 1 w.2 && nat_le w.2 most_taken) (lt-ltb w.1 n h.node)
    (and_from (nat_le 1 w.2) (nat_le w.2 most_taken) (le-leb 1 w.2 h.some) (le-leb w.2 most_taken h.few)))
