-- The tokens of bytes are just the maximal runs between separators, in order.
use Rattle.std.proofs.Common.{◌≡◌, ℕ, zero, suc, ◌+◌, ◌<◌, ◌≤◌, ◌⊎◌, ◌||◌, Bool, true, false, nat_eq, List, [], ◌∷◌, ◌++◌, map, length, get_or, drop, take, Contains, refl, sym, ◌∙◌, ap, subst, inl, inr, arith, le_refl, append_assoc, add-one, take-append-drop, length-append, length-drop, drop_at, length-take}
use Rattle.std.specs.Prelude.{⊤}
use Rattle.std.specs.List.{list_any, starts_with}
use Rattle.std.specs.List.Sorted.{IsStrictlyIncreasing}
use Rattle.std.proofs.lemmas.Bool.{cond-true, cond-false, cond_both, false≢true, not-true, not_from_false, or_parts}
use Rattle.std.proofs.lemmas.List.{nil_from_length, drop-append-le}
use lib.Pointwise.{pointwise_long}
use Rattle.text_spec.specs.Tokens.{byte_order_mark, TokensAreRuns, Token, is_separator, begins_inside, ends_outside, with_byte, runs, tokens_of, mark_length, IsRun}

-- a member is the first element or a member of the rest
contains_here : {X : Type 0} (x : X) (xs : List X) → Contains (x ∷ xs) x
contains_here x xs = (0, omega arith, refl)

contains_there : {X : Type 0} (x y : X) (xs : List X) → Contains xs y → Contains (x ∷ xs) y
contains_there x y xs h = (suc h.0, omega arith, h.2)

contains_cases_at : {X : Type 0} (x y : X) (xs : List X) (k : ℕ) → k < length (x ∷ xs) → get_or (x ∷ xs) k y ≡ y → (x ≡ y) ⊎ Contains xs y
contains_cases_at x y xs zero l e = inl e
contains_cases_at x y xs (suc k) l e = inr (k, omega arith, e)

contains_cases : {X : Type 0} (x y : X) (xs : List X) → Contains (x ∷ xs) y → (x ≡ y) ⊎ Contains xs y
contains_cases x y xs h = contains_cases_at x y xs h.0 h.1 h.2

-- the tokens' places ascend, from the given one on
abbrev Ascends : ℕ → List Token → Type 0
Ascends place [] = ⊤
Ascends place (t ∷ tokens) = (place ≤ t.0) × Ascends (t.0 + 1) tokens

ascends_below : (low place : ℕ) (tokens : List Token) → low ≤ place → Ascends place tokens → Ascends low tokens
ascends_below low place [] l h = tt
ascends_below low place (t ∷ tokens) l h = (omega arith, h.1)

ascends_with_byte : (joins : Bool) (place b : ℕ) (tokens : List Token) → Ascends (place + 1) tokens → Ascends place (with_byte joins place b tokens)
ascends_with_byte true place b [] h = (le_refl place, tt)
ascends_with_byte true place b (t ∷ tokens) h = (le_refl place, ascends_below (place + 1) (t.0 + 1) tokens (omega arith) h.1)
ascends_with_byte false place b tokens h = (le_refl place, h)

runs_separator : (place b : ℕ) (bytes : List ℕ) → is_separator b ≡ true → runs place (b ∷ bytes) ≡ runs (place + 1) bytes
runs_separator place b bytes e = cond-true (is_separator b) _ _ e

runs_inside : (place b : ℕ) (bytes : List ℕ) → is_separator b ≡ false → runs place (b ∷ bytes) ≡ with_byte (begins_inside bytes) place b (runs (place + 1) bytes)
runs_inside place b bytes e = cond-false (is_separator b) _ _ e

runs_ascend_step : (s : Bool) (place b : ℕ) (bytes : List ℕ) → is_separator b ≡ s → Ascends (place + 1) (runs (place + 1) bytes) → Ascends place (runs place (b ∷ bytes))
runs_ascend_step true place b bytes e h = subst (Ascends place) (sym (runs_separator place b bytes e)) (ascends_below place (place + 1) (runs (place + 1) bytes) (omega arith) h)
runs_ascend_step false place b bytes e h = subst (Ascends place) (sym (runs_inside place b bytes e)) (ascends_with_byte (begins_inside bytes) place b (runs (place + 1) bytes) h)

runs_ascend : (place : ℕ) (bytes : List ℕ) → Ascends place (runs place bytes)
runs_ascend place [] = tt
runs_ascend place (b ∷ bytes) = runs_ascend_step (is_separator b) place b bytes refl (runs_ascend (place + 1) bytes)

contained_from_at : (place : ℕ) (tokens : List Token) (t : Token) (k : ℕ) → Ascends place tokens → k < length tokens → get_or tokens k t ≡ t → place ≤ t.0
contained_from_at place [] t k h l e = absurd (omega arith)
contained_from_at place (s ∷ tokens) t zero h l e = let same : s.0 ≡ t.0 = ap (λ (x : Token). x.0) e in omega arith
contained_from_at place (s ∷ tokens) t (suc k) h l e = let more : s.0 + 1 ≤ t.0 = contained_from_at (s.0 + 1) tokens t k h.1 (omega arith) e in omega arith

contained_from : (place : ℕ) (tokens : List Token) (t : Token) → Ascends place tokens → Contains tokens t → place ≤ t.0
contained_from place tokens t h c = contained_from_at place tokens t c.0 h c.1 c.2

places_increase_at : (place : ℕ) (tokens : List Token) (k : ℕ) → Ascends place tokens → suc k < length (map (λ (t : Token). t.0) tokens) → get_or (map (λ (t : Token). t.0) tokens) k 0 < get_or (map (λ (t : Token). t.0) tokens) (suc k) 0
places_increase_at place [] k h l = absurd (omega arith)
places_increase_at place (t ∷ []) k h l = absurd (omega arith)
places_increase_at place (t ∷ u ∷ tokens) zero h l = omega arith
places_increase_at place (t ∷ u ∷ tokens) (suc k) h l = places_increase_at (t.0 + 1) (u ∷ tokens) k h.1 (omega arith)

pub places_increase : (place : ℕ) (bytes : List ℕ) → IsStrictlyIncreasing (map (λ (t : Token). t.0) (runs place bytes))
places_increase place bytes k l = rw add-one (places_increase_at place (runs place bytes) k (runs_ascend place bytes) (rw add-one at l))

-- bytes that begin inside a token have their first token where they begin
first_with_byte : (joins : Bool) (place b : ℕ) (tokens : List Token) → (text : List ℕ) × (rest : List Token) × (with_byte joins place b tokens ≡ (place, text) ∷ rest)
first_with_byte true place b [] = (b ∷ [], [], refl)
first_with_byte true place b (t ∷ tokens) = (b ∷ t.1, tokens, refl)
first_with_byte false place b tokens = (b ∷ [], tokens, refl)

first_run : (place : ℕ) (bytes : List ℕ) → begins_inside bytes ≡ true → (text : List ℕ) × (rest : List Token) × (runs place bytes ≡ (place, text) ∷ rest)
first_run place [] e = absurd (false≢true e)
first_run place (b ∷ bytes) e =
    let first = first_with_byte (begins_inside bytes) place b (runs (place + 1) bytes) in
    (first.0, first.1, runs_inside place b bytes (not-true (is_separator b) e) ∙ first.2)

-- a run that begins where the bytes do is the first token
run_here_step : (place b : ℕ) (text rest : List ℕ) → is_separator b ≡ false → begins_inside rest ≡ false
    → (0 < length text → (tokens : List Token) × (runs (place + 1) (text ++ rest) ≡ (place + 1, text) ∷ tokens))
    → list_any is_separator text ≡ false
    → (tokens : List Token) × (runs place (b ∷ text ++ rest) ≡ (place, b ∷ text) ∷ tokens)
run_here_step place b [] rest e behind more inside =
    (runs (place + 1) rest, runs_inside place b rest e ∙ ap (λ j. with_byte j place b (runs (place + 1) rest)) behind)
run_here_step place b (c ∷ text) rest e behind more inside =
    let next = more (omega arith) in
    let joins : begins_inside (c ∷ text ++ rest) ≡ true = not_from_false (is_separator c) (or_parts (is_separator c) (list_any is_separator text) inside).0 in
    (next.0, runs_inside place b (c ∷ text ++ rest) e ∙ (ap (λ j. with_byte j place b (runs (place + 1) (c ∷ text ++ rest))) joins ∙ ap (λ ts. with_byte true place b ts) next.1))

run_here : (place : ℕ) (text rest : List ℕ) → 0 < length text → list_any is_separator text ≡ false → begins_inside rest ≡ false
    → (tokens : List Token) × (runs place (text ++ rest) ≡ (place, text) ∷ tokens)
run_here place [] rest some inside behind = absurd (omega arith)
run_here place (b ∷ text) rest some inside behind =
    let parts = or_parts (is_separator b) (list_any is_separator text) inside in
    run_here_step place b text rest parts.0 behind (λ more. run_here (place + 1) text rest more parts.1 behind) parts.1

abbrev first_place : List Token → ℕ
first_place [] = 0
first_place (t ∷ tokens) = t.0

-- a run further on stays a token when a byte is put before
still_there : (joins : Bool) (place b at : ℕ) (text : List ℕ) (tokens : List Token) → (joins ≡ true → (first : List ℕ) × (rest : List Token) × (tokens ≡ (place + 1, first) ∷ rest))
    → place + 1 < at → Contains tokens (at, text) → Contains (with_byte joins place b tokens) (at, text)
still_there false place b at text tokens first far h = contains_there (place, b ∷ []) (at, text) tokens h
still_there true place b at text [] first far h = absurd (omega arith)
still_there true place b at text (t ∷ tokens) first far h =
    let start : t.0 ≡ place + 1 = ap first_place (first refl).2 in
    elim (contains_cases t (at, text) tokens h) [
      | inl e ↦ (let same : t.0 ≡ at = ap (λ (x : Token). x.0) e in absurd (omega arith))
      | inr more ↦ contains_there (place, b ∷ t.1) (at, text) tokens more
    ]

from_run_step : (s : Bool) (place f : ℕ) (front bytes text : List ℕ) → is_separator f ≡ s → ends_outside (f ∷ front) ≡ true
    → (ends_outside front ≡ true → Contains (runs (place + 1) (front ++ bytes)) (place + 1 + length front, text))
    → Contains (runs place (f ∷ front ++ bytes)) (place + 1 + length front, text)
from_run_step true place f [] bytes text e outside more =
    subst (λ ts. Contains ts (place + 1 + 0, text)) (sym (runs_separator place f bytes e)) (more refl)
from_run_step true place f (g ∷ front) bytes text e outside more =
    subst (λ ts. Contains ts (place + 1 + length (g ∷ front), text)) (sym (runs_separator place f (g ∷ front ++ bytes) e)) (more outside)
from_run_step false place f [] bytes text e outside more = absurd (false≢true (sym e ∙ outside))
from_run_step false place f (g ∷ front) bytes text e outside more =
    subst (λ ts. Contains ts (place + 1 + length (g ∷ front), text)) (sym (runs_inside place f (g ∷ front ++ bytes) e))
    (still_there (begins_inside (g ∷ front ++ bytes)) place f (place + 1 + length (g ∷ front)) text (runs (place + 1) (g ∷ front ++ bytes)) (first_run (place + 1) (g ∷ front ++ bytes)) (omega arith) (more outside))

-- each maximal run is a token
pub from_run : (place : ℕ) (front text rest : List ℕ) → ends_outside front ≡ true → 0 < length text → list_any is_separator text ≡ false → begins_inside rest ≡ false
    → Contains (runs place (front ++ (text ++ rest))) (place + length front, text)
from_run place [] text rest outside some inside behind =
    let here = run_here place text rest some inside behind in
    let at : place + 0 ≡ place = omega arith in
    subst (λ n. Contains (runs place (text ++ rest)) (n, text)) (sym at) (subst (λ ts. Contains ts (place, text)) (sym here.1) (contains_here (place, text) here.0))
from_run place (f ∷ front) text rest outside some inside behind =
    let at : place + 1 + length front ≡ place + length (f ∷ front) = omega arith in
    subst (λ n. Contains (runs place (f ∷ front ++ (text ++ rest))) (n, text)) at
    (from_run_step (is_separator f) place f front (text ++ rest) text refl outside (λ e. from_run (place + 1) front text rest e some inside behind))

-- the text is a maximal run of bytes that begin at the place
record RunFrom (place : ℕ) (bytes : List ℕ) (at : ℕ) (text : List ℕ) : Type 0 where
  front : List ℕ
  rest : List ℕ
  whole : bytes ≡ front ++ (text ++ rest)
  here : place + length front ≡ at
  behind : ends_outside front ≡ true
  some : 0 < length text
  inside : list_any is_separator text ≡ false
  before : begins_inside rest ≡ false

run_cons : (place b at : ℕ) (bytes text : List ℕ) → (run : RunFrom (place + 1) bytes at text) → ends_outside (b ∷ run.front) ≡ true → RunFrom place (b ∷ bytes) at text
run_cons place b at bytes text run outside = record {
  front = b ∷ run.front;
  rest = run.rest;
  whole = ap (λ bs. b ∷ bs) run.whole;
  here = (let h = run.here in omega arith);
  behind = outside;
  some = run.some;
  inside = run.inside;
  before = run.before;
}

outside_cons_separator : (b : ℕ) (front : List ℕ) → is_separator b ≡ true → ends_outside front ≡ true → ends_outside (b ∷ front) ≡ true
outside_cons_separator b [] e h = e
outside_cons_separator b (c ∷ front) e h = h

outside_cons_more : (b : ℕ) (front : List ℕ) → 0 < length front → ends_outside front ≡ true → ends_outside (b ∷ front) ≡ true
outside_cons_more b [] l h = absurd (omega arith)
outside_cons_more b (c ∷ front) l h = h

-- text with no separator makes bytes begin inside a token
begins_with : (text rest : List ℕ) → 0 < length text → list_any is_separator text ≡ false → begins_inside (text ++ rest) ≡ true
begins_with [] rest some inside = absurd (omega arith)
begins_with (b ∷ text) rest some inside = not_from_false (is_separator b) (or_parts (is_separator b) (list_any is_separator text) inside).0

-- where the bytes begin outside, each run stands behind a front
front_outside : (place : ℕ) (bytes : List ℕ) (at : ℕ) (text front rest : List ℕ) → begins_inside bytes ≡ false → bytes ≡ front ++ (text ++ rest) → 0 < length text → list_any is_separator text ≡ false → 0 < length front
front_outside place bytes at text [] rest starts whole some inside =
    absurd (false≢true (sym starts ∙ (ap begins_inside whole ∙ begins_with text rest some inside)))
front_outside place bytes at text (f ∷ front) rest starts whole some inside = omega arith

single_run : (place b : ℕ) (bytes : List ℕ) → is_separator b ≡ false → begins_inside bytes ≡ false → RunFrom place (b ∷ bytes) place (b ∷ [])
single_run place b bytes e starts = record {
  front = [];
  rest = bytes;
  whole = refl;
  here = omega arith;
  behind = refl;
  some = omega arith;
  inside = ap (λ t. t || false) e;
  before = starts;
}

longer_run : (place b : ℕ) (bytes text : List ℕ) → is_separator b ≡ false → RunFrom (place + 1) bytes (place + 1) text → RunFrom place (b ∷ bytes) place (b ∷ text)
longer_run place b bytes text e run =
    let none : run.front ≡ [] = nil_from_length run.front (let h = run.here in omega arith) in
    record {
      front = [];
      rest = run.rest;
      whole = ap (λ bs. b ∷ bs) (run.whole ∙ ap (λ f. f ++ (text ++ run.rest)) none);
      here = omega arith;
      behind = refl;
      some = omega arith;
      inside = ap (λ t. t || list_any is_separator text) e ∙ run.inside;
      before = run.before;
    }

to_run_with : (joins : Bool) (place b : ℕ) (bytes : List ℕ) (tokens : List Token) (at : ℕ) (text : List ℕ) → is_separator b ≡ false → begins_inside bytes ≡ joins
    → Ascends (place + 1) tokens → (joins ≡ true → first_place tokens ≡ place + 1)
    → ((at : ℕ) (text : List ℕ) → Contains tokens (at, text) → RunFrom (place + 1) bytes at text)
    → Contains (with_byte joins place b tokens) (at, text) → RunFrom place (b ∷ bytes) at text
to_run_with false place b bytes tokens at text e starts ascends first more h =
    elim (contains_cases (place, b ∷ []) (at, text) tokens h) [
      | inl same ↦ subst (λ (t : Token). RunFrom place (b ∷ bytes) t.0 t.1) same (single_run place b bytes e starts)
      | inr later ↦ (let run = more at text later in
          run_cons place b at bytes text run (outside_cons_more b run.front (front_outside (place + 1) bytes at text run.front run.rest starts run.whole run.some run.inside) run.behind))
    ]
to_run_with true place b bytes [] at text e starts ascends first more h = absurd (omega (arith, first refl))
to_run_with true place b bytes (t ∷ tokens) at text e starts ascends first more h =
    let start : t.0 ≡ place + 1 = first refl in
    elim (contains_cases (place, b ∷ t.1) (at, text) tokens h) [
      | inl same ↦ subst (λ (t : Token). RunFrom place (b ∷ bytes) t.0 t.1) same
          (longer_run place b bytes t.1 e (subst (λ n. RunFrom (place + 1) bytes n t.1) start (more t.0 t.1 (contains_here t tokens))))
      | inr later ↦ (let run = more at text (contains_there t (at, text) tokens later) in
          let far : t.0 + 1 ≤ at = contained_from (t.0 + 1) tokens (at, text) ascends.1 later in
          run_cons place b at bytes text run (outside_cons_more b run.front (let h = run.here in omega arith) run.behind))
    ]

to_run_step : (s : Bool) (place b : ℕ) (bytes : List ℕ) (at : ℕ) (text : List ℕ) → is_separator b ≡ s
    → ((at : ℕ) (text : List ℕ) → Contains (runs (place + 1) bytes) (at, text) → RunFrom (place + 1) bytes at text)
    → Contains (runs place (b ∷ bytes)) (at, text) → RunFrom place (b ∷ bytes) at text
to_run_step true place b bytes at text e more h =
    let run = more at text (subst (λ ts. Contains ts (at, text)) (runs_separator place b bytes e) h) in
    run_cons place b at bytes text run (outside_cons_separator b run.front e run.behind)
to_run_step false place b bytes at text e more h =
    to_run_with (begins_inside bytes) place b bytes (runs (place + 1) bytes) at text e refl (runs_ascend (place + 1) bytes)
    (λ j. ap first_place (first_run (place + 1) bytes j).2) more (subst (λ ts. Contains ts (at, text)) (runs_inside place b bytes e) h)

-- each token is a maximal run
to_run : (place : ℕ) (bytes : List ℕ) (at : ℕ) (text : List ℕ) → Contains (runs place bytes) (at, text) → RunFrom place bytes at text
to_run place [] at text h = absurd (let l = h.1 in omega arith)
to_run place (b ∷ bytes) at text h = to_run_step (is_separator b) place b bytes at text refl (λ n t. to_run (place + 1) bytes n t) h

mark_fits : (bytes : List ℕ) → mark_length bytes ≤ length bytes
mark_fits bytes = cond_both (starts_with nat_eq bytes byte_order_mark) 3 0 (λ n. n ≤ length bytes)
    (λ e. (let long : 3 ≡ length (take 3 bytes) = pointwise_long nat_eq byte_order_mark (take 3 bytes) e in let short = length-take 3 bytes in omega arith)) (λ e. omega arith)

whole_run : (bytes : List ℕ) (mark place : ℕ) (text : List ℕ) → mark ≡ mark_length bytes → mark ≤ length bytes → RunFrom mark (drop mark bytes) place text → IsRun bytes place text
whole_run bytes mark place text same fits run =
    let long : length (take mark bytes) ≡ mark = omega (arith, length-take mark bytes) in
    let past : mark ≤ place = (let h = run.here in omega arith) in
    record {
      front = take mark bytes ++ run.front;
      rest = run.rest;
      whole = sym (take-append-drop mark bytes) ∙ (ap (λ bs. take mark bytes ++ bs) run.whole ∙ simp append_assoc);
      at = (let h = run.here in omega (arith, length-append (take mark bytes) run.front));
      past_mark = subst (λ n. n ≤ place) same past;
      behind = subst (λ n. ends_outside (drop n (take mark bytes ++ run.front)) ≡ true) same (ap ends_outside (drop_at (take mark bytes) run.front mark long) ∙ run.behind);
      some = run.some;
      inside = run.inside;
      before = run.before;
    }

token_of_run : (bytes : List ℕ) (mark place : ℕ) (text : List ℕ) → mark_length bytes ≡ mark → (run : IsRun bytes place text) → Contains (runs mark (drop mark bytes)) (place, text)
token_of_run bytes mark place text same run =
    let past : mark ≤ length run.front = (let h = run.at in let p = run.past_mark in omega arith) in
    let rest : drop mark bytes ≡ drop mark run.front ++ (text ++ run.rest) =
    ap (drop mark) (run.whole ∙ append_assoc run.front text run.rest) ∙ drop-append-le mark run.front (text ++ run.rest) past in
    let at : mark + length (drop mark run.front) ≡ place = (let h = run.at in omega (arith, length-drop mark run.front)) in
    subst (λ bs. Contains (runs mark bs) (place, text)) (sym rest)
    (subst (λ n. Contains (runs mark (drop mark run.front ++ (text ++ run.rest))) (n, text)) at
    (from_run mark (drop mark run.front) text run.rest (subst (λ n. ends_outside (drop n run.front) ≡ true) same run.behind) run.some run.inside run.before))

pub all_tokens_are_runs : TokensAreRuns
unfolding tokens_of
all_tokens_are_runs bytes = (
  (λ place text. ((λ h. whole_run bytes (mark_length bytes) place text refl (mark_fits bytes) (to_run (mark_length bytes) (drop (mark_length bytes) bytes) place text h)), (λ run. token_of_run bytes (mark_length bytes) place text refl run))),
  places_increase (mark_length bytes) (drop (mark_length bytes) bytes),
)
