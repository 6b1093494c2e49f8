-- The clauses of a scan's calls.
use Rattle.std.proofs.Common.{◌≡◌, ℕ, ◌+◌, ◌-◌, ◌<◌, ◌≤◌, Bool, true, false, ◌&&◌, List, [], ◌∷◌, ◌++◌, length, take, drop, get_or, Option, Some, None, nat_le, ◌⊎◌, refl, sym, ap, ◌∙◌, subst, append-nil, arith, zero, suc}
use Rattle.std.specs.Prelude.{option_to_list, is_some, unwrap_or, slice_index, ◌==◌}
use Rattle.memchr.specs.Find.{IsFirstByte, is_byte}
use Rattle.std.proofs.lemmas.List.{take_more, take_all, length-drop}
use Rattle.std.proofs.lemmas.Bool.{cond-true, and_from, le-leb}
use Rattle.cert_scan.specs.Moves.{move, moved_by, with_digit_of, refusal, spelled_by}
use Rattle.cert_scan.specs.Scans.{put, new_scan, given_by, stepped, scanned, given_all}
use Rattle.cert_scan.specs.Given.{IsGiven}
use Rattle.cert_scan.specs.Scanned.{HasScanned}
use Rattle.cert_scan.specs.Runs.{SpellsOn, HasNoLineEnd, Takes, Runs}
use Rattle.cert_scan.proofs.Goes.{nil_front}
use Rattle.cert_scan.proofs.ScanBytes.{scanned-append, given_all-append, quiet_scanned, quiet_given}
use Rattle.cert_scan.specs.declared.stages.Shape.{Shape}
use Rattle.cert_scan.proofs.Tracks.{scanned_given}
use Rattle.cert_scan.specs.declared.items.Item.{Item}
use Rattle.cert_scan.specs.declared.bytes.Position.TheVariants.{Number, Spoiled, Failed}
use Rattle.cert_scan.specs.declared.places.Place.{Place}
use Rattle.cert_scan.specs.declared.scanner.Scan.{Scan}

-- more bytes are scanned
pub scanned_more : (bytes more : List ℕ) (given items : List Item) (old new : Scan) → scanned old more ≡ new → given_all old more ≡ items → HasScanned bytes given old
    → HasScanned (bytes ++ more) (given ++ items) new
scanned_more bytes more given items old new reached gives h = record {
  reached = scanned-append new_scan bytes more ∙ ap (λ s. scanned s more) h.reached ∙ reached;
  gives = given_all-append new_scan bytes more ∙ (λ i. h.gives i ++ given_all (h.reached i) more) ∙ ap (λ l. given ++ l) gives;
}

pub scanned_step : (old new : Scan) (byte : ℕ) (item : Option Item) → item ≡ given_by old byte → new ≡ stepped old byte
    → (bytes : List ℕ) (given : List Item) → HasScanned bytes given old → HasScanned (bytes ++ byte ∷ []) (given ++ option_to_list item) new
scanned_step old new byte item gives after bytes given h =
    scanned_more bytes (byte ∷ []) given (option_to_list item) old new (sym after) (append-nil (option_to_list (given_by old byte)) ∙ ap option_to_list (sym gives)) h

pub step_given : (old new : Scan) (byte : ℕ) (item : Option Item) → item ≡ given_by old byte → new ≡ stepped old byte
    → (bytes : List ℕ) (given : List Item) → HasScanned bytes given old → IsGiven (given ++ option_to_list item)
step_given old new byte item gives after bytes given h =
    scanned_given (bytes ++ byte ∷ []) (given ++ option_to_list item) new (scanned_step old new byte item gives after bytes given h)

-- ---- digits

pub spells_more : (first : Option ℕ) (bytes : List ℕ) (byte : ℕ) (value last : Option ℕ) → SpellsOn first bytes value → SpellsOn value (byte ∷ []) last → SpellsOn first (bytes ++ byte ∷ []) last
spells_more first [] byte value last h k = subst (λ v. SpellsOn v (byte ∷ []) last) (sym h) k
spells_more first (b ∷ bytes) byte value last h k = (h.0, h.1, h.2, h.3, spells_more (Some h.0) bytes byte value last h.4 k)

digit_moves : (sh : Shape) (place : Place) (value : Option ℕ) (byte more : ℕ) → 48 ≤ byte → byte ≤ 57 → with_digit_of value (byte - 48) ≡ Some more
    → moved_by sh (Number place value) byte ≡ move (Number place (Some more)) None
digit_moves sh place value byte more low high e =
    cond-true (nat_le 48 byte && nat_le byte 57) _ _ (and_from (nat_le 48 byte) (nat_le byte 57) (le-leb 48 byte low) (le-leb byte 57 high)) ∙ ap (spelled_by place) e

pub digits_scanned : (s : Scan) (place : Place) (value : Option ℕ) (bytes : List ℕ) (last : Option ℕ) → SpellsOn value bytes last
    → scanned (put s (Number place value)) bytes ≡ put s (Number place last)
digits_scanned s place value [] last h = ap (λ v. put s (Number place v)) h
digits_scanned s place value (byte ∷ bytes) last h =
    quiet_scanned (put s (Number place value)) (put s (Number place last)) byte (Number place (Some h.0)) bytes (digit_moves s.shape place value byte h.0 h.1 h.2 h.3)
    (digits_scanned s place (Some h.0) bytes last h.4)

pub digits_give : (s : Scan) (place : Place) (value : Option ℕ) (bytes : List ℕ) (last : Option ℕ) → SpellsOn value bytes last
    → given_all (put s (Number place value)) bytes ≡ []
digits_give s place value [] last h = refl
digits_give s place value (byte ∷ bytes) last h =
    quiet_given (put s (Number place value)) byte (Number place (Some h.0)) bytes (digit_moves s.shape place value byte h.0 h.1 h.2 h.3)
    (digits_give s place (Some h.0) bytes last h.4)

-- ---- runs

-- so many of the bytes were taken, and gave nothing
pub record HasRun (old : Scan) (bytes : List ℕ) (taken : ℕ) (new : Scan) : Type 0 where
  pub within : taken ≤ length bytes
  pub after : new ≡ scanned old (take taken bytes)
  pub nothing : given_all old (take taken bytes) ≡ []

take_nothing : (k : ℕ) → take {A = ℕ} k [] ≡ []
take_nothing zero = refl
take_nothing (suc k) = refl

pub take-add : (k m : ℕ) (bytes : List ℕ) → take (k + m) bytes ≡ take k bytes ++ take m (drop k bytes)
take-add zero m bytes = let none : 0 + m ≡ m = omega arith in ap (λ x. take x bytes) none
take-add (suc k) m [] = let some : suc k + m ≡ suc (k + m) = omega arith in ap (λ x. take x []) some ∙ sym (take_nothing m)
take-add (suc k) m (b ∷ bytes) = let some : suc k + m ≡ suc (k + m) = omega arith in ap (λ x. take x (b ∷ bytes)) some ∙ ap (λ l. b ∷ l) (take-add k m bytes)

-- the bytes behind those gave nothing either
pub run_more : (old mid new : Scan) (bytes : List ℕ) (taken count : ℕ) → HasRun old bytes taken mid → taken + count ≤ length bytes
    → new ≡ scanned mid (take count (drop taken bytes)) → given_all mid (take count (drop taken bytes)) ≡ [] → HasRun old bytes (taken + count) new
run_more old mid new bytes taken count h fits after nothing =
    let front : take (taken + count) bytes ≡ take taken bytes ++ take count (drop taken bytes) = take-add taken count bytes in
    let part = take count (drop taken bytes) in
    record {
      within = fits;
      after = after ∙ ap (λ s. scanned s part) h.after ∙ sym (scanned-append old (take taken bytes) part) ∙ ap (scanned old) (sym front);
      nothing = ap (given_all old) front ∙ given_all-append old (take taken bytes) part
          ∙ (λ i. h.nothing i ++ given_all (sym h.after i) part) ∙ nothing;
    }

-- the same of the slice of them
pub run_digits : (old mid new : Scan) (bytes : List ℕ) (taken count : ℕ) → HasRun old bytes taken mid → count ≤ length (take (length bytes - taken) (drop taken bytes))
    → new ≡ scanned mid (take count (take (length bytes - taken) (drop taken bytes))) → given_all mid (take count (take (length bytes - taken) (drop taken bytes))) ≡ []
    → HasRun old bytes (taken + count) new
run_digits old mid new bytes taken count h fits after nothing =
    let within = h.within in
    let long : length (drop taken bytes) ≤ length bytes - taken = omega (arith, length-drop taken bytes) in
    let whole : take (length bytes - taken) (drop taken bytes) ≡ drop taken bytes = take_all (length bytes - taken) (drop taken bytes) long in
    run_more old mid new bytes taken count h (omega (arith, fits, ap length whole, length-drop taken bytes))
    (after ∙ ap (λ l. scanned mid (take count l)) whole) (ap (λ l. given_all mid (take count l)) (sym whole) ∙ nothing)

-- one byte more
byte_after : (old mid new : Scan) (bytes : List ℕ) (taken byte : ℕ) → HasRun old bytes taken mid → taken < length bytes → byte ≡ get_or bytes taken 0 → new ≡ stepped mid byte
    → new ≡ scanned old (take (taken + 1) bytes)
byte_after old mid new bytes taken byte h low is after =
    after ∙ (λ i. stepped (h.after i) (is i)) ∙ sym (scanned-append old (take taken bytes) (get_or bytes taken 0 ∷ [])) ∙ ap (scanned old) (sym (take_more bytes taken 0 low))

byte_given : (old mid : Scan) (bytes : List ℕ) (taken byte : ℕ) (item : Option Item) → HasRun old bytes taken mid → taken < length bytes → byte ≡ get_or bytes taken 0 → item ≡ given_by mid byte
    → given_all old (take (taken + 1) bytes) ≡ option_to_list item
byte_given old mid bytes taken byte item h low is gives =
    let last = get_or bytes taken 0 in
    ap (given_all old) (take_more bytes taken 0 low) ∙ given_all-append old (take taken bytes) (last ∷ [])
    ∙ ap (λ g. g ++ given_all (scanned old (take taken bytes)) (last ∷ [])) h.nothing
    ∙ append-nil (option_to_list (given_by (scanned old (take taken bytes)) last))
    ∙ (λ i. option_to_list (given_by (sym h.after i) (sym is i))) ∙ ap option_to_list (sym gives)

pub run_byte : (old mid new : Scan) (bytes : List ℕ) (taken byte : ℕ) (item : Option Item) → HasRun old bytes taken mid → taken < length bytes → byte ≡ get_or bytes taken 0
    → item ≡ given_by mid byte → new ≡ stepped mid byte → item ≡ None → HasRun old bytes (taken + 1) new
run_byte old mid new bytes taken byte item h low is gives after none = record {
  within = omega arith;
  after = byte_after old mid new bytes taken byte h low is after;
  nothing = byte_given old mid bytes taken byte item h low is gives ∙ ap option_to_list none;
}

-- one byte more, whatever it gives
pub takes_byte : (old mid new : Scan) (bytes : List ℕ) (taken byte : ℕ) (item : Option Item) → HasRun old bytes taken mid → taken < length bytes → byte ≡ get_or bytes taken 0
    → item ≡ given_by mid byte → new ≡ stepped mid byte → Takes old bytes (taken + 1) item new
takes_byte old mid new bytes taken byte item h low is gives after =
    let back : taken + 1 - 1 ≡ taken = omega arith in
    record {
      some = omega arith;
      within = omega arith;
      after = sym (byte_after old mid new bytes taken byte h low is after);
      given = byte_given old mid bytes taken byte item h low is gives;
      nothing_before = ap (λ k. given_all old (take k bytes)) back ∙ h.nothing;
    }

-- bytes that gave nothing
pub takes_nothing : (old new : Scan) (bytes : List ℕ) (taken : ℕ) → 0 < taken → HasRun old bytes taken new → Takes old bytes taken None new
takes_nothing old new bytes taken some h =
    let within = h.within in
    let before = take (taken - 1) bytes in
    let split : taken - 1 + (taken - (taken - 1)) ≡ taken = omega arith in
    let front : take taken bytes ≡ take (taken - 1) bytes ++ take (taken - (taken - 1)) (drop (taken - 1) bytes) =
    ap (λ k. take k bytes) (sym split) ∙ take-add (taken - 1) (taken - (taken - 1)) bytes in
    record {
      some = some;
      within = h.within;
      after = sym h.after;
      given = h.nothing;
      nothing_before = nil_front (given_all old before) _
          (sym (given_all-append old before (take (taken - (taken - 1)) (drop (taken - 1) bytes))) ∙ ap (given_all old) (sym front) ∙ h.nothing);
    }

-- bytes that were taken behind those, of the slice of them
takes_front : (bytes : List ℕ) (taken : ℕ) → take (length bytes - taken) (drop taken bytes) ≡ drop taken bytes
takes_front bytes taken = take_all (length bytes - taken) (drop taken bytes) (omega (arith, length-drop taken bytes))

pub run_on : (old mid new : Scan) (bytes : List ℕ) (taken count : ℕ) (item : Option Item) → HasRun old bytes taken mid
    → Takes mid (take (length bytes - taken) (drop taken bytes)) count item new → item ≡ None → HasRun old bytes (taken + count) new
run_on old mid new bytes taken count item h t none =
    run_digits old mid new bytes taken count h t.within (sym t.after) (t.given ∙ ap option_to_list none)

pub run_item : (old mid new : Scan) (bytes : List ℕ) (taken count : ℕ) (item : Option Item) → HasRun old bytes taken mid
    → Takes mid (take (length bytes - taken) (drop taken bytes)) count item new → (item ≡ None → ⊥) → Runs old bytes (taken + count) item new
run_item old mid new bytes taken count item h t some =
    let whole = takes_front bytes taken in
    let positive = t.some in
    let part = take count (drop taken bytes) in
    let before = take (count - 1) (drop taken bytes) in
    let front : take (taken + count) bytes ≡ take taken bytes ++ take count (drop taken bytes) = take-add taken count bytes in
    let back : taken + count - 1 ≡ taken + (count - 1) = omega arith in
    let front_before : take (taken + count - 1) bytes ≡ take taken bytes ++ take (count - 1) (drop taken bytes) =
    ap (λ k. take k bytes) back ∙ take-add taken (count - 1) bytes in
    record {
      within = omega (arith, h.within, t.within, ap length whole, length-drop taken bytes);
      after = ap (scanned old) front ∙ scanned-append old (take taken bytes) part ∙ ap (λ s. scanned s part) (sym h.after)
          ∙ ap (λ l. scanned mid (take count l)) (sym whole) ∙ t.after;
      given = ap (given_all old) front ∙ given_all-append old (take taken bytes) part ∙ (λ i. h.nothing i ++ given_all (sym h.after i) part)
          ∙ ap (λ l. given_all mid (take count l)) (sym whole) ∙ t.given;
      nothing_before = ap (given_all old) front_before ∙ given_all-append old (take taken bytes) before ∙ (λ i. h.nothing i ++ given_all (sym h.after i) before)
          ∙ ap (λ l. given_all mid (take (count - 1) l)) (sym whole) ∙ t.nothing_before;
      all = λ none. absurd (some none);
    }

-- what was taken from the first byte on
pub takes_run : (old new : Scan) (bytes : List ℕ) (taken : ℕ) (item : Option Item) → Takes old bytes taken item new → (item ≡ None → ⊥) → Runs old bytes taken item new
takes_run old new bytes taken item t some =
    record { within = t.within; after = t.after; given = t.given; nothing_before = t.nothing_before; all = λ none. absurd (some none) }

pub run_end : (old new : Scan) (bytes : List ℕ) (taken : ℕ) → HasRun old bytes taken new → length bytes ≤ taken → Runs old bytes taken None new
run_end old new bytes taken h all =
    let within = h.within in
    let front : take taken bytes ≡ take (taken - 1) bytes ++ take (taken - (taken - 1)) (drop (taken - 1) bytes) =
    (let split : taken ≡ taken - 1 + (taken - (taken - 1)) = omega arith in ap (λ k. take k bytes) split ∙ take-add (taken - 1) (taken - (taken - 1)) bytes) in
    record {
      within = within;
      after = sym h.after;
      given = h.nothing;
      nothing_before = nil_front (given_all old (take (taken - 1) bytes)) _ (sym (given_all-append old (take (taken - 1) bytes) (take (taken - (taken - 1)) (drop (taken - 1) bytes))) ∙ ap (given_all old) (sym front) ∙ h.nothing);
      all = λ none. omega arith;
    }

-- what a run scans
pub run_scanned : (old new : Scan) (bytes : List ℕ) (taken : ℕ) (item : Option Item) → Runs old bytes taken item new
    → (front : List ℕ) (given : List Item) → HasScanned front given old → HasScanned (front ++ take taken bytes) (given ++ option_to_list item) new
run_scanned old new bytes taken item r front given h = scanned_more front (take taken bytes) given (option_to_list item) old new r.after r.given h

-- and what it scans with one byte less
pub run_before : (old new : Scan) (bytes : List ℕ) (taken : ℕ) (item : Option Item) → Runs old bytes taken item new
    → (front : List ℕ) (given : List Item) → HasScanned front given old → HasScanned (front ++ take (taken - 1) bytes) given (scanned old (take (taken - 1) bytes))
run_before old new bytes taken item r front given h =
    let before = take (taken - 1) bytes in
    subst (λ g. HasScanned (front ++ take (taken - 1) bytes) g (scanned old (take (taken - 1) bytes))) (append-nil given)
    (scanned_more front before given [] old (scanned old before) refl r.nothing_before h)

pub run_given : (old new : Scan) (bytes : List ℕ) (taken : ℕ) (item : Option Item) → Runs old bytes taken item new
    → (front : List ℕ) (given : List Item) → HasScanned front given old → IsGiven (given ++ option_to_list item)
run_given old new bytes taken item r front given h =
    scanned_given (front ++ take taken bytes) (given ++ option_to_list item) new (run_scanned old new bytes taken item r front given h)

-- digits that go on with a number
pub digits_after : (scan : Scan) (place : Place) (value last : Option ℕ) (bytes : List ℕ) → scan.position ≡ Number place value → SpellsOn value bytes last
    → put scan (Number place last) ≡ scanned scan bytes
digits_after scan place value last bytes e h = sym (digits_scanned scan place value bytes last h) ∙ ap (λ p. scanned (put scan p) bytes) (sym e)

pub digits_nothing : (scan : Scan) (place : Place) (value last : Option ℕ) (bytes : List ℕ) → scan.position ≡ Number place value → SpellsOn value bytes last
    → given_all scan bytes ≡ []
digits_nothing scan place value last bytes e h = ap (λ p. given_all (put scan p) bytes) e ∙ digits_give scan place value bytes last h

-- ---- bytes behind a place that is not as wanted

failed_scanned : (s : Scan) (bytes : List ℕ) → scanned (put s Failed) bytes ≡ put s Failed
failed_scanned s [] = refl
failed_scanned s (byte ∷ bytes) = quiet_scanned (put s Failed) (put s Failed) byte Failed bytes refl (failed_scanned s bytes)

failed_gives : (s : Scan) (bytes : List ℕ) → given_all (put s Failed) bytes ≡ []
failed_gives s [] = refl
failed_gives s (byte ∷ bytes) = quiet_given (put s Failed) byte Failed bytes refl (failed_gives s bytes)

spoiled_scanned : (s : Scan) (bytes : List ℕ) → HasNoLineEnd bytes → scanned (put s Spoiled) bytes ≡ put s Spoiled
spoiled_scanned s [] h = refl
spoiled_scanned s (byte ∷ bytes) h = quiet_scanned (put s Spoiled) (put s Spoiled) byte Spoiled bytes (ap refusal h.0) (spoiled_scanned s bytes h.1)

spoiled_gives : (s : Scan) (bytes : List ℕ) → HasNoLineEnd bytes → given_all (put s Spoiled) bytes ≡ []
spoiled_gives s [] h = refl
spoiled_gives s (byte ∷ bytes) h = quiet_given (put s Spoiled) byte Spoiled bytes (ap refusal h.0) (spoiled_gives s bytes h.1)

pub failed_after : (scan : Scan) (bytes : List ℕ) → scan.position ≡ Failed → scan ≡ scanned scan bytes
failed_after scan bytes e =
    subst (λ p. put scan p ≡ scanned (put scan p) bytes) (sym e) (sym (failed_scanned scan bytes))

pub failed_nothing : (scan : Scan) (bytes : List ℕ) → scan.position ≡ Failed → given_all scan bytes ≡ []
failed_nothing scan bytes e = ap (λ p. given_all (put scan p) bytes) e ∙ failed_gives scan bytes

pub spoiled_after : (scan : Scan) (bytes : List ℕ) → scan.position ≡ Spoiled → HasNoLineEnd bytes → scan ≡ scanned scan bytes
spoiled_after scan bytes e h =
    subst (λ p. put scan p ≡ scanned (put scan p) bytes) (sym e) (sym (spoiled_scanned scan bytes h))

pub spoiled_nothing : (scan : Scan) (bytes : List ℕ) → scan.position ≡ Spoiled → HasNoLineEnd bytes → given_all scan bytes ≡ []
spoiled_nothing scan bytes e h = ap (λ p. given_all (put scan p) bytes) e ∙ spoiled_gives scan bytes h

is_no : (answer : Bool) → (answer ≡ true → ⊥) → answer ≡ false
is_no true h = absurd (h refl)
is_no false h = refl

-- the bytes before a place below which none ends a line
pub no_end_before : (bytes : List ℕ) (k : ℕ) → ((i : ℕ) → i < k → i < length bytes → slice_index bytes i == 10 ≡ true → ⊥) → HasNoLineEnd (take k bytes)
no_end_before bytes zero h = tt
no_end_before [] (suc k) h = tt
no_end_before (b ∷ bytes) (suc k) h =
    (is_no (b == 10) (h 0 (omega arith) (omega arith)), no_end_before bytes k (λ i low within. h (suc i) (omega (arith, low)) (omega (arith, within))))

pub no_end_found : (bytes : List ℕ) (found : Option ℕ) → IsFirstByte (is_byte 10) bytes found → HasNoLineEnd (take (unwrap_or found (length bytes)) bytes)
no_end_found bytes None h = no_end_before bytes (length bytes) (λ i low within. h i (omega arith) within)
no_end_found bytes (Some k) h = no_end_before bytes k (λ i low within. h.0.before i (omega arith) low)

-- what the test of an item says
pub none_of : {X : Type 0} (item : Option X) → is_some item ≡ false → item ≡ None
none_of None e = refl
none_of (Some x) e = cc

pub some_of : (item : Option Item) → is_some item ≡ true → item ≡ None → ⊥
some_of None e none = cc
some_of (Some x) e none = cc

-- digits behind digits, the first ones of what is left
spells_append : (first : Option ℕ) (front back : List ℕ) (mid last : Option ℕ) → SpellsOn first front mid → SpellsOn mid back last → SpellsOn first (front ++ back) last
spells_append first [] back mid last h k = subst (λ v. SpellsOn v back last) (sym h) k
spells_append first (b ∷ front) back mid last h k = (h.0, h.1, h.2, h.3, spells_append (Some h.0) front back mid last h.4 k)

pub spells_both : (first : Option ℕ) (bytes : List ℕ) (front back : ℕ) (mid last : Option ℕ) → SpellsOn first (take front bytes) mid
    → SpellsOn mid (take back (take (length bytes - front) (drop front bytes))) last → SpellsOn first (take (front + back) bytes) last
spells_both first bytes front back mid last h k =
    let long : length (drop front bytes) ≤ length bytes - front = omega (arith, length-drop front bytes) in
    let whole : take (length bytes - front) (drop front bytes) ≡ drop front bytes = take_all (length bytes - front) (drop front bytes) long in
    subst (λ l. SpellsOn first l last) (sym (take-add front back bytes))
    (spells_append first (take front bytes) (take back (drop front bytes)) mid last h (subst (λ l. SpellsOn mid (take back l) last) whole k))
