-- Letters of the first word of a line, and the whole word.
use Rattle.std.proofs.Common.{◌≡◌, ℕ, ◌+◌, ◌<◌, ◌&&◌, List, [], ◌∷◌, ◌++◌, length, get_or, nat_eq, nat_lt, refl, sym, ap, ◌∙◌, arith, zero, suc, ◌≤◌, false, take, Some, None}
use Rattle.std.proofs.lemmas.Bool.{cond-true, and_from, lt-ltb, eq-eqb, ltb-true}
use Rattle.cert_scan.specs.Moves.{move, keyword_of, moved_by, head_at, first_place_of, begun_as, spoiled_by, behind_keyword_by, turned_by, turned_or, first_number_by}
use Rattle.cert_scan.specs.Scans.{put, scanned, given_all, sifted, moved}
use Rattle.cert_scan.specs.Runs.{GoesOn, Takes}
use Rattle.cert_scan.proofs.ScanBytes.{quiet_scanned, quiet_given, quiet_step, quiet_gives}
use Rattle.cert_scan.specs.declared.bytes.Position.TheVariants.{Keyword, Start, Number}
use Rattle.cert_scan.specs.declared.heads.Head.{Head}
use Rattle.cert_scan.specs.declared.stages.Shape.{Shape}
use Rattle.cert_scan.specs.declared.scanner.Scan.{Scan}
use Rattle.std.specs.Prelude.{None, option_to_list, if◌then◌else◌}
use Rattle.std.proofs.lemmas.List.{length-take-le}
use Rattle.std.proofs.lemmas.Option.{none-some}
use Rattle.hub_spec.proofs.SumLemmas.{by_test}
use Rattle.cert_scan.proofs.Stepping.{HasRun, run_byte, takes_nothing}
use Rattle.cert_scan.specs.declared.heads.Head.TheVariants.{VersionLine}
use Rattle.cert_scan.specs.declared.places.Place.{Place}
use Rattle.cert_scan.specs.declared.stages.Stage.{Stage}
use Rattle.cert_scan.specs.declared.stages.Stage.TheVariants.{Nothing}

-- one letter more
pub letters_more : (word : List ℕ) (matched : ℕ) (bytes : List ℕ) (byte : ℕ) → GoesOn word matched bytes → matched + length bytes < length word
    → byte ≡ get_or word (matched + length bytes) 0 → GoesOn word matched (bytes ++ byte ∷ [])
letters_more word matched [] byte h low is = (omega arith, is ∙ ap (λ k. get_or word k 0) (let none : matched + 0 ≡ matched = omega arith in none), tt)
letters_more word matched (b ∷ bytes) byte h low is =
    let next : matched + length (b ∷ bytes) ≡ matched + 1 + length bytes = omega arith in
    (h.0, h.1, letters_more word (matched + 1) bytes byte h.2 (omega (arith, low)) (is ∙ ap (λ k. get_or word k 0) next))

letter_moves : (sh : Shape) (head : Head) (matched byte : ℕ) → matched < length (keyword_of head) → byte ≡ get_or (keyword_of head) matched 0
    → moved_by sh (Keyword head matched) byte ≡ move (Keyword head (matched + 1)) None
letter_moves sh head matched byte low is =
    cond-true (nat_lt matched (length (keyword_of head)) && nat_eq byte (get_or (keyword_of head) matched 0)) _ _
    (and_from (nat_lt matched (length (keyword_of head))) (nat_eq byte (get_or (keyword_of head) matched 0)) (lt-ltb matched (length (keyword_of head)) low)
    (eq-eqb byte (get_or (keyword_of head) matched 0) is))

pub letters_scanned : (s : Scan) (head : Head) (matched : ℕ) (bytes : List ℕ) → GoesOn (keyword_of head) matched bytes
    → scanned (put s (Keyword head matched)) bytes ≡ put s (Keyword head (matched + length bytes))
letters_scanned s head matched [] h = ap (λ k. put s (Keyword head k)) (let none : matched ≡ matched + 0 = omega arith in none)
letters_scanned s head matched (byte ∷ bytes) h =
    let next : matched + 1 + length bytes ≡ matched + length (byte ∷ bytes) = omega arith in
    quiet_scanned (put s (Keyword head matched)) (put s (Keyword head (matched + length (byte ∷ bytes)))) byte (Keyword head (matched + 1)) bytes
    (letter_moves s.shape head matched byte h.0 h.1) (letters_scanned s head (matched + 1) bytes h.2 ∙ ap (λ k. put s (Keyword head k)) next)

pub letters_give : (s : Scan) (head : Head) (matched : ℕ) (bytes : List ℕ) → GoesOn (keyword_of head) matched bytes → given_all (put s (Keyword head matched)) bytes ≡ []
letters_give s head matched [] h = refl
letters_give s head matched (byte ∷ bytes) h =
    quiet_given (put s (Keyword head matched)) byte (Keyword head (matched + 1)) bytes (letter_moves s.shape head matched byte h.0 h.1)
    (letters_give s head (matched + 1) bytes h.2)

-- letters that go on with the first word
pub letters_after : (s : Scan) (head : Head) (matched count : ℕ) (bytes : List ℕ) → s.position ≡ Keyword head matched → GoesOn (keyword_of head) matched bytes
    → length bytes ≡ count → put s (Keyword head (matched + count)) ≡ scanned s bytes
letters_after s head matched count bytes e h long =
    ap (λ k. put s (Keyword head (matched + k))) (sym long) ∙ sym (letters_scanned s head matched bytes h) ∙ ap (λ p. scanned (put s p) bytes) (sym e)

pub letters_nothing : (s : Scan) (head : Head) (matched : ℕ) (bytes : List ℕ) → s.position ≡ Keyword head matched → GoesOn (keyword_of head) matched bytes
    → given_all s bytes ≡ []
letters_nothing s head matched bytes e h = ap (λ p. given_all (put s p) bytes) e ∙ letters_give s head matched bytes h

-- a line begins as its first word does
start_moves : (sh : Shape) (stage : Stage) (head : Head) (byte : ℕ) → head_at sh.version stage byte ≡ Some head → moved_by sh (Start stage) byte ≡ moved_by sh (Keyword head 0) byte
start_moves sh Nothing head byte e = absurd (none-some head e)
start_moves sh stage head byte e = ap (λ h. begun_as sh.version h byte) e

keyword_some : (head : Head) → 1 ≤ length (keyword_of head)
keyword_some VersionLine = omega arith
keyword_some head = omega arith

-- the letters of the whole word
pub word_run : (old : Scan) (stage : Stage) (head : Head) (bytes : List ℕ) (count : ℕ) → old.position ≡ Start stage → head_at old.shape.version stage (get_or bytes 0 0) ≡ Some head
    → GoesOn (keyword_of head) 0 (take count bytes) → 1 ≤ count → count ≤ length bytes → HasRun old bytes count (put old (Keyword head count))
word_run old stage head [] count at e letters some fits = absurd (omega (arith, some, fits))
word_run old stage head (b ∷ bytes) zero at e letters some fits = absurd (omega (arith, some))
word_run old stage head (b ∷ bytes) (suc n) at e letters some fits =
    let rest = take n bytes in
    let begins : moved_by old.shape old.position b ≡ moved_by old.shape (Keyword head 0) b = ap (λ p. moved_by old.shape p b) at ∙ start_moves old.shape stage head b e in
    let long : 0 + length (take (suc n) (b ∷ bytes)) ≡ suc n = ap (λ k. 0 + k) (length-take-le (suc n) (b ∷ bytes) fits) ∙ omega arith in
    record {
      within = fits;
      after = ap (λ k. put old (Keyword head k)) (sym long) ∙ sym (letters_scanned old head 0 (b ∷ rest) letters) ∙ ap (λ m. scanned (moved old m) rest) (sym begins);
      nothing = ap (λ m. option_to_list (sifted old m).item ++ given_all (moved old m) rest) begins ∙ letters_give old head 0 (b ∷ rest) letters;
    }

-- the space behind it
space_moves : (sh : Shape) (head : Head) (matched : ℕ) (place : Place) → length (keyword_of head) ≤ matched → first_place_of head ≡ Some place
    → moved_by sh (Keyword head matched) 32 ≡ move (Number place None) None
space_moves sh head matched place full first =
    let word = keyword_of head in
    let all : nat_lt matched (length (keyword_of head)) ≡ false =
    by_test (nat_lt matched (length (keyword_of head))) (λ low. absurd (omega (arith, ltb-true matched (length (keyword_of head)) low, full))) (λ e. e) in
    ap (λ b. if b && nat_eq 32 (get_or word matched 0) then move (Keyword head (matched + 1)) None else turned_or (turned_by sh.version head matched 32) head matched 32) all
    ∙ ap (λ b. if b then spoiled_by 32 else behind_keyword_by head 32) all ∙ ap first_number_by first

pub space_run : (old : Scan) (head : Head) (place : Place) (bytes : List ℕ) (count : ℕ) → HasRun old bytes count (put old (Keyword head count))
    → first_place_of head ≡ Some place → length (keyword_of head) ≤ count → count < length bytes → get_or bytes count 0 ≡ 32
    → HasRun old bytes (count + 1) (put old (Number place None))
space_run old head place bytes count letters first full fits space =
    let spaced = put old (Keyword head count) in
    let moves = space_moves old.shape head count place full first in
    run_byte old spaced (put old (Number place None)) bytes count 32 None letters fits (sym space)
    (sym (quiet_gives spaced 32 (Number place None) moves)) (sym (quiet_step spaced 32 (Number place None) moves)) refl

-- the first word of a line that begins, with the space behind it
pub word_goes : (old : Scan) (stage : Stage) (head : Head) (place : Place) (bytes : List ℕ) (count : ℕ) → old.position ≡ Start stage
    → head_at old.shape.version stage (get_or bytes 0 0) ≡ Some head → first_place_of head ≡ Some place → GoesOn (keyword_of head) 0 (take count bytes)
    → length (keyword_of head) ≤ count → count < length bytes → get_or bytes count 0 ≡ 32 → HasRun old bytes (count + 1) (put old (Number place None))
word_goes old stage head place bytes count at e first letters full fits space =
    let letters_run = word_run old stage head bytes count at e letters (omega (arith, keyword_some head, full)) (omega (arith, fits)) in
    space_run old head place bytes count letters_run first full fits space

pub takes_word : (old : Scan) (stage : Stage) (head : Head) (place : Place) (bytes : List ℕ) (count : ℕ) → old.position ≡ Start stage
    → head_at old.shape.version stage (get_or bytes 0 0) ≡ Some head → first_place_of head ≡ Some place → GoesOn (keyword_of head) 0 (take count bytes)
    → length (keyword_of head) ≤ count → count < length bytes → get_or bytes count 0 ≡ 32 → Takes old bytes (count + 1) None (put old (Number place None))
takes_word old stage head place bytes count at e first letters full fits space =
    takes_nothing old (put old (Number place None)) bytes (count + 1) (omega arith) (word_goes old stage head place bytes count at e first letters full fits space)
