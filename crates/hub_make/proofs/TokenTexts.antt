-- The tokens of lines of words are just the words.
use Rattle.std.proofs.Common.{◌≡◌, ℕ, ◌+◌, ◌*◌, ◌<◌, ◌≤◌, true, false, List, [], ◌∷◌, ◌++◌, map, flat_map, length, All, refl, ap, ◌∙◌, append_assoc, length-append, not, arith}
use Rattle.std.specs.List.{list_any, join_with_byte}
use Rattle.std.proofs.lemmas.Bool.{cond-true, cond-false, or_parts}
use Rattle.std.proofs.lemmas.List.Elements.{All-head, All-tail}
use Rattle.text_spec.specs.Tokens.{Token, is_separator, with_byte, runs}
use Rattle.hub_make.specs.Texts.{line_text}
use Rattle.hub_make.proofs.Decimals.{IsToken}

-- the bytes of the tokens, without their places
abbrev pub texts : List Token → List (List ℕ)
texts tokens = map (λ (t : Token). t.1) tokens

-- a line that has a word, each of which is a token
pub record IsLine (words : List (List ℕ)) : Type 0 where
  pub some : 0 < length words
  pub each : All IsToken words

-- a word in front of a separator is the first token
runs_word : (place b separator : ℕ) (word rest : List ℕ) → is_separator b ≡ false → list_any is_separator word ≡ false → is_separator separator ≡ true
    → (next : ℕ) × (runs place (b ∷ (word ++ (separator ∷ rest))) ≡ (place, b ∷ word) ∷ runs next rest)
runs_word place b separator [] rest e inside sep =
    let last : runs (place + 1) (separator ∷ rest) ≡ runs (place + 1 + 1) rest = cond-true (is_separator separator) _ _ sep in (
      place + 1 + 1,
      cond-false (is_separator b) _ _ e
          ∙ ap (λ s. with_byte (not s) place b (runs (place + 1) (separator ∷ rest))) sep
          ∙ ap (λ ts. (place, b ∷ []) ∷ ts) last,
    )
runs_word place b separator (c ∷ word) rest e inside sep =
    let parts = or_parts (is_separator c) (list_any is_separator word) inside in
    let more = runs_word (place + 1) c separator word rest parts.0 parts.1 sep in (
      more.0,
      cond-false (is_separator b) _ _ e
          ∙ ap (λ s. with_byte (not s) place b (runs (place + 1) (c ∷ (word ++ (separator ∷ rest))))) parts.0
          ∙ ap (λ ts. with_byte true place b ts) more.1,
    )

texts_word : (place separator : ℕ) (word rest : List ℕ) → IsToken word → is_separator separator ≡ true
    → (next : ℕ) × (texts (runs place (word ++ (separator ∷ rest))) ≡ word ∷ texts (runs next rest))
texts_word place separator [] rest is sep = absurd (omega (arith, is.some))
texts_word place separator (b ∷ word) rest is sep =
    let parts = or_parts (is_separator b) (list_any is_separator word) is.inside in
    let first = runs_word place b separator word rest parts.0 parts.1 sep in
    (first.0, ap texts first.1)

space_separates : is_separator 32 ≡ true
unfolding is_separator
space_separates = refl

line_feed_separates : is_separator 10 ≡ true
unfolding is_separator
line_feed_separates = refl

texts_line : (place : ℕ) (word : List ℕ) (words : List (List ℕ)) (rest : List ℕ) → All IsToken (word ∷ words)
    → (next : ℕ) × (texts (runs place (line_text (word ∷ words) ++ rest)) ≡ (word ∷ words) ++ texts (runs next rest))
texts_line place word [] rest each =
    let first = texts_word place 10 word rest (All-head IsToken word [] each) line_feed_separates in
    (first.0, ap (λ bs. texts (runs place bs)) (append_assoc word (10 ∷ []) rest) ∙ first.1)
texts_line place word (next ∷ words) rest each =
    let behind = line_text (next ∷ words) ++ rest in
    let first = texts_word place 32 word behind (All-head IsToken word (next ∷ words) each) space_separates in
    let more = texts_line first.0 next words rest (All-tail IsToken word (next ∷ words) each) in
    let joined = join_with_byte 32 (next ∷ words) in
    let same : line_text (word ∷ next ∷ words) ++ rest ≡ word ++ (32 ∷ behind) =
    ap (λ bs. bs ++ rest) (append_assoc word (32 ∷ joined) (10 ∷ [])) ∙ append_assoc word (32 ∷ (joined ++ 10 ∷ [])) rest in
    (more.0, ap (λ bs. texts (runs place bs)) same ∙ first.1 ∙ ap (λ ws. word ∷ ws) more.1)

texts_one : (place : ℕ) (words : List (List ℕ)) (rest : List ℕ) → IsLine words
    → (next : ℕ) × (texts (runs place (line_text words ++ rest)) ≡ words ++ texts (runs next rest))
texts_one place [] rest is = absurd (omega (arith, is.some))
texts_one place (word ∷ words) rest is = texts_line place word words rest is.each

-- the words of lines one after the other
abbrev pub all_words : List (List (List ℕ)) → List (List ℕ)
all_words lines = flat_map (λ words. words) lines

pub texts_lines : (place : ℕ) (lines : List (List (List ℕ))) → All IsLine lines → texts (runs place (flat_map line_text lines)) ≡ all_words lines
texts_lines place [] each = refl
texts_lines place (words ∷ lines) each =
    let first = texts_one place words (flat_map line_text lines) (All-head IsLine words lines each) in
    first.1 ∙ ap (λ ws. words ++ ws) (texts_lines first.0 lines (All-tail IsLine words lines each))

-- ---- how long the lines are

word_lengths : (words : List (List ℕ)) → All IsToken words → 0 < length words → length (line_text words) ≤ 41 * length words
word_lengths [] each some = absurd (omega (arith, some))
word_lengths (word ∷ []) each some =
    let one = All-head IsToken word [] each in
    omega (arith, one.short, length-append word (10 ∷ []))
word_lengths (word ∷ next ∷ words) each some =
    let one = All-head IsToken word (next ∷ words) each in
    let joined = join_with_byte 32 (next ∷ words) in
    let rest = word_lengths (next ∷ words) (All-tail IsToken word (next ∷ words) each) (omega arith) in
    let whole = length-append (word ++ (32 ∷ joined)) (10 ∷ []) in
    let front = length-append word (32 ∷ joined) in
    let behind = length-append joined (10 ∷ []) in
    omega (arith, one.short, rest, whole, front, behind)

pub line_lengths : (lines : List (List (List ℕ))) → All IsLine lines → length (flat_map line_text lines) ≤ 41 * length (all_words lines)
line_lengths [] each = omega arith
line_lengths (words ∷ lines) each =
    let one = All-head IsLine words lines each in
    let first = word_lengths words one.each one.some in
    let rest = line_lengths lines (All-tail IsLine words lines each) in
    omega (arith, first, rest, length-append (line_text words) (flat_map line_text lines), length-append words (all_words lines))
