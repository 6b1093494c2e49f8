-- What the tokens of a made-up text say, counted from 1 as in a file.
use Rattle.std.proofs.Common.{◌≡◌, ℕ, ◌+◌, ◌-◌, ◌*◌, ◌/◌, ◌%◌, ◌^◌, ◌<◌, ◌≤◌, List, [], ◌∷◌, ◌++◌, map, flat_map, length, All, codes, decimal, Option, Some, None, option_map, refl, sym, ap, ◌∙◌, get_or, drop, append_assoc, mul-le-mul, arith}
use Rattle.std.specs.List.{slice_get}
use Rattle.std.proofs.lemmas.Bool.{ne_eqb}
use Rattle.std.proofs.lemmas.List.FromFn.{length-map-range_with_len}
use Rattle.std.proofs.lemmas.List.{length-map}
use Rattle.std.proofs.lemmas.List.Elements.{All-nil, All-cons, All-append, All-from_get_or, All-map, All-weaker}
use Rattle.std.proofs.lemmas.Option.{slice_get-map}
use Rattle.text_spec.specs.Tokens.{Token, mark_length, runs, tokens_of, is_separator}
use Rattle.file_spec.specs.Places.{token_at}
use Rattle.hub_make.specs.Numbers.{nodes, made_x, made_y, made_flow, made_cost}
use Rattle.hub_make.specs.Texts.{number_words, coordinate_words, flow_words, cost_words, made_lines, line_text, made_text}
use Rattle.hub_make.proofs.Decimals.{IsToken, decimal_token, trunk_token, begins_with_digit}
use Rattle.hub_make.proofs.TokenTexts.{texts, IsLine, texts_lines, line_lengths}
use Rattle.hub_make.proofs.WordPlaces.{made_words, words_length, size_word, x_word, y_word, flow_word, last_word, cost_word, no_word}

-- ---- the lines have words, and each is a token

numbers_line : (numbers : List ℕ) → 0 < length numbers → All (λ n. n < 10 ^ 20) numbers → IsLine (number_words numbers)
numbers_line numbers some small = record {
  some = omega (arith, length-map numbers decimal, some);
  each = All-map IsToken decimal numbers (All-weaker (λ n. n < 10 ^ 20) (λ n. IsToken (decimal n)) decimal_token numbers small);
}

formula_line : (f : ℕ → ℕ) (n : ℕ) → 1 ≤ n → ((i : ℕ) → f i < 10 ^ 20) → IsLine (number_words (map f (nodes n)))
formula_line f n one small = numbers_line (map f (nodes n)) (omega (arith, length-map-range_with_len f 1 n))
    (All-map (λ n. n < 10 ^ 20) f (nodes n) (all_of f (nodes n) small))
  where
    all_of : (f : ℕ → ℕ) (xs : List ℕ) → ((i : ℕ) → f i < 10 ^ 20) → All (λ i. f i < 10 ^ 20) xs
    all_of f xs small = All-from_get_or (λ i. f i < 10 ^ 20) xs 0 (λ k h. small (get_or xs k 0))

word_line : (word : List ℕ) → IsToken word → IsLine (word ∷ [])
word_line word is = record { some = omega arith; each = All-cons IsToken word [] is (All-nil IsToken) }

pub x_small : (seed i : ℕ) → made_x seed i < 1000
x_small seed i = omega arith

pub y_small : (seed i : ℕ) → made_y seed i < 1000
y_small seed i = omega arith

pub flow_small : (seed i j : ℕ) → made_flow seed i j ≤ 9
flow_small seed i j = omega arith

pub cost_small : (seed n i : ℕ) → n ≤ 200 → made_cost seed n i ≤ 100600
cost_small seed n i h = omega arith

coordinate_line : (seed i : ℕ) → IsLine (coordinate_words seed i)
coordinate_line seed i = numbers_line (made_x seed i ∷ made_y seed i ∷ []) (omega arith)
    (All-cons (λ n. n < 10 ^ 20) (made_x seed i) (made_y seed i ∷ []) (omega (arith, x_small seed i))
    (All-cons (λ n. n < 10 ^ 20) (made_y seed i) [] (omega (arith, y_small seed i)) (All-nil (λ n. n < 10 ^ 20))))

each_line : (words : ℕ → List (List ℕ)) (n : ℕ) → ((i : ℕ) → IsLine (words i)) → All IsLine (map words (nodes n))
each_line words n is = All-map IsLine words (nodes n) (All-from_get_or (λ i. IsLine (words i)) (nodes n) 0 (λ k h. is (get_or (nodes n) k 0)))

one_token : IsToken (codes "1")
unfolding is_separator
one_token = record { some = omega arith; inside = refl; short = omega arith }

two_token : IsToken (codes "2")
unfolding is_separator
two_token = record { some = omega arith; inside = refl; short = omega arith }

three_token : IsToken (codes "3")
unfolding is_separator
three_token = record { some = omega arith; inside = refl; short = omega arith }

are_lines : (seed n : ℕ) → 1 ≤ n → n ≤ 200 → All IsLine (made_lines seed n)
are_lines seed n one few =
    let points = map (coordinate_words seed) (nodes n) in
    let flows = map (flow_words seed n) (nodes n) in
    let costs : IsLine (cost_words seed n) = formula_line (made_cost seed n) n one (λ i. omega (arith, cost_small seed n i few)) in
    let fifth : List (List (List ℕ)) = cost_words seed n ∷ [] in
    let fourth : List (List (List ℕ)) = (codes "2" ∷ []) ∷ fifth in
    let third : List (List (List ℕ)) = (codes "0.75" ∷ []) ∷ fourth in
    let second : List (List (List ℕ)) = (codes "3" ∷ []) ∷ third in
    let last : List (List (List ℕ)) = (codes "1" ∷ []) ∷ second in
    let last_are : All IsLine last =
    All-cons IsLine (codes "1" ∷ []) second (word_line (codes "1") one_token)
    (All-cons IsLine (codes "3" ∷ []) third (word_line (codes "3") three_token)
    (All-cons IsLine (codes "0.75" ∷ []) fourth (word_line (codes "0.75") trunk_token)
    (All-cons IsLine (codes "2" ∷ []) fifth (word_line (codes "2") two_token)
    (All-cons IsLine (cost_words seed n) [] costs (All-nil IsLine))))) in
    All-cons IsLine (decimal n ∷ []) (points ++ (flows ++ last)) (word_line (decimal n) (decimal_token n (omega arith)))
    (All-append IsLine points (flows ++ last) (each_line (coordinate_words seed) n (coordinate_line seed))
    (All-append IsLine flows last (each_line (flow_words seed n) n (λ i. formula_line (made_flow seed i) n one (λ j. omega (arith, flow_small seed i j)))) last_are))

pub text_length : (seed n : ℕ) → 1 ≤ n → n ≤ 200 → length (made_text seed n) ≤ 67108864
unfolding made_text
text_length seed n one few =
    let square : n * n ≤ 200 * 200 = mul-le-mul few few in
    omega (arith, line_lengths (made_lines seed n) (are_lines seed n one few), words_length seed n, square)

-- ---- the tokens

no_mark : (first : ℕ) (rest : List ℕ) → first ≤ 57 → mark_length (first ∷ rest) ≡ 0
no_mark first rest h = rw (ne_eqb 239 first (λ e. omega arith)) refl

tokens_begin : (bytes behind word : List ℕ) → bytes ≡ word ++ behind → (first : ℕ) × (rest : List ℕ) × (word ≡ first ∷ rest) × (first ≤ 57)
    → tokens_of bytes ≡ runs 0 bytes
unfolding tokens_of
tokens_begin bytes behind word e begins =
    let whole : bytes ≡ begins.0 ∷ (begins.1 ++ behind) = e ∙ ap (λ w. w ++ behind) begins.2 in
    let none : mark_length bytes ≡ 0 = ap mark_length whole ∙ no_mark begins.0 (begins.1 ++ behind) begins.3 in
    ap (λ k. runs k (drop k bytes)) none

pub texts_are : (seed n : ℕ) → 1 ≤ n → n ≤ 200 → texts (tokens_of (made_text seed n)) ≡ made_words seed n
unfolding made_text
texts_are seed n one few =
    let lines = map (coordinate_words seed) (nodes n) ++ (map (flow_words seed n) (nodes n)
    ++ (codes "1" ∷ []) ∷ (codes "3" ∷ []) ∷ (codes "0.75" ∷ []) ∷ (codes "2" ∷ []) ∷ cost_words seed n ∷ []) in
    ap texts (tokens_begin (flat_map line_text (made_lines seed n)) (10 ∷ flat_map line_text lines) (decimal n)
    (append_assoc (decimal n) (10 ∷ []) (flat_map line_text lines)) (begins_with_digit n (omega arith)))
    ∙ texts_lines 0 (made_lines seed n) (are_lines seed n one few)

-- token t has these bytes
abbrev pub says : List Token → ℕ → List ℕ → Type 0
says tokens t word = option_map (λ (k : Token). k.1) (token_at tokens t) ≡ Some word

-- what the tokens of a made-up text say
pub record SaysMade (seed n : ℕ) (tokens : List Token) : Type 0 where
  pub size : says tokens 1 (decimal n)
  pub x : (i : ℕ) → i < n → says tokens (2 + 2 * i) (decimal (made_x seed (i + 1)))
  pub y : (i : ℕ) → i < n → says tokens (3 + 2 * i) (decimal (made_y seed (i + 1)))
  pub flow : (s : ℕ) → s < n * n → says tokens (2 + 2 * n + s) (decimal (made_flow seed (s / n + 1) (s % n + 1)))
  pub hubs : says tokens (2 + 2 * n + n * n) (codes "1")
  pub collect : says tokens (3 + 2 * n + n * n) (codes "3")
  pub trunk : says tokens (4 + 2 * n + n * n) (codes "0.75")
  pub deliver : says tokens (5 + 2 * n + n * n) (codes "2")
  pub cost : (k : ℕ) → k < n → says tokens (6 + 2 * n + n * n + k) (decimal (made_cost seed n (k + 1)))
  pub past : (t : ℕ) → 6 + 3 * n + n * n ≤ t → token_at tokens t ≡ None

at_place : (tokens : List Token) (words : List (List ℕ)) (word : List ℕ) (t : ℕ) → texts tokens ≡ words → slice_get words (t - 1) ≡ Some word → says tokens t word
at_place tokens words word t e h =
    sym (slice_get-map (λ (k : Token). k.1) tokens (t - 1)) ∙ ap (λ ws. slice_get ws (t - 1)) e ∙ h

none_of : (token : Option Token) → option_map (λ (k : Token). k.1) token ≡ None → token ≡ None
none_of None e = refl
none_of (Some token) e = cc

pub says_made : (seed n : ℕ) → 1 ≤ n → n ≤ 200 → SaysMade seed n (tokens_of (made_text seed n))
says_made seed n one few =
    let tokens = tokens_of (made_text seed n) in
    let words = made_words seed n in
    let same = texts_are seed n one few in
    record {
      size = at_place tokens words (decimal n) 1 same (size_word seed n);
      x = λ i h. at_place tokens words _ (2 + 2 * i) same (x_word seed n (2 + 2 * i - 1) i (omega arith) h);
      y = λ i h. at_place tokens words _ (3 + 2 * i) same (y_word seed n (3 + 2 * i - 1) i (omega arith) h);
      flow = λ s h. at_place tokens words _ (2 + 2 * n + s) same (flow_word seed n (2 + 2 * n + s - 1) s (omega arith) one h);
      hubs = at_place tokens words _ (2 + 2 * n + n * n) same (last_word seed n (2 + 2 * n + n * n - 1) 0 (omega arith));
      collect = at_place tokens words _ (3 + 2 * n + n * n) same (last_word seed n (3 + 2 * n + n * n - 1) 1 (omega arith));
      trunk = at_place tokens words _ (4 + 2 * n + n * n) same (last_word seed n (4 + 2 * n + n * n - 1) 2 (omega arith));
      deliver = at_place tokens words _ (5 + 2 * n + n * n) same (last_word seed n (5 + 2 * n + n * n - 1) 3 (omega arith));
      cost = λ k h. at_place tokens words _ (6 + 2 * n + n * n + k) same (cost_word seed n (6 + 2 * n + n * n + k - 1) k (omega arith) h);
      past = λ t h. none_of (token_at tokens t)
          (sym (slice_get-map (λ (k : Token). k.1) tokens (t - 1)) ∙ ap (λ ws. slice_get ws (t - 1)) same ∙ no_word seed n (t - 1) (omega arith));
    }
