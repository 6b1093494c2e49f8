-- What the tokens of a text are: the maximal runs of bytes between separators, each with its place, and the law that says so.
use Rattle.std.specs.Prelude.{◌≡◌, ℕ, ◌+◌, ◌<◌, ◌≤◌, Bool, true, false, not, if◌then◌else◌, ◌==◌, nat_eq, List, [], ◌∷◌, ◌++◌, map, length, drop, Contains, ◌↔◌, IsTrue, IsFalse}
use Rattle.std.specs.List.{list_any, starts_with}
use Rattle.std.specs.List.Sorted.{IsStrictlyIncreasing}

-- a token: its place, counted in bytes from the start of the file, and its bytes
abbrev pub Token : Type 0
Token = ℕ × List ℕ

-- space, tab, carriage return, line feed, comma or semicolon
unfoldable pub is_separator : ℕ → Bool
is_separator byte = list_any (λ s. byte == s) (32 ∷ 9 ∷ 13 ∷ 10 ∷ 44 ∷ 59 ∷ [])

-- the three bytes of the byte order mark of UTF-8
abbrev pub byte_order_mark : List ℕ
byte_order_mark = 239 ∷ 187 ∷ 191 ∷ []

-- how many bytes a byte order mark at the start of the file takes
abbrev pub mark_length : List ℕ → ℕ
mark_length bytes = if starts_with nat_eq bytes byte_order_mark then 3 else 0

-- the bytes begin inside a token: there is a first one, and it is no separator
abbrev pub begins_inside : List ℕ → Bool
begins_inside [] = false
begins_inside (b ∷ bytes) = not (is_separator b)

-- the bytes end outside a token: there are none, or the last one is a separator
abbrev pub ends_outside : List ℕ → Bool
ends_outside [] = true
ends_outside (b ∷ []) = is_separator b
ends_outside (b ∷ c ∷ bytes) = ends_outside (c ∷ bytes)

-- the tokens with a byte before them, which joins the first token or is one of its own
abbrev pub with_byte : Bool → ℕ → ℕ → List Token → List Token
with_byte true place b (t ∷ tokens) = (place, b ∷ t.1) ∷ tokens
with_byte joins place b tokens = (place, b ∷ []) ∷ tokens

-- the tokens of the bytes, of which the first stands at the place
abbrev pub runs : ℕ → List ℕ → List Token
runs place [] = []
runs place (b ∷ bytes) = if is_separator b then runs (place + 1) bytes else with_byte (begins_inside bytes) place b (runs (place + 1) bytes)

-- the tokens of a whole file, without the byte order mark
unfoldable pub tokens_of : List ℕ → List Token
tokens_of bytes = runs (mark_length bytes) (drop (mark_length bytes) bytes)

-- The text is a maximal run between separators, at that place of the file: not empty, with no separator in it,
-- behind the start (or the mark) or a separator, and before the end or a separator.
pub record IsRun (bytes : List ℕ) (place : ℕ) (text : List ℕ) : Type 0 where
  pub front : List ℕ
  pub rest : List ℕ
  pub whole : bytes ≡ front ++ text ++ rest
  pub at : length front ≡ place
  pub past_mark : mark_length bytes ≤ place
  pub behind : IsTrue (ends_outside (drop (mark_length bytes) front))
  pub some : 0 < length text
  pub inside : IsFalse (list_any is_separator text)
  pub before : IsFalse (begins_inside rest)

-- the law: the tokens are just the maximal runs, in order
abbrev pub TokensAreRuns : Type 0
TokensAreRuns = (bytes : List ℕ)
    → ((place : ℕ) (text : List ℕ) → Contains (tokens_of bytes) (place, text) ↔ IsRun bytes place text)
    × IsStrictlyIncreasing (map (λ t. t.0) (tokens_of bytes))
