-- A file has no more tokens than bytes.
use Rattle.std.proofs.Common.{ℕ, ◌+◌, ◌≤◌, Bool, true, false, List, [], ◌∷◌, length, drop, arith, cond, length-drop}
use Rattle.text_spec.specs.Tokens.{Token, is_separator, begins_inside, with_byte, runs, mark_length, tokens_of}

with_byte_count : (joins : Bool) (place b : ℕ) (tokens : List Token) → length (with_byte joins place b tokens) ≤ length tokens + 1
with_byte_count true place b (t ∷ tokens) = omega arith
with_byte_count true place b [] = omega arith
with_byte_count false place b tokens = omega arith

either_count : (s : Bool) (m : ℕ) (ts us : List Token) → length ts ≤ m + 1 → length us ≤ m + 1 → length (cond s ts us) ≤ m + 1
either_count true m ts us h k = h
either_count false m ts us h k = k

runs_count : (place : ℕ) (bytes : List ℕ) → length (runs place bytes) ≤ length bytes
runs_count place [] = omega arith
runs_count place (b ∷ bytes) =
    let rest = runs_count (place + 1) bytes in
    let all = either_count (is_separator b) (length bytes) (runs (place + 1) bytes) (with_byte (begins_inside bytes) place b (runs (place + 1) bytes))
    (omega arith) (omega (arith, with_byte_count (begins_inside bytes) place b (runs (place + 1) bytes))) in
    omega arith

pub tokens_of_count : (bytes : List ℕ) → length (tokens_of bytes) ≤ length bytes
unfolding tokens_of
tokens_of_count bytes =
    omega (arith, runs_count (mark_length bytes) (drop (mark_length bytes) bytes), length-drop (mark_length bytes) bytes)
