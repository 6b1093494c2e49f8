-- Where a number stands in a list.
use Rattle.std.proofs.Common.{◌≡◌, ◌≢◌, ℕ, ◌<◌, true, nat_lt, nat_eq, List, length, get_or, Option, None, Some, refl, sym, ap, ◌∙◌, ⊎_elim, arith}
use Rattle.std.specs.List.{position, position_or_len}
use Rattle.std.proofs.lemmas.Bool.{cases_Bool, cond-true, ltb-false, eqb-true, eq-eqb}
use Rattle.std.proofs.lemmas.List.Quantifiers.{position-Some}
use Rattle.std.proofs.lemmas.List.Sums.{fails_before_first}

-- no two places of the list have the same number
abbrev pub IsOnce : List ℕ → Type 0
IsOnce places = (r s : ℕ) → r < length places → s < length places → get_or places r 0 ≡ get_or places s 0 → r ≡ s

-- the place that is found has the number
pub found_is : (places : List ℕ) (c r : ℕ) → position (nat_eq c) places ≡ Some r → (r < length places) × (get_or places r 0 ≡ c)
found_is places c r e =
    let found = position-Some (nat_eq c) places r 0 e in
    (found.0, sym (eqb-true c (get_or places r 0) found.1))

-- no place of the list has the number that is not found
pub not_found : (places : List ℕ) (c r : ℕ) → position (nat_eq c) places ≡ None → r < length places → get_or places r 0 ≢ c
not_found places c r none low at =
    let p = position_or_len (nat_eq c) places in
    ⊎_elim
    (λ (some : nat_lt p (length places) ≡ true). let here : Some p ≡ None = sym (cond-true (nat_lt p (length places)) (Some p) None some) ∙ none in absurd (cc))
    (λ past.
    let more = ltb-false p (length places) past in
    let fails = fails_before_first (nat_eq c) places r 0 (omega arith) in
    let passes = eq-eqb c (get_or places r 0) (sym at) in
    absurd (cc))
    (cases_Bool (nat_lt p (length places)))

-- where each number stands once, each is found at its place
found_by : (places : List ℕ) (i : ℕ) (o : Option ℕ) → IsOnce places → i < length places → position (nat_eq (get_or places i 0)) places ≡ o → o ≡ Some i
found_by places i None once low e = absurd (not_found places (get_or places i 0) i e low refl)
found_by places i (Some r) once low e =
    let found = found_is places (get_or places i 0) r e in
    ap Some (once r i found.0 low found.1)

pub found_at : (places : List ℕ) (i : ℕ) → IsOnce places → i < length places → position (nat_eq (get_or places i 0)) places ≡ Some i
found_at places i once low = found_by places i (position (nat_eq (get_or places i 0)) places) once low refl
