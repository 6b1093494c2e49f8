-- How the tokens of bytes come in turn: separators are passed over, and then the first token is the bytes up to the next one.
use Rattle.std.proofs.Common.{◌≡◌, ℕ, zero, suc, ◌+◌, ◌-◌, ◌<◌, Bool, true, false, not, List, [], ◌∷◌, take, drop, refl, sym, ◌∙◌, ap, ap₂, arith, drop-drop}
use Rattle.std.specs.List.{prefix_len, position_or_len}
use Rattle.std.proofs.lemmas.Bool.{cond-true, cond-false, not_from_true, not_from_false}
use Rattle.text_spec.specs.Tokens.{is_separator, begins_inside, with_byte, runs}

runs_separator : (place b : ℕ) (bytes : List ℕ) → is_separator b ≡ true → runs place (b ∷ bytes) ≡ runs (place + 1) bytes
runs_separator place b bytes e = cond-true (is_separator b) _ _ e

runs_inside : (place b : ℕ) (bytes : List ℕ) → is_separator b ≡ false → runs place (b ∷ bytes) ≡ with_byte (begins_inside bytes) place b (runs (place + 1) bytes)
runs_inside place b bytes e = cond-false (is_separator b) _ _ e

separators_more : (b : ℕ) (bytes : List ℕ) → is_separator b ≡ true → prefix_len is_separator (b ∷ bytes) ≡ suc (prefix_len is_separator bytes)
separators_more b bytes e = cond-true (is_separator b) _ _ e ∙ omega arith

separators_none : (b : ℕ) (bytes : List ℕ) → is_separator b ≡ false → prefix_len is_separator (b ∷ bytes) ≡ 0
separators_none b bytes e = cond-false (is_separator b) _ _ e

token_more : (b : ℕ) (bytes : List ℕ) → is_separator b ≡ false → position_or_len is_separator (b ∷ bytes) ≡ suc (position_or_len is_separator bytes)
token_more b bytes e = cond-true (not (is_separator b)) _ _ (not_from_false (is_separator b) e) ∙ omega arith

token_none : (b : ℕ) (bytes : List ℕ) → is_separator b ≡ true → position_or_len is_separator (b ∷ bytes) ≡ 0
token_none b bytes e = cond-false (not (is_separator b)) _ _ (not_from_true (is_separator b) e)

skip_step : (s : Bool) (place n b : ℕ) (bytes : List ℕ) → is_separator b ≡ s → prefix_len is_separator (b ∷ bytes) ≡ n
    → ((m : ℕ) → prefix_len is_separator bytes ≡ m → runs (place + 1) bytes ≡ runs (place + 1 + m) (drop m bytes)) → runs place (b ∷ bytes) ≡ runs (place + n) (drop n (b ∷ bytes))
skip_step true place zero b bytes e h more = absurd (omega (arith, separators_more b bytes e))
skip_step true place (suc n) b bytes e h more =
    runs_separator place b bytes e ∙ (more n (omega (arith, separators_more b bytes e)) ∙ (let at : place + 1 + n ≡ place + suc n = omega arith in ap (λ k. runs k (drop n bytes)) at))
skip_step false place zero b bytes e h more = let at : place ≡ place + 0 = omega arith in ap (λ k. runs k (b ∷ bytes)) at
skip_step false place (suc n) b bytes e h more = absurd (omega (arith, separators_none b bytes e))

skip : (place n : ℕ) (bytes : List ℕ) → prefix_len is_separator bytes ≡ n → runs place bytes ≡ runs (place + n) (drop n bytes)
skip place zero [] h = refl
skip place (suc n) [] h = absurd (omega arith)
skip place n (b ∷ bytes) h = skip_step (is_separator b) place n b bytes refl h (λ m. skip (place + 1) m bytes)

starts_outside : (bytes : List ℕ) → position_or_len is_separator bytes ≡ 0 → begins_inside bytes ≡ false
starts_outside [] h = refl
starts_outside (b ∷ bytes) h = starts_outside_at (is_separator b) b bytes refl h
  where
    starts_outside_at : (s : Bool) (b : ℕ) (bytes : List ℕ) → is_separator b ≡ s → position_or_len is_separator (b ∷ bytes) ≡ 0 → not (is_separator b) ≡ false
    starts_outside_at true b bytes e h = not_from_true (is_separator b) e
    starts_outside_at false b bytes e h = absurd (omega (arith, token_more b bytes e))

starts_inside : (n : ℕ) (bytes : List ℕ) → position_or_len is_separator bytes ≡ suc n → begins_inside bytes ≡ true
starts_inside n [] h = absurd (omega arith)
starts_inside n (b ∷ bytes) h = starts_inside_at (is_separator b) n b bytes refl h
  where
    starts_inside_at : (s : Bool) (n b : ℕ) (bytes : List ℕ) → is_separator b ≡ s → position_or_len is_separator (b ∷ bytes) ≡ suc n → not (is_separator b) ≡ true
    starts_inside_at true n b bytes e h = absurd (omega (arith, token_none b bytes e))
    starts_inside_at false n b bytes e h = not_from_false (is_separator b) e

first_step : (s : Bool) (place n b : ℕ) (bytes : List ℕ) → is_separator b ≡ s → position_or_len is_separator (b ∷ bytes) ≡ suc n
    → ((m : ℕ) → position_or_len is_separator bytes ≡ suc m → runs (place + 1) bytes ≡ (place + 1, take (suc m) bytes) ∷ runs (place + 1 + suc m) (drop (suc m) bytes))
    → runs place (b ∷ bytes) ≡ (place, take (suc n) (b ∷ bytes)) ∷ runs (place + suc n) (drop (suc n) (b ∷ bytes))
first_step true place n b bytes e h more = absurd (omega (arith, token_none b bytes e))
first_step false place zero b bytes e h more =
    runs_inside place b bytes e ∙ ap (λ j. with_byte j place b (runs (place + 1) bytes)) (starts_outside bytes (omega (arith, token_more b bytes e)))
first_step false place (suc n) b bytes e h more =
    let long : position_or_len is_separator bytes ≡ suc n = omega (arith, token_more b bytes e) in
    let at : place + 1 + suc n ≡ place + suc (suc n) = omega arith in
    runs_inside place b bytes e ∙ (ap₂ (λ j ts. with_byte j place b ts) (starts_inside n bytes long) (more n long)
    ∙ ap (λ k. (place, b ∷ take (suc n) bytes) ∷ runs k (drop (suc n) bytes)) at)

first : (place n : ℕ) (bytes : List ℕ) → position_or_len is_separator bytes ≡ suc n → runs place bytes ≡ (place, take (suc n) bytes) ∷ runs (place + suc n) (drop (suc n) bytes)
first place n [] h = absurd (omega arith)
first place n (b ∷ bytes) h = first_step (is_separator b) place n b bytes refl h (λ m. first (place + 1) m bytes)

-- past the separators and with no byte of a token, nothing is left
all_passed : (bytes : List ℕ) → position_or_len is_separator (drop (prefix_len is_separator bytes) bytes) ≡ 0 → drop (prefix_len is_separator bytes) bytes ≡ []
all_passed [] h = refl
all_passed (b ∷ bytes) h = all_passed_at (is_separator b) b bytes refl h (all_passed bytes)
  where
    all_passed_at : (s : Bool) (b : ℕ) (bytes : List ℕ) → is_separator b ≡ s → position_or_len is_separator (drop (prefix_len is_separator (b ∷ bytes)) (b ∷ bytes)) ≡ 0
        → (position_or_len is_separator (drop (prefix_len is_separator bytes) bytes) ≡ 0 → drop (prefix_len is_separator bytes) bytes ≡ []) → drop (prefix_len is_separator (b ∷ bytes)) (b ∷ bytes) ≡ []
    all_passed_at true b bytes e h more =
        let len = separators_more b bytes e in
        ap (λ n. drop n (b ∷ bytes)) len ∙ more (sym (ap (λ n. position_or_len is_separator (drop n (b ∷ bytes))) len) ∙ h)
    all_passed_at false b bytes e h more =
        let none = ap (λ n. position_or_len is_separator (drop n (b ∷ bytes))) (separators_none b bytes e) in
        absurd (omega (arith, none, token_more b bytes e))

start_of : (bytes : List ℕ) (place start : ℕ) → start ≡ place + prefix_len is_separator (drop place bytes) → drop start bytes ≡ drop (prefix_len is_separator (drop place bytes)) (drop place bytes)
start_of bytes place start at = ap (λ n. drop n bytes) at ∙ sym (drop-drop (prefix_len is_separator (drop place bytes)) place bytes)

runs_from_start : (bytes : List ℕ) (place start : ℕ) → start ≡ place + prefix_len is_separator (drop place bytes) → runs place (drop place bytes) ≡ runs start (drop start bytes)
runs_from_start bytes place start at = skip place (prefix_len is_separator (drop place bytes)) (drop place bytes) refl ∙ ap₂ runs (sym at) (sym (start_of bytes place start at))

-- where no byte of a token comes, there is no token
pub no_token : (bytes : List ℕ) (place start end : ℕ) → start ≡ place + prefix_len is_separator (drop place bytes) → end ≡ start + position_or_len is_separator (drop start bytes) → start ≡ end
    → (runs place (drop place bytes) ≡ []) × (runs end (drop end bytes) ≡ [])
no_token bytes place start end at till same =
    let nothing : drop start bytes ≡ [] = start_of bytes place start at ∙ all_passed (drop place bytes) (sym (ap (position_or_len is_separator) (start_of bytes place start at)) ∙ omega arith) in
    let left : runs start (drop start bytes) ≡ [] = ap (runs start) nothing in
    (runs_from_start bytes place start at ∙ left, sym (ap (λ k. runs k (drop k bytes)) same) ∙ left)

-- and otherwise those bytes are the first
pub next_token : (bytes : List ℕ) (place start end : ℕ) → start ≡ place + prefix_len is_separator (drop place bytes) → end ≡ start + position_or_len is_separator (drop start bytes) → start < end
    → runs place (drop place bytes) ≡ (start, take (end - start) (drop start bytes)) ∷ runs end (drop end bytes)
next_token bytes place start end at till more =
    let n = end - start - 1 in
    let len : suc n ≡ end - start = omega arith in
    let last : start + suc n ≡ end = omega arith in
    runs_from_start bytes place start at ∙ (first start n (drop start bytes) (omega arith)
    ∙ ap₂ (λ k bs. (start, take k (drop start bytes)) ∷ bs) len (ap₂ runs last (drop-drop (suc n) start bytes ∙ ap (λ k. drop k bytes) last)))
