-- What is unread later on.
use Rattle.std.proofs.Common.{◌≡◌, ℕ, zero, suc, ◌+◌, List, [], ◌∷◌, drop, Option, Some, None, MatchOption, refl, sym, ap, ap₂, ◌∙◌, arith, add-zero}
use Rattle.std.proofs.lemmas.List.{drop-drop}
use Rattle.std.specs.List.{slice_get}
use Rattle.text_spec.specs.Tokens.{Token}
use Rattle.token_reader.specs.Unread.{Unread, later, from_ahead}

pub later-none : (r : Unread) → later 0 r ≡ r
unfolding later
later-none r = ap (λ n. record { next = n; tokens = r.tokens }) (add-zero r.next)

pub later-later : (m k : ℕ) (r : Unread) → later m (later k r) ≡ later (k + m) r
unfolding later
later-later m k r =
    let n : r.next + k + m ≡ r.next + (k + m) = omega arith in
    ap₂ (λ n ts. record { next = n; tokens = ts }) n (drop-drop m k r.tokens)

-- what is looked ahead at is the first of the tokens
pub ahead_is : {A : Type 0} (token_of : A → Token) (found : Option A) (all rest : List Token)
    → MatchOption found ((all ≡ []) × (rest ≡ [])) (λ t. all ≡ token_of t ∷ rest) → from_ahead token_of found rest ≡ all
ahead_is token_of None all rest h = sym h.0
ahead_is token_of (Some t) all rest h = sym h

-- past a token that is read
pub later-one : (next : ℕ) (token : Token) (all rest : List Token) → all ≡ token ∷ rest
    → record { next = next + 1; tokens = rest } ≡ later 1 (record { next = next; tokens = all })
unfolding later
later-one next token all rest e = ap (λ ts. record { next = next + 1; tokens = drop 1 ts }) (sym e)

pub past_one : {A : Type 0} (token_of : A → Token) (next : ℕ) (t : A) (ahead found : Option A) (old new : List Token)
    → ahead ≡ Some t → from_ahead token_of found new ≡ old
    → record { next = next + 1; tokens = from_ahead token_of found new } ≡ later 1 (record { next = next; tokens = from_ahead token_of ahead old })
past_one token_of next t ahead found old new is e =
    ap (λ ts. record { next = next + 1; tokens = ts }) e
    ∙ later-one next (token_of t) (from_ahead token_of ahead old) old (ap (λ a. from_ahead token_of a old) is)

pub slice_get-drop : {A : Type 0} (k : ℕ) (xs : List A) → slice_get (drop k xs) 0 ≡ slice_get xs k
slice_get-drop zero xs = refl
slice_get-drop (suc k) [] = refl
slice_get-drop (suc k) (x ∷ xs) = slice_get-drop k xs
