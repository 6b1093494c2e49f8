-- Conditions tried one after another.
use Rattle.std.proofs.Common.{◌≡◌, ℕ, List, [], ◌∷◌, ◌++◌, Bool, true, false, Option, Some, None, inl, inr, refl, sym, ◌∙◌, subst}
use Rattle.cert_spec.specs.Conditions.{Claim, claim, Kind, AllHold, FailsFirst, if_time}
use Rattle.cert_conditions.specs.Kinds.{kind_of}
use Rattle.cert_conditions.specs.declared.kinds.Kind as code
use Rattle.cert_conditions.specs.Steps.{Tried, failed_at}
use Rattle.cert_conditions.specs.Taken.{TellsFirst}

pub all_hold : (xs ys : List Claim) → AllHold xs → AllHold ys → AllHold (xs ++ ys)
all_hold [] ys h k = k
all_hold (x ∷ xs) ys h k = (h.0, all_hold xs ys h.1 k)

pub fails_later : (xs ys : List Claim) (kind : Kind) (line : ℕ) → AllHold xs → FailsFirst ys kind line → FailsFirst (xs ++ ys) kind line
fails_later [] ys kind line h k = k
fails_later (x ∷ xs) ys kind line h k = inr (h.0, fails_later xs ys kind line h.1 k)

pub fails_before : (xs ys : List Claim) (kind : Kind) (line : ℕ) → FailsFirst xs kind line → FailsFirst (xs ++ ys) kind line
fails_before [] ys kind line h = absurd h
fails_before (x ∷ xs) ys kind line (inl h) = inl h
fails_before (x ∷ xs) ys kind line (inr h) = inr (h.0, fails_before xs ys kind line h.1)

-- the result for conditions that all hold, and for those that were tried behind them
pub tells_more : (xs ys : List Claim) (found : Option code.Kind) (line : ℕ) → AllHold xs → Tried ys found line → TellsFirst (xs ++ ys) (failed_at line found)
tells_more xs ys None line h k = all_hold xs ys h k
tells_more xs ys (Some kind) line h k = fails_later xs ys (kind_of kind) line h k

-- behind a condition that holds
pub tried_behind : (kind : Kind) (n m : ℕ) (P : Type 0) (cs : List Claim) (found : Option code.Kind) → P → Tried cs found m → Tried (claim kind n P ∷ cs) found m
tried_behind kind n m P cs None h t = (h, t)
tried_behind kind n m P cs (Some k) h t = inr (h, t)

-- two lists whose first conditions are equivalent
pub tried_cons : (kind : Kind) (n o m : ℕ) (P Q : Type 0) (xs ys : List Claim) (found : Option code.Kind) → n ≡ o → (P → Q) → (Q → P)
    → (Q → Tried xs found m → Tried ys found m) → Tried (claim kind n P ∷ xs) found m → Tried (claim kind o Q ∷ ys) found m
tried_cons kind n o m P Q xs ys None e f g rest h = (f h.0, rest (f h.0) h.1)
tried_cons kind n o m P Q xs ys (Some k) e f g rest (inl h) = inl ((λ q. h.0 (g q)), h.1, sym e ∙ h.2)
tried_cons kind n o m P Q xs ys (Some k) e f g rest (inr h) = inr (f h.0, rest (f h.0) h.1)

pub tried_one : (kind : Kind) (n o m : ℕ) (P Q : Type 0) (found : Option code.Kind) → n ≡ o → (P → Q) → (Q → P)
    → Tried (claim kind n P ∷ []) found m → Tried (claim kind o Q ∷ []) found m
tried_one kind n o m P Q found e f g h = tried_cons kind n o m P Q [] [] found e f g (λ q t. t) h

pub tried_time : (b d : Bool) (kind : Kind) (n o m : ℕ) (P Q : Type 0) (found : Option code.Kind) → b ≡ d → n ≡ o → (d ≡ true → P → Q)
    → (d ≡ true → Q → P) → Tried (if_time b (claim kind n P)) found m → Tried (if_time d (claim kind o Q)) found m
tried_time b true kind n o m P Q found same e f g h =
    tried_one kind n o m P Q found e (f refl) (g refl) (subst (λ x. Tried (if_time x (claim kind n P)) found m) same h)
tried_time b false kind n o m P Q found same e f g h = subst (λ x. Tried (if_time x (claim kind n P)) found m) same h
