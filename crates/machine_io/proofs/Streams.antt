-- What a stream took and gave, call by call.
use Rattle.std.proofs.Common.{◌≡◌, ℕ, List, [], ◌++◌, take, drop, Option, None, Some, sym, ap, ◌∙◌, append_assoc, append-nil}
use Rattle.std.specs.Io.KnownBytes.{Keeps, Appends}
use Rattle.std.proofs.KnownBytes.{Appends-trans}
use Rattle.std.proofs.lemmas.List.{take-append-drop}
use Rattle.hub_io.specs.Outside.{AppendsBut, AppendsFront}

appends_kept : (a b c : Option (List ℕ)) (bs : List ℕ) → Appends a b bs → Keeps b c → Appends a c bs
appends_kept None b c bs h k = tt
appends_kept (Some xs) None c bs h k = absurd h
appends_kept (Some xs) (Some ys) None bs h k = absurd k
appends_kept (Some xs) (Some ys) (Some zs) bs h k = k ∙ h

-- a call that took nothing
pub still_but : (a b c : Option (List ℕ)) (text rest : List ℕ) → AppendsBut a b text rest → Keeps b c → AppendsBut a c text rest
still_but a b c text rest h k = (h.0, h.1, appends_kept a b c h.0 h.2 k)

-- a call that took the first bytes of the rest
pub more_but : (a b c : Option (List ℕ)) (text rest : List ℕ) (n : ℕ) → AppendsBut a b text rest → Appends b c (take n rest)
    → AppendsBut a c text (drop n rest)
more_but a b c text rest n h k = (
  h.0 ++ take n rest,
  append_assoc h.0 (take n rest) (drop n rest) ∙ ap (λ xs. h.0 ++ xs) (take-append-drop n rest) ∙ h.1,
  Appends-trans a b c h.0 (take n rest) h.2 k,
)

pub whole_taken : (a b : Option (List ℕ)) (text rest : List ℕ) → AppendsBut a b text rest → rest ≡ [] → Appends a b text
whole_taken a b text rest h none =
    let P : List ℕ → Type 0 = λ xs. Appends a b xs in
    let whole : h.0 ≡ text = sym (append-nil h.0) ∙ ap (λ xs. h.0 ++ xs) (sym none) ∙ h.1 in
    rw (sym whole) h.2

pub front_taken : (a b c : Option (List ℕ)) (text rest : List ℕ) → AppendsBut a b text rest → Keeps b c → AppendsFront a c text
front_taken a b c text rest h k = (h.0, rest, h.1, appends_kept a b c h.0 h.2 k)
