-- A stretch of tokens that are all to be the same: it has no fault, or a first one. `f t` is what is wrong with token t
-- of the file, in whatever layout.
use Rattle.std.proofs.Common.{◌≡◌, ℕ, ◌+◌, ◌-◌, ◌<◌, ◌≤◌, List, drop, not, Option, Some, None, is_some, refl, sym, subst, ap, ◌∙◌, inl, inr, arith}
use Rattle.std.specs.List.{slice_get}
use Rattle.std.proofs.lemmas.Bool.{cases_lt}
use Rattle.text_spec.specs.Tokens.{Token, tokens_of}
use Rattle.file_spec.specs.Faults.{Fault}
use Rattle.file_spec.specs.Places.{Wanted, token_fault, token_value, token_coordinate, token_at, value_at, coordinate_at}
use Rattle.file_spec.proofs.Firsts.{IsFirst, NoneUpTo}
use Rattle.token_reader.specs.Unread.{Unread, whole, later, fault_here, value_here, coordinate_here, has_ended, AreLegal, IsFirstFault}
use Rattle.token_reader.proofs.Ahead.{later-none, later-later, slice_get-drop}

-- the token that comes after s others is token 1 + s
token_later : (s : ℕ) (tokens : List Token) → slice_get (drop s tokens) 0 ≡ token_at tokens (1 + s)
token_later s tokens = let e : s ≡ 1 + s - 1 = omega arith in slice_get-drop s tokens ∙ ap (slice_get tokens) e

pub fault_later : (w : Wanted) (s : ℕ) (bytes : List ℕ) → fault_here w (later s (whole bytes)) ≡ token_fault w (1 + s) (token_at (tokens_of bytes) (1 + s))
unfolding fault_here later
fault_later w s bytes = ap (token_fault w (1 + s)) (token_later s (tokens_of bytes))

pub value_later : (places s : ℕ) (bytes : List ℕ) → value_here places (later s (whole bytes)) ≡ value_at (tokens_of bytes) places (1 + s)
unfolding value_here later
value_later places s bytes = ap (token_value places) (token_later s (tokens_of bytes))

pub coordinate_later : (s : ℕ) (bytes : List ℕ) → coordinate_here (later s (whole bytes)) ≡ coordinate_at (tokens_of bytes) (1 + s)
unfolding coordinate_here later
coordinate_later s bytes = ap token_coordinate (token_later s (tokens_of bytes))

pub ended_later : (s : ℕ) (bytes : List ℕ) → has_ended (later s (whole bytes)) ≡ not (is_some (token_at (tokens_of bytes) (1 + s)))
unfolding has_ended later
ended_later s bytes = ap (λ token. not (is_some token)) (token_later s (tokens_of bytes))

-- legal tokens, one by one
pub legal_none : (w : Wanted) (r : Unread) → AreLegal w 0 r
legal_none w r = record { each = λ s h. absurd (omega arith) }

pub legal_more : (w : Wanted) (m : ℕ) (r : Unread) → AreLegal w m r → fault_here w (later m r) ≡ None → AreLegal w (m + 1) r
legal_more w m r legal none = record {
  each = λ s h. elim (cases_lt s m) [
    | inl below ↦ legal.each s below
    | inr above ↦ (let e : m ≡ s = omega arith in let P : ℕ → Type 0 = λ k. fault_here w (later k r) ≡ None in subst P e none)
  ];
}

-- a stretch of one token
pub one_fault : (w : Wanted) (r : Unread) (f : Fault) → fault_here w r ≡ Some f → IsFirstFault w 1 r f
one_fault w r f e = record { place = 0; within = omega arith; before = legal_none w r; here = ap (fault_here w) (later-none r) ∙ e }

pub one_legal : (w : Wanted) (r : Unread) → fault_here w r ≡ None → AreLegal w 1 r
one_legal w r e = record {
  each = λ s h. (let none : 0 ≡ s = omega arith in let P : ℕ → Type 0 = λ s. fault_here w (later s r) ≡ None in
      subst P none (ap (fault_here w) (later-none r) ∙ e));
}

-- the next m tokens after the first k are all to be the same
pub record AreWanted (f : ℕ → Option Fault) (bytes : List ℕ) (w : Wanted) (k m : ℕ) : Type 0 where
  pub each : (t : ℕ) → k < t → t ≤ k + m → f t ≡ token_fault w t (token_at (tokens_of bytes) t)

-- so it is where each token has its kind, and that of these tokens is w
pub stretch_of : (kind_of : ℕ → Wanted) (bytes : List ℕ) (w : Wanted) (k m : ℕ) → ((t : ℕ) → k < t → t ≤ k + m → kind_of t ≡ w)
    → AreWanted (λ t. token_fault (kind_of t) t (token_at (tokens_of bytes) t)) bytes w k m
stretch_of kind_of bytes w k m h = record { each = λ t past up. ap (λ v. token_fault v t (token_at (tokens_of bytes) t)) (h t past up) }

fault_is : (f : ℕ → Option Fault) (bytes : List ℕ) (w : Wanted) (k m s t : ℕ) → AreWanted f bytes w k m → s < m → t ≡ 1 + (k + s)
    → f t ≡ fault_here w (later s (later k (whole bytes)))
fault_is f bytes w k m s t same h e =
    same.each t (omega arith) (omega arith)
    ∙ (ap (λ i. token_fault w i (token_at (tokens_of bytes) i)) e
    ∙ (sym (fault_later w (k + s) bytes) ∙ sym (ap (fault_here w) (later-later s k (whole bytes)))))

pub none_so_far : (f : ℕ → Option Fault) → NoneUpTo f 0
none_so_far f t one up = absurd (omega arith)

-- no fault so far, and none in the first m tokens of the stretch
pub none_longer : (f : ℕ → Option Fault) (bytes : List ℕ) (w : Wanted) (k m n : ℕ) → AreWanted f bytes w k n → m ≤ n → NoneUpTo f k
    → AreLegal w m (later k (whole bytes)) → NoneUpTo f (k + m)
none_longer f bytes w k m n same within none legal t one up = elim (cases_lt k t) [
  | inl past ↦ (let e : t ≡ 1 + (k + (t - (k + 1))) = omega arith in let h : t - (k + 1) < m = omega arith in
      fault_is f bytes w k n (t - (k + 1)) t same (omega arith) e ∙ legal.each (t - (k + 1)) h)
  | inr below ↦ none t one below
]

-- the fault is that of the first token that has one
abbrev pub IsFirstOf : (ℕ → Option Fault) → Fault → Type 0
IsFirstOf f fault = (at : ℕ) × IsFirst f fault at

pub first_fault : (f : ℕ → Option Fault) (bytes : List ℕ) (w : Wanted) (k m : ℕ) (fault : Fault) → AreWanted f bytes w k m → NoneUpTo f k
    → IsFirstFault w m (later k (whole bytes)) fault → IsFirstOf f fault
first_fault f bytes w k m fault same none first =
    let within = first.within in
    let before = none_longer f bytes w k first.place m same (omega arith) none first.before in (
      1 + (k + first.place),
      record {
        counted = omega arith;
        here = fault_is f bytes w k m first.place (1 + (k + first.place)) same within refl ∙ first.here;
        before = λ t one below. before t one (omega arith);
      },
    )
