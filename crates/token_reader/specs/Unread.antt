-- What is still to be read of a file, and what is wrong with its next tokens.
use Rattle.std.specs.Prelude.{◌≡◌, ℕ, ◌+◌, ◌<◌, Bool, not, List, [], ◌∷◌, map, drop, ℤ, Option, Some, None, is_some, Result, Ok, Err}
use Rattle.std.specs.List.{slice_get, range_with_len}
use Rattle.text_spec.specs.Tokens.{Token, tokens_of}
use Rattle.file_spec.specs.Faults.{Fault}
use Rattle.file_spec.specs.Places.{Wanted, token_fault, token_value, token_coordinate}
use Rattle.hub_model.specs.Faults.{fault_of}
use Rattle.hub_model.specs.declared.faults.InstanceFault.{InstanceFault}
use Rattle.hub_model.specs.declared.faults.Refusal.{Refusal}
use Rattle.hub_model.specs.declared.faults.Refusal.TheVariants.{Fault as of_fault, OutOfMemory}

-- the tokens that are not read yet, and the number of the first of them, counted from 1
pub record Unread : Type 0 where
  pub next : ℕ
  pub tokens : List Token

-- the tokens from the one that is looked ahead at
abbrev pub from_ahead : {A : Type 0} → (A → Token) → Option A → List Token → List Token
from_ahead token_of None tokens = []
from_ahead token_of (Some t) tokens = token_of t ∷ tokens

-- a file of which nothing is read
abbrev pub whole : List ℕ → Unread
whole bytes = record { next = 1; tokens = tokens_of bytes }

-- what is unread when so many more tokens are read
unfoldable pub later : ℕ → Unread → Unread
later m r = record { next = r.next + m; tokens = drop m r.tokens }

-- what is wrong with the next token
unfoldable pub fault_here : Wanted → Unread → Option Fault
fault_here w r = token_fault w r.next (slice_get r.tokens 0)

-- what the next token writes, in units of 10^-places
unfoldable pub value_here : ℕ → Unread → ℕ
value_here places r = token_value places (slice_get r.tokens 0)

-- the numbers that the next m tokens write, in units of 10^-places
unfoldable pub values_here : ℕ → ℕ → Unread → List ℕ
values_here places m r = map (λ s. value_here places (later s r)) (range_with_len 0 m)

-- the coordinate that the next token writes
unfoldable pub coordinate_here : Unread → ℤ
coordinate_here r = token_coordinate (slice_get r.tokens 0)

-- no token is left
unfoldable pub has_ended : Unread → Bool
has_ended r = not (is_some (slice_get r.tokens 0))

-- the next m tokens have no fault, where each is to be the same
pub record AreLegal (w : Wanted) (m : ℕ) (r : Unread) : Type 0 where
  pub each : (s : ℕ) → s < m → fault_here w (later s r) ≡ None

-- the first fault of the next m tokens
pub record IsFirstFault (w : Wanted) (m : ℕ) (r : Unread) (fault : Fault) : Type 0 where
  pub place : ℕ
  pub within : place < m
  pub before : AreLegal w place r
  pub here : fault_here w (later place r) ≡ Some fault

-- reading stopped at the first fault of the next m tokens; want of memory says nothing
abbrev pub StoppedAt : Wanted → ℕ → Unread → Refusal → Type 0
StoppedAt w m r (of_fault f) = IsFirstFault w m r (fault_of f)
StoppedAt w m r OutOfMemory = Unit {0}

-- the fault that the outcome of a read tells, if it tells one
abbrev pub told : {A : Type 0} → Result A InstanceFault → Option Fault
told (Ok value) = None
told (Err f) = Some (fault_of f)
