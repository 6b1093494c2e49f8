-- What the objects outside the program hold, take and fail at.
use Rattle.std.specs.Prelude.{◌≡◌, ◌<◌, ◌≤◌, ℕ, ◌+◌, ◌-◌, ◌^◌, min, List, [], ◌∷◌, ◌++◌, length, drop, All, ⊤, Option, None, Some, IsSome, option_map, Result, OnOk, OnErr}
use Rattle.std.specs.Io.KnownBytes.{Appends}

-- the bytes under each name, or none where no file has it
abbrev pub Files : Type 0
Files = List ℕ → Option (List ℕ)

-- a count of faults has risen, or is at its last value
abbrev pub Rose : ℕ → ℕ → Type 0
Rose before now = min (before + 1) (2 ^ 64 - 1) ≤ now

-- A call may fail only where the count of faults rose, and the count never falls.
pub record HasCause {T E : Type 0} (before now : ℕ) (result : Result T E) : Type 0 where
  pub later : before ≤ now
  pub failed : OnErr result (Rose before now)

-- the file of that name is at its first byte
abbrev pub Starts : Option Files → List ℕ → Option (List ℕ) → Type 0
Starts None name left = ⊤
Starts (Some files) name left = IsSome left × (files name ≡ left)

-- these bytes are held under the name
abbrev pub Holds : Option Files → List ℕ → List ℕ → Type 0
Holds None name bytes = ⊤
Holds (Some files) name bytes = files name ≡ Some bytes

-- more bytes than that are held under the name
abbrev pub HoldsMore : Option Files → List ℕ → ℕ → Type 0
HoldsMore None name limit = ⊤
HoldsMore (Some files) name limit = (bytes : List ℕ) × (files name ≡ Some bytes) × (limit < length bytes)

-- more bytes than that are held under the name, and what is left of them is behind the limit and one byte
abbrev pub LeavesRest : Option Files → Option (List ℕ) → List ℕ → ℕ → Type 0
LeavesRest None left name limit = ⊤
LeavesRest (Some files) left name limit = (bytes : List ℕ) × (files name ≡ Some bytes) × (limit < length bytes) × (left ≡ Some (drop (limit + 1) bytes))

-- it is known that a file of that name is held
abbrev pub TellsOf : Option Files → List ℕ → Type 0
TellsOf None name = ⊥
TellsOf (Some files) name = IsSome (files name)

-- the names that were begun, and this one
abbrev pub with_name : List ℕ → Option (List (List ℕ)) → Option (List (List ℕ))
with_name name = option_map (λ names. names ++ name ∷ [])

-- only names of which this holds were begun besides those that were begun before
pub record BeginsOnly (may : List ℕ → Type 0) (before now : Option (List (List ℕ))) : Type 0 where
  pub names : List (List ℕ)
  pub more : now ≡ option_map (λ begun. begun ++ names) before
  pub each : All may names

-- a prefix of the text was appended
abbrev pub AppendsFront : Option (List ℕ) → Option (List ℕ) → List ℕ → Type 0
AppendsFront old new text = (front : List ℕ) × (rest : List ℕ) × (front ++ rest ≡ text) × Appends old new front

-- A text was put on a sink: all of it, or on a failure a prefix of it.
pub record Puts {K E : Type 0} (taken : K → Option (List ℕ)) (faults : K → ℕ) (old new : K) (result : Result (Unit {0}) E) (text : List ℕ) : Type 0 where
  pub whole : OnOk result (Appends (taken old) (taken new) text)
  pub front : OnErr result (AppendsFront (taken old) (taken new) text)
  pub later : faults old ≤ faults new
  pub failed : OnErr result (Rose (faults old) (faults new))

-- a prefix of the text was appended, and this is the rest of it
abbrev pub AppendsBut : Option (List ℕ) → Option (List ℕ) → List ℕ → List ℕ → Type 0
AppendsBut old new text rest = (front : List ℕ) × (front ++ rest ≡ text) × Appends old new front

-- A text was put through a buffer, behind the bytes that waited there. The sink took a prefix of all that, and the
-- rest waits. On a failure it took a prefix and no more.
pub record PutsThrough {K E : Type 0} (taken : K → Option (List ℕ)) (faults : K → ℕ) (old new : K) (waiting rest : List ℕ) (result : Result (Unit {0}) E) (text : List ℕ) : Type 0 where
  pub whole : OnOk result (AppendsBut (taken old) (taken new) (waiting ++ text) rest)
  pub front : OnErr result (AppendsFront (taken old) (taken new) (waiting ++ text))
  pub later : faults old ≤ faults new
  pub failed : OnErr result (Rose (faults old) (faults new))
