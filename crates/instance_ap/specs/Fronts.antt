-- What the next tokens of a file give where each is to be of one kind, and what is wrong with those of a tail.
use Rattle.std.specs.Prelude.{◌≡◌, ℕ, ◌*◌, ◌<◌, List, map, ℤ, Option, Some, None}
use Rattle.std.specs.List.{range_with_len}
use Rattle.file_spec.specs.Options.{Tail, tail_ignored, tail_costs}
use Rattle.file_spec.specs.Faults.{Fault}
use Rattle.file_spec.specs.Places.{tail_wanted}
use Rattle.hub_model.specs.Faults.{fault_of}
use Rattle.hub_model.specs.declared.faults.Refusal.{Refusal}
use Rattle.hub_model.specs.declared.faults.Refusal.TheVariants.{Fault as of_fault, OutOfMemory}
use Rattle.token_reader.specs.Unread.{Unread, later, fault_here, values_here, coordinate_here}

-- the point that the next two tokens write
unfoldable pub point_here : Unread → ℤ × ℤ
point_here r = (coordinate_here r, coordinate_here (later 1 r))

-- the points that the next 2 * m tokens write
unfoldable pub points_front : ℕ → Unread → List (ℤ × ℤ)
points_front m r = map (λ k. point_here (later (2 * k) r)) (range_with_len 0 m)

-- the fixed costs that a tail gives for n nodes
abbrev pub tail_here : Tail → ℕ → Unread → Option (List ℕ)
tail_here tail_ignored n r = None
tail_here tail_costs n r = Some (values_here 6 n r)

-- no token of the tail has a fault
pub record IsLegalTail (tail : Tail) (n : ℕ) (r : Unread) : Type 0 where
  pub each : (s : ℕ) → fault_here (tail_wanted tail n s) (later s r) ≡ None

-- the first fault of the tail
pub record IsTailFault (tail : Tail) (n : ℕ) (r : Unread) (fault : Fault) : Type 0 where
  pub place : ℕ
  pub before : (s : ℕ) → s < place → fault_here (tail_wanted tail n s) (later s r) ≡ None
  pub here : fault_here (tail_wanted tail n place) (later place r) ≡ Some fault

-- reading stopped at the first fault of the tail; want of memory says nothing
abbrev pub StoppedInTail : Tail → ℕ → Unread → Refusal → Type 0
StoppedInTail tail n r (of_fault f) = IsTailFault tail n r (fault_of f)
StoppedInTail tail n r OutOfMemory = Unit {0}
