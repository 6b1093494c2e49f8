-- The draw machine: numbers below `blocks` are given out to seats, which split and join.
-- A seat keeps its place in the list of seats; one that is made by a split comes last, one that was joined stays, spent.
use Rattle.std.specs.Prelude.{◌≡◌, ℕ, ◌+◌, ◌≤◌, min, true, false, cond, not, ◌&&◌, List, [], ◌∷◌, ◌++◌, length, nat_lt, nat_le, ◌==◌, sum_by, slice_set}
use mathlib.Core.Option.{Option, none, some}
use lib.ListN.{get_elem?}
use Rattle.claim_board.specs.declared.hands.Hand.{Hand}
use Rattle.claim_board.specs.Hands.{hand, times, drew, kept_half, new_half, both, spent}

-- the number that the next draw finds, and what each seat did
pub record Machine : Type 0 where
  pub next : ℕ
  pub seats : List Hand

-- a draw by a seat, a split of a seat, and the join of a seat (first) and another (second)
pub data Event : Type 0 where
  draws : ℕ → Event
  splits : ℕ → Event
  joins : ℕ → ℕ → Event

-- ---- one event; one that is not possible changes nothing

abbrev pub draw_at : ℕ → Machine → ℕ → Option Hand → Machine
draw_at blocks m k none = m
draw_at blocks m k (some v) =
    cond (not v.ended && nat_lt 0 v.share) record { next = m.next + 1; seats = slice_set m.seats k (drew blocks m.next v) } m

abbrev pub split_at : Machine → ℕ → Option Hand → Machine
split_at m k none = m
split_at m k (some v) =
    cond (nat_le 2 v.share) record { next = m.next; seats = slice_set m.seats k (kept_half v) ++ new_half v ∷ [] } m

abbrev pub join_at : Machine → ℕ → ℕ → Option Hand → Option Hand → Machine
join_at m i j none w = m
join_at m i j (some v) none = m
join_at m i j (some v) (some w) =
    cond
    (not (i == j) && (nat_lt 0 v.share && nat_lt 0 w.share))
    record { next = m.next; seats = slice_set (slice_set m.seats i (both v w)) j spent }
    m

abbrev pub after : ℕ → Machine → Event → Machine
after blocks m (draws k) = draw_at blocks m k (get_elem? m.seats k)
after blocks m (splits k) = split_at m k (get_elem? m.seats k)
after blocks m (joins i j) = join_at m i j (get_elem? m.seats i) (get_elem? m.seats j)

-- ---- runs

-- one seat has the whole share
abbrev pub start : ℕ → Machine
start seats = record { next = 0; seats = hand [] seats false ∷ [] }

abbrev pub run_from : ℕ → Machine → List Event → Machine
run_from blocks m [] = m
run_from blocks m (e ∷ events) = run_from blocks (after blocks m e) events

abbrev pub run : ℕ → ℕ → List Event → Machine
run blocks seats events = run_from blocks (start seats) events

-- ---- the law

-- how often x is among the numbers below n
abbrev pub once_below : ℕ → ℕ → ℕ
once_below x n = cond (nat_lt x n) 1 0

-- the share of a seat that has ended
abbrev pub ended_share : Hand → ℕ
ended_share v = cond v.ended v.share 0

-- what holds of the machine at all times
pub record Sound (blocks seats : ℕ) (m : Machine) : Type 0 where
  -- the lists of all seats together have each number below the lesser of next and blocks once, and nothing else
  pub once : (x : ℕ) → sum_by (λ v. times x v.drawn) m.seats ≡ once_below x (min m.next blocks)
  -- and so many numbers stand in them
  pub count : sum_by (λ v. length v.drawn) m.seats ≡ min m.next blocks
  -- the shares add up
  pub shares : sum_by (λ v. v.share) m.seats ≡ seats
  -- a seat with no share has no numbers, and has not ended
  pub spent_empty : (k : ℕ) (v : Hand) → get_elem? m.seats k ≡ some v → v.share ≡ 0 → (v.drawn ≡ []) × (v.ended ≡ false)
  -- where a seat has ended, all numbers are given out
  pub ended_past : (k : ℕ) (v : Hand) → get_elem? m.seats k ≡ some v → v.ended ≡ true → blocks ≤ m.next
  -- no seat draws again once it has ended
  pub bounded : m.next ≤ blocks + sum_by ended_share m.seats

-- the machine is sound after every list of events
abbrev pub DrawsAreSound : Type 0
DrawsAreSound = (blocks seats : ℕ) (events : List Event) → Sound blocks seats (run blocks seats events)
