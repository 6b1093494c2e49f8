-- What holds of a board's word and of all views, and what a draw tells its seat.
use Rattle.std.specs.Prelude.{◌≡◌, ℕ, ◌^◌, ◌<◌, ◌≤◌, List, [], ◌∷◌, map, length}
use mathlib.Core.Option.{some}
use lib.ListN.{get_elem?}
use Rattle.atomic_table.specs.Table.{State, Me, Step}
use Rattle.claim_board.specs.declared.hands.Hand.{Hand}
use Rattle.claim_board.specs.declared.hands.Told.{Told}
use Rattle.claim_board.specs.declared.hands.Size.{Size}
use Rattle.claim_board.specs.Hands.{times, drew}
use Rattle.claim_board.specs.Draws.{Event, run}

abbrev pub told : ℕ → Hand → Told
told blocks v = record { blocks = blocks; hand = v }

-- the board is the draw machine after some list of events: its word is the next number, and the views are the seats
pub record IsRun (size : Size) (s : State (Unit {0}) Told) : Type 0 where
  pub events : List Event
  pub word : s.words ≡ (run size.blocks size.seats events).next ∷ []
  pub views : map (λ v. v.hand) s.views ≡ (run size.blocks size.seats events).seats
  pub knows : (k : ℕ) (v : Told) → get_elem? s.views k ≡ some v → 0 < v.hand.share → v.blocks ≡ size.blocks
  pub few : size.seats ≤ 64
  pub narrow : size.blocks < 2 ^ 32

-- the seat drew the number found, which is new to its list where it is below blocks
abbrev pub Draws : Step (Unit {0}) → Me (Unit {0}) Told → ℕ → Me (Unit {0}) Told → Type 0
Draws st me n me' =
    (me'.1 ≡ me.1)
    × (me'.0 ≡ told me.0.blocks (drew me.0.blocks n me.0.hand))
    × (n < me.0.blocks → times n me.0.hand.drawn ≡ 0)
    × (length me'.0.hand.drawn ≤ me.0.blocks)
