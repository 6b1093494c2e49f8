-- What contracts say of boards and seats.
use Rattle.std.specs.Prelude.{◌≡◌, ℕ}
use Rattle.claim_board.specs.declared.hands.Hand.{Hand}
use Rattle.claim_board.specs.declared.seats.Seat.{Seat}
use Rattle.claim_board.specs.declared.boards.Board.{Board}

-- what the seat did: its list, its share and its mark
abbrev pub hand_of : Seat → Hand
hand_of s = s.place.me.0.hand

-- the share of all seats together
abbrev pub seats_of : Board → ℕ
seats_of b = b.table.shared.key.seats

-- the seat is one of this board
abbrev pub IsSeatOf : Board → Seat → Type 0
IsSeatOf b s = (s.place.table_id ≡ b.table.shared.table_id) × (s.place.me.0.blocks ≡ b.blocks)
