-- What a worker brings: a row for each block that its seat drew, with the answer of that block.
use Rattle.std.specs.Prelude.{◌≡◌, ℕ, true, List, map, All, MatchOption}
use Rattle.claim_board.specs.declared.boards.Board.{Board}
use Rattle.claim_board.specs.Places.{hand_of, IsSeatOf}
use Rattle.claim_board.specs.declared.crops.Row.{Row}
use Rattle.claim_board.specs.declared.crops.Crop.{Crop}

module _ {T : Type 0} where
  abbrev pub block_of : Row T → ℕ
  block_of r = r.block

  -- the row has the answer of its block
  abbrev pub IsAnswered : (ℕ → T → Type 0) → Row T → Type 0
  IsAnswered answer r = MatchOption r.value ⊥ (answer r.block)

  -- the rows are those of the blocks drawn, in the order of the draws, each with its answer
  abbrev pub AreRows : (ℕ → T → Type 0) → List ℕ → List (Row T) → Type 0
  AreRows answer drawn rows = (map block_of rows ≡ drawn) × All (IsAnswered answer) rows

  -- the crop of so many workers of one board, after their seat has ended
  abbrev pub IsCropOf : (ℕ → T → Type 0) → Board → ℕ → Crop T → Type 0
  IsCropOf answer board workers c =
      IsSeatOf board c.seat
      × ((hand_of c.seat).ended ≡ true)
      × ((hand_of c.seat).share ≡ workers)
      × AreRows answer (hand_of c.seat).drawn c.rows.items
