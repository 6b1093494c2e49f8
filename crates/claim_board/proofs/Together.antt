-- Two crops together, and the crop of all workers.
use Rattle.std.proofs.Common.{◌≡◌, ℕ, ◌+◌, ◌<◌, true, Bool, ◌||◌, List, ◌++◌, map, sym, ap, ◌∙◌, subst, arith}
use Rattle.std.specs.Prelude.{All, ◌==◌, count_by}
use Rattle.std.proofs.lemmas.Bool.Decides.{nat_tests}
use Rattle.std.proofs.lemmas.List.{map-append}
use Rattle.std.proofs.lemmas.List.Elements.{All-append}
use Rattle.claim_board.specs.declared.boards.Board.{Board}
use Rattle.claim_board.specs.declared.hands.Hand.{Hand}
use Rattle.claim_board.specs.declared.seats.Seat.{Seat}
use Rattle.claim_board.specs.Hands.{both, times}
use Rattle.claim_board.specs.Draws.{once_below}
use Rattle.claim_board.specs.Places.{hand_of, IsSeatOf}
use Rattle.claim_board.specs.declared.crops.Row.{Row}
use Rattle.claim_board.specs.declared.crops.Crop.{Crop}
use Rattle.claim_board.specs.Crops.{block_of, IsAnswered, AreRows, IsCropOf}
use Rattle.claim_board.proofs.Rows.{count_blocks}

or_true : (p q : Bool) → p ≡ true → (p || q) ≡ true
or_true p q e = ap (λ b. b || q) e

module _ {T : Type 0} where
  pub two_crops : (answer : ℕ → T → Type 0) (board : Board) (m n workers : ℕ) (a b : Crop T) (s : Seat) (rows : List (Row T))
      → IsCropOf answer board m a → IsCropOf answer board n b → m + n ≡ workers → IsSeatOf board s
      → hand_of s ≡ both (hand_of a.seat) (hand_of b.seat) → rows ≡ a.rows.items ++ b.rows.items
      → IsSeatOf board s × ((hand_of s).ended ≡ true) × ((hand_of s).share ≡ workers) × AreRows answer (hand_of s).drawn rows
  two_crops answer board m n workers a b s rows mine theirs sum seat hand are =
      let share : (hand_of s).share ≡ (hand_of a.seat).share + (hand_of b.seat).share = ap (λ (v : Hand). v.share) hand in
      let one = mine.2 in
      let two = theirs.2 in (
        seat,
        ap (λ (v : Hand). v.ended) hand ∙ or_true (hand_of a.seat).ended (hand_of b.seat).ended mine.1,
        omega (arith, share, one, two, sum),
        (
          ap (map block_of) are
              ∙ map-append block_of a.rows.items b.rows.items
              ∙ ap (λ l. l ++ map block_of b.rows.items) mine.3.0
              ∙ ap (λ l. (hand_of a.seat).drawn ++ l) theirs.3.0
              ∙ sym (ap (λ (v : Hand). v.drawn) hand),
          subst (All (IsAnswered answer)) (sym are) (All-append (IsAnswered answer) a.rows.items b.rows.items mine.3.1 theirs.3.1),
        ),
      )

  -- each block that was taken has a row
  pub each_row : (rows : List (Row T)) (drawn : List ℕ) (taken blocks : ℕ) → map block_of rows ≡ drawn → ((x : ℕ) → times x drawn ≡ once_below x taken) → taken ≡ blocks
      → (b : ℕ) → b < blocks → 0 < count_by (λ r. r.block == b) rows
  each_row rows drawn taken blocks same each all b below =
      let e = count_blocks b rows in
      let d : count_by (λ x. x == b) (map block_of rows) ≡ times b drawn = ap (times b) same in
      let o = each b in
      let one : once_below b taken ≡ 1 = grind (arith, nat_tests, all, below) in
      omega (arith, e, d, o, one)
