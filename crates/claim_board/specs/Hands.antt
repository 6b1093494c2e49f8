-- What a seat did, and what a draw, a split and a join make of it.
use Rattle.std.specs.Prelude.{ℕ, ◌+◌, ◌-◌, ◌/◌, Bool, true, false, cond, ◌||◌, List, [], ◌∷◌, ◌++◌, nat_lt, ◌==◌, count_by}
use Rattle.claim_board.specs.declared.hands.Hand.{Hand}

abbrev pub hand : List ℕ → ℕ → Bool → Hand
hand drawn share ended = record { drawn = drawn; share = share; ended = ended }

-- how often x stands in a list
abbrev pub times : ℕ → List ℕ → ℕ
times x xs = count_by (λ y. y == x) xs

-- after a draw that finds the number next: it is added where it is below blocks, and else the seat is ended
abbrev pub drew : ℕ → ℕ → Hand → Hand
drew blocks next v =
    cond (nat_lt next blocks) (hand (v.drawn ++ next ∷ []) v.share v.ended) (hand v.drawn v.share true)

-- what stays with the old seat at a split: its list, and its share but for what the new seat gets
abbrev pub kept_half : Hand → Hand
kept_half v = hand v.drawn (v.share - v.share / 2) v.ended

-- what the new seat gets: no numbers, half of the share, rounded down, and the mark
abbrev pub new_half : Hand → Hand
new_half v = hand [] (v.share / 2) v.ended

-- the lists and the shares of two seats together, ended where one of the two is
abbrev pub both : Hand → Hand → Hand
both v w = hand (v.drawn ++ w.drawn) (v.share + w.share) (v.ended || w.ended)

-- what is left of a seat that was joined to another
abbrev pub spent : Hand
spent = hand [] 0 false
