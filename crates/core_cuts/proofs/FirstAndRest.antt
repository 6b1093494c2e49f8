-- The first of a list, and the rest of it.
use Rattle.std.proofs.Common.{◌≡◌, ◌-◌, ◌≤◌, List, [], ◌∷◌, length, get_or, take, drop, refl, arith}
use Rattle.std.proofs.lemmas.List.{take_all}

pub first_any : {X : Type 0} (xs : List X) (d e : X) → 1 ≤ length xs → get_or xs 0 d ≡ get_or xs 0 e
first_any [] d e some = absurd (omega (arith, some))
first_any (x ∷ xs) d e some = refl

pub rest_is : {X : Type 0} (xs : List X) → take (length xs - 1) (drop 1 xs) ≡ drop 1 xs
rest_is [] = refl
rest_is (x ∷ xs) = take_all (length (x ∷ xs) - 1) xs (omega arith)
