-- What is left where one is taken out.
use Rattle.std.proofs.Common.{◌≡◌, ℕ, ◌<◌, List, ◌∷◌, length, get_or, All, sym, subst}
use Rattle.std.specs.List.{swap_remove}
use Rattle.std.proofs.lemmas.List.Sorted.{All-permutation, IsPermutation-swap_remove}
use Rattle.std.proofs.lemmas.List.Elements.{All-head, All-tail}

pub others_kept : {X : Type 0} (P : X → Type 0) (xs ys : List X) (i : ℕ) (x : X) → i < length xs → x ≡ get_or xs i x → ys ≡ swap_remove xs i x → All P xs
    → All P ys
others_kept P xs ys i x inside is rest all =
    subst (All P) (sym rest)
    (All-tail P x (swap_remove xs i x) (All-permutation P xs (x ∷ swap_remove xs i x) (IsPermutation-swap_remove xs i x inside is) all))

pub one_taken : {X : Type 0} (P : X → Type 0) (xs : List X) (i : ℕ) (x : X) → i < length xs → x ≡ get_or xs i x → All P xs → P x
one_taken P xs i x inside is all =
    All-head P x (swap_remove xs i x) (All-permutation P xs (x ∷ swap_remove xs i x) (IsPermutation-swap_remove xs i x inside is) all)
