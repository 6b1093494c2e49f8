-- Texts of lines, one list behind the other.
use Rattle.std.proofs.Common.{◌≡◌, List, [], ◌∷◌, ◌++◌, flat_map, refl, sym, ap, ◌∙◌}
use Rattle.std.proofs.lemmas.List.Concat.{flat_map-append}
use Rattle.cert_spec.specs.Lines.{Item}
use Rattle.cert_spec.specs.Text.{line_bytes}

pub texts_joined : {X : Type 0} (f : X → List Item) (xs : List X) → flat_map (λ x. flat_map line_bytes (f x)) xs ≡ flat_map line_bytes (flat_map f xs)
texts_joined f [] = refl
texts_joined f (x ∷ xs) = ap (λ bs. flat_map line_bytes (f x) ++ bs) (texts_joined f xs) ∙ sym (flat_map-append line_bytes (f x) (flat_map f xs))

-- the texts of three parts
pub three_texts : (top middle rest : List Item)
    → flat_map line_bytes top ++ (flat_map line_bytes middle ++ flat_map line_bytes rest) ≡ flat_map line_bytes (top ++ (middle ++ rest))
three_texts top middle rest =
    ap (λ bs. flat_map line_bytes top ++ bs) (sym (flat_map-append line_bytes middle rest))
    ∙ sym (flat_map-append line_bytes top (middle ++ rest))
