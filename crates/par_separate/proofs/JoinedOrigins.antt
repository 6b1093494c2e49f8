-- The duals of the origins, one origin after another, are those of the commodities in order.
use Rattle.std.proofs.Common.{◌≡◌, ℕ, List, [], ◌∷◌, ◌++◌, map, flat_map, refl, sym, ap, ap₂, ◌∙◌}
use Rattle.std.proofs.lemmas.List.{map-append}
use Rattle.std.specs.List.{AllZip, range_with_len}
use Rattle.hub_spec.specs.Problem.{commodities}
use Rattle.hub_spec.specs.Cuts.{Prices, cut_by}
use Rattle.hub_spec.specs.Separation.{minimal_dual, set_cut}
use Rattle.pareto_cuts.specs.Separations.{SetSeparation}
use Rattle.par_separate.specs.Origins.{AreMinimalDualsFrom}

map_pairs : {B : Type 0} (f : ℕ × ℕ → B) (i : ℕ) (js : List ℕ) → map (λ j. f (i, j)) js ≡ map f (map (λ j. (i, j)) js)
map_pairs f i [] = refl
map_pairs f i (j ∷ js) = ap (λ xs. f (i, j) ∷ xs) (map_pairs f i js)

rows_in_turn : {B V : Type 0} (row : V → List B) (f : ℕ × ℕ → B) (js is : List ℕ) (rows : List V)
    → AllZip (λ i r. row r ≡ map (λ j. f (i, j)) js) is rows
    → flat_map row rows ≡ map f (flat_map (λ i. map (λ j. (i, j)) js) is)
rows_in_turn row f js [] [] h = refl
rows_in_turn row f js [] (r ∷ rows) h = absurd h
rows_in_turn row f js (i ∷ is) [] h = absurd h
rows_in_turn row f js (i ∷ is) (r ∷ rows) h =
    ap₂ (λ xs ys. xs ++ ys) (h.0 ∙ map_pairs f i js) (rows_in_turn row f js is rows h.1)
    ∙ sym (map-append f (map (λ j. (i, j)) js) (flat_map (λ i. map (λ j. (i, j)) js) is))

-- where each row has the duals of its origin, they are the cut's
pub joined_cut : {V : Type 0} (row : V → List Prices) (s : SetSeparation) (rows : List V)
    → AllZip (λ i r. AreMinimalDualsFrom s i (row r)) (range_with_len 0 s.problem.size) rows
    → cut_by (flat_map row rows) ≡ set_cut s.problem s.hubs s.order
unfolding set_cut commodities
joined_cut row s rows each =
    let nodes = range_with_len 0 s.problem.size in
    ap cut_by (rows_in_turn row (minimal_dual s.problem s.hubs s.order) nodes nodes rows each)
