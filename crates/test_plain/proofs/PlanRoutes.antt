-- The hubs of a plan, and its routes so far, in a loop over all commodities by i and j.
use Rattle.std.proofs.Common.{◌≡◌, ℕ, ◌+◌, ◌*◌, ◌<◌, ◌≤◌, List, [], ◌∷◌, ◌++◌, length, take, get_or, subst, sym, ap, ◌∙◌, arith}
use Rattle.std.specs.List.{AllZip}
use Rattle.std.proofs.lemmas.List.{take_all, take_more}
use Rattle.hub_spec.specs.Problem.{Problem, commodities}
use Rattle.hub_spec.specs.Plans.{IsRoute}
use Rattle.hub_spec.proofs.Commodities.{next_route, commodity_index, length_commodities}

-- the first t routes are those of the first t commodities
pub record AreRoutes (p : Problem) (hubs : List ℕ) (routes : List (ℕ × ℕ)) (t : ℕ) : Type 0 where
  pub first : AllZip (IsRoute p hubs) (take t (commodities p.size)) (take t routes)

pub no_routes : (p : Problem) (hubs : List ℕ) (routes : List (ℕ × ℕ)) → AreRoutes p hubs routes 0
no_routes p hubs routes = record { first = tt }

pub one_route_more : (p : Problem) (hubs : List ℕ) (routes : List (ℕ × ℕ)) (i j : ℕ) (r : ℕ × ℕ)
    → length routes ≡ p.size * p.size → i < p.size → j < p.size → r ≡ get_or routes (i * p.size + j) (0, 0) → IsRoute p hubs (i, j) r
    → AreRoutes p hubs routes (i * p.size + j) → AreRoutes p hubs routes (i * p.size + (j + 1))
one_route_more p hubs routes i j r long row column is here so_far =
    let t = i * p.size + j in
    let place : t + 1 ≡ i * p.size + (j + 1) = omega arith in
    let grown : take (i * p.size + (j + 1)) routes ≡ take t routes ++ r ∷ [] =
    ap (λ m. take m routes) (sym place)
    ∙ take_more routes t (0, 0) (omega (arith, long, commodity_index p.size i j row column))
    ∙ ap (λ x. take t routes ++ x ∷ []) (sym is) in
    record { first = rw grown (next_route (IsRoute p hubs) p.size i j (take t routes) r row column so_far.first here) }

pub all_routes : (p : Problem) (hubs : List ℕ) (routes : List (ℕ × ℕ)) (i : ℕ) → length routes ≡ p.size * p.size
    → p.size ≤ i → i ≤ p.size
    → AreRoutes p hubs routes (i * p.size) → AllZip (IsRoute p hubs) (commodities p.size) routes
all_routes p hubs routes i long all within so_far =
    let last : i ≡ p.size = omega arith in
    let square = ap (λ (m : ℕ). m * p.size) last in
    let cs : take (i * p.size) (commodities p.size) ≡ commodities p.size =
    take_all (i * p.size) (commodities p.size) (omega (arith, square, length_commodities p.size)) in
    let rs : take (i * p.size) routes ≡ routes = take_all (i * p.size) routes (omega (arith, square, long)) in
    subst (λ (xs : List (ℕ × ℕ)). AllZip (IsRoute p hubs) (commodities p.size) xs) rs
    (subst (λ (xs : List (ℕ × ℕ)). AllZip (IsRoute p hubs) xs (take (i * p.size) routes)) cs so_far.first)
