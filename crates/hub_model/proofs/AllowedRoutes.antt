-- The best route so far, in a loop over first hubs and last hubs that passes over those that are not allowed.
use Rattle.std.proofs.Common.{◌≡◌, ℕ, ◌+◌, ◌<◌, ◌≤◌, true, false, List, length, get_or, Option, Some, None, ◌⊎◌, sym, ◌∙◌, subst, ⊎_elim, below_more, true≢false, refl, ◌*◌, arith}
use Rattle.std.specs.Prelude.{IfSome}
use Rattle.std.specs.Option.{IsSome}
use Rattle.std.proofs.lemmas.List.{get_or_default}
use Rattle.std.proofs.lemmas.List.Elements.{All-get_or, All-contains, Contains-get_or}
use Rattle.std.proofs.lemmas.Bool.{cases_lt}
use Rattle.hub_spec.specs.Limits.{most_cost}
use Rattle.hub_spec.specs.Problem.{Problem, IsProblem, route_cost, is_allowed, commodities}
use Rattle.hub_spec.specs.Plans.{IsHubSet, IsRoute, HasRoute, IsLeastRoute, cost_of_route, IsNotAfter}
use Rattle.hub_spec.proofs.BestRoutes.{not_after_trans}
use Rattle.hub_spec.proofs.Commodities.{commodity_index, commodity_at_index, length_commodities}
use Rattle.hub_spec.proofs.Limits.{hubs_are_nodes, route_cost_limit}
use Rattle.hub_model.specs.declared.routes.Route.{Route}
use Rattle.hub_model.specs.FirstRoutes.{hubs_of, IsCheapest}

-- a route of the commodity with its cost
pub record IsPriced (p : Problem) (hubs : List ℕ) (c : ℕ × ℕ) (r : Route) : Type 0 where
  pub is_route : IsRoute p hubs c (hubs_of r)
  pub cost : r.cost ≡ cost_of_route p (c, hubs_of r)

-- there is a route, and it is not after the other one
abbrev IsFirst : Problem → ℕ × ℕ → Option Route → ℕ × ℕ → Type 0
IsFirst p c None other = ⊥
IsFirst p c (Some r) other = IsNotAfter r.cost (hubs_of r) (cost_of_route p (c, other)) other

-- the route through the hubs at places a and b, if it is allowed, is not before the best one
abbrev IsFirstOf : Problem → List ℕ → ℕ × ℕ → Option Route → ℕ → ℕ → Type 0
IsFirstOf p hubs c best a b = is_allowed p c (get_or hubs a 0) (get_or hubs b 0) ≡ true → IsFirst p c best (get_or hubs a 0, get_or hubs b 0)

-- the best route of those whose first hub is at a place before `row`, and of those at `row` whose last hub is at a place before `column`
pub record IsBest (p : Problem) (hubs : List ℕ) (c : ℕ × ℕ) (best : Option Route) (row column : ℕ) : Type 0 where
  pub priced : IfSome best (IsPriced p hubs c)
  pub rows : (a b : ℕ) → a < row → b < length hubs → IsFirstOf p hubs c best a b
  pub columns : (b : ℕ) → b < column → IsFirstOf p hubs c best row b

pub best_none : (p : Problem) (hubs : List ℕ) (c : ℕ × ℕ) → IsBest p hubs c None 0 0
best_none p hubs c = record {
  priced = tt;
  rows = λ a b below within. absurd (omega (arith, below));
  columns = λ b below. absurd (omega (arith, below));
}

pub best_row : (p : Problem) (hubs : List ℕ) (c : ℕ × ℕ) (best : Option Route) (row column : ℕ) → length hubs ≤ column
    → IsBest p hubs c best row column → IsBest p hubs c best (row + 1) 0
best_row p hubs c best row column all so_far = record {
  priced = so_far.priced;
  rows = λ a b below within. ⊎_elim (λ early. so_far.rows a b early within)
      (λ late. (let same : row ≡ a = omega (arith, late, below) in
      subst (λ (x : ℕ). IsFirstOf p hubs c best x b) same (so_far.columns b (omega (arith, all, within))))) (cases_lt a row);
  columns = λ b below. absurd (omega (arith, below));
}

-- a route that is not allowed is passed over
pub best_passed : (p : Problem) (hubs : List ℕ) (c : ℕ × ℕ) (best : Option Route) (row column : ℕ)
    → is_allowed p c (get_or hubs row 0) (get_or hubs column 0) ≡ false → IsBest p hubs c best row column
    → IsBest p hubs c best row (column + 1)
best_passed p hubs c best row column forbidden so_far = record {
  priced = so_far.priced;
  rows = so_far.rows;
  columns = below_more (IsFirstOf p hubs c best row) column so_far.columns (λ allowed. absurd (true≢false (sym allowed ∙ forbidden)));
}

-- what is not after the best so far is not after what that is not after
still_first : (p : Problem) (c : ℕ × ℕ) (best : Option Route) (next : Route) (other : ℕ × ℕ)
    → IfSome best (λ b. IsNotAfter next.cost (hubs_of next) b.cost (hubs_of b)) → IsFirst p c best other → IsFirst p c (Some next) other
still_first p c None next other not_after first = absurd first
still_first p c (Some b) next other not_after first =
    not_after_trans next.cost b.cost (cost_of_route p (c, other)) (hubs_of next) (hubs_of b) other not_after first

priced_next : (p : Problem) (hubs : List ℕ) (c : ℕ × ℕ) (best : Option Route) (next this : Route)
    → IfSome best (IsPriced p hubs c) → IsPriced p hubs c this → (Some next ≡ best) ⊎ (next ≡ this) → IsPriced p hubs c next
priced_next p hubs c best next this before here one_of =
    ⊎_elim (λ same. subst (λ (o : Option Route). IfSome o (IsPriced p hubs c)) (sym same) before)
    (λ same. subst (IsPriced p hubs c) (sym same) here) one_of

-- one that is allowed is taken where it is better
pub best_taken : (p : Problem) (hubs : List ℕ) (c : ℕ × ℕ) (best : Option Route) (next this : Route) (row column : ℕ)
    → row < length hubs → column < length hubs → IsBest p hubs c best row column
    → this ≡ record { first = get_or hubs row 0; last = get_or hubs column 0; cost = cost_of_route p (c, (get_or hubs row 0, get_or hubs column 0)) }
    → is_allowed p c (get_or hubs row 0) (get_or hubs column 0) ≡ true
    → (Some next ≡ best) ⊎ (next ≡ this) → IfSome best (λ b. IsNotAfter next.cost (hubs_of next) b.cost (hubs_of b))
    → IsNotAfter next.cost (hubs_of next) this.cost (hubs_of this) → IsBest p hubs c (Some next) row (column + 1)
best_taken p hubs c best next this row column in_row in_column so_far is allowed one_of not_after_best not_after_this =
    let k = get_or hubs row 0 in
    let m = get_or hubs column 0 in
    let here : IsPriced p hubs c (record { first = k; last = m; cost = cost_of_route p (c, (k, m)) }) = record {
      is_route = record { first = Contains-get_or hubs row 0 in_row; last = Contains-get_or hubs column 0 in_column; allowed = allowed };
      cost = refl;
    } in
    record {
      priced = priced_next p hubs c best next this so_far.priced (subst (IsPriced p hubs c) (sym is) here) one_of;
      rows = λ a b below within may. still_first p c best next (get_or hubs a 0, get_or hubs b 0) not_after_best (so_far.rows a b below within may);
      columns = below_more (IsFirstOf p hubs c (Some next) row) column
          (λ b below may. still_first p c best next (k, get_or hubs b 0) not_after_best (so_far.columns b below may))
          (λ may. subst (λ (r : Route). IsNotAfter next.cost (hubs_of next) r.cost (hubs_of r)) is not_after_this);
    }

-- ---- where all places were tried

at_place : (hubs : List ℕ) (k x : ℕ) → k < length hubs → get_or hubs k x ≡ x → get_or hubs k 0 ≡ x
at_place hubs k x l e = get_or_default hubs k 0 x l ∙ e

first_of_routes : (p : Problem) (hubs : List ℕ) (c : ℕ × ℕ) (best : Option Route) (row column : ℕ) (other : ℕ × ℕ) → length hubs ≤ row
    → IsBest p hubs c best row column → IsRoute p hubs c other → IsFirst p c best other
first_of_routes p hubs c best row column other all so_far taken =
    let a = taken.first in
    let b = taken.last in
    let f = at_place hubs a.0 other.0 a.1 a.2 in
    let g = at_place hubs b.0 other.1 b.1 b.2 in
    let at_first : IsFirstOf p hubs c best a.0 b.0 = so_far.rows a.0 b.0 (omega (arith, a.1, all)) b.1 in
    let named = subst (λ (x : ℕ). is_allowed p c x (get_or hubs b.0 0) ≡ true → IsFirst p c best (x, get_or hubs b.0 0)) f at_first in
    subst (λ (x : ℕ). is_allowed p c other.0 x ≡ true → IsFirst p c best (other.0, x)) g named taken.allowed

-- ---- of a hub set there is one

pub set_has_route : (p : Problem) (hubs : List ℕ) (i j : ℕ) → IsHubSet p hubs → i < p.size → j < p.size → HasRoute p hubs (i, j)
set_has_route p hubs i j set row column =
    subst (HasRoute p hubs) (commodity_at_index p.size i j (0, 0) row column)
    (All-get_or (HasRoute p hubs) (commodities p.size) (i * p.size + j) (0, 0)
    (omega (arith, length_commodities p.size, commodity_index p.size i j row column)) set.lacks_none)

pub some_cheapest : (p : Problem) (hubs : List ℕ) (c : ℕ × ℕ) (best : Option Route) → HasRoute p hubs c → IsCheapest p hubs c best
    → IsSome best
some_cheapest p hubs c None has none = absurd (none has)
some_cheapest p hubs c (Some r) has cheapest = refl

-- the cost of a route within its limit
pub least_route_limit : (p : Problem) (hubs : List ℕ) (i j : ℕ) (r : ℕ × ℕ) → IsProblem p → IsHubSet p hubs → i < p.size → j < p.size
    → IsLeastRoute p hubs (i, j) r → route_cost p i j r.0 r.1 ≤ most_cost
least_route_limit p hubs i j r ok set from to least =
    let nodes = hubs_are_nodes p hubs ok.limits set in
    route_cost_limit p i j r.0 r.1 ok from to (All-contains (λ k. k < p.size) hubs r.0 nodes least.is_route.first)
    (All-contains (λ k. k < p.size) hubs r.1 nodes least.is_route.last)
