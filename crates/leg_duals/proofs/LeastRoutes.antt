-- The least route by unit of flow, in a loop over first hubs and last hubs, some of which are passed over.
use Rattle.std.proofs.Common.{◌≡◌, ℕ, ◌+◌, ◌*◌, ◌<◌, ◌≤◌, true, false, List, length, get_or, Option, Some, None, ◌⊎◌, refl, sym, ap, subst, ⊎_elim, ◌∙◌, mul-le-mul_left, true≢false, below_more, arith}
use Rattle.std.specs.Prelude.{IfSome}
use Rattle.std.specs.Option.{IsSome}
use Rattle.std.proofs.lemmas.Bool.{cases_lt}
use Rattle.std.proofs.lemmas.List.{get_or_default}
use Rattle.std.proofs.lemmas.List.Elements.{Contains-get_or}
use Rattle.hub_spec.specs.Problem.{Problem, flow, route_cost, is_allowed}
use Rattle.hub_spec.specs.Plans.{IsRoute, HasRoute, IsNotAfter, cost_of_route}
use Rattle.hub_spec.proofs.BestRoutes.{not_after_trans}
use Rattle.leg_duals.specs.declared.routes.LimitedRoute.{LimitedRoute}
use Rattle.leg_duals.specs.Routes.{unit_length, hubs_of, IsShortest}

-- the flow times the length is the cost
pub unit_costs : (p : Problem) (i j k m : ℕ) → flow p i j * unit_length p i j k m ≡ route_cost p i j k m
unfolding route_cost
unit_costs p i j k m = refl

scaled_lt : (w a b : ℕ) → 1 ≤ w → a < b → w * a < w * b
scaled_lt w a b some less = omega (arith, mul-le-mul_left w (next a b less), some)
  where
    next : (x y : ℕ) → x < y → x + 1 ≤ y
    next x y h = omega (arith, h)

-- ---- the best so far

-- a route of the commodity with its length
pub record IsMeasured (p : Problem) (hubs : List ℕ) (i j : ℕ) (r : LimitedRoute) : Type 0 where
  pub is_route : IsRoute p hubs (i, j) (hubs_of r)
  pub is_length : r.length ≡ unit_length p i j r.first r.last

-- there is a route, and it is not after the other one
abbrev IsFirst : Problem → ℕ → ℕ → Option LimitedRoute → ℕ × ℕ → Type 0
IsFirst p i j None other = ⊥
IsFirst p i j (Some r) other = IsNotAfter r.length (hubs_of r) (unit_length p i j other.0 other.1) other

-- the route through the hubs at places a and b, if it is allowed, is not before the best one
abbrev IsFirstOf : Problem → List ℕ → ℕ → ℕ → Option LimitedRoute → ℕ → ℕ → Type 0
IsFirstOf p hubs i j best a b = is_allowed p (i, j) (get_or hubs a 0) (get_or hubs b 0) ≡ true → IsFirst p i j best (get_or hubs a 0, get_or hubs b 0)

-- the best route of those whose first hub is at a place before `row`, and of those at `row` whose last hub is at a place before `column`
pub record IsBest (p : Problem) (hubs : List ℕ) (i j : ℕ) (best : Option LimitedRoute) (row column : ℕ) : Type 0 where
  pub measured : IfSome best (IsMeasured p hubs i j)
  pub rows : (a b : ℕ) → a < row → b < length hubs → IsFirstOf p hubs i j best a b
  pub columns : (b : ℕ) → b < column → IsFirstOf p hubs i j best row b

pub best_none : (p : Problem) (hubs : List ℕ) (i j : ℕ) → IsBest p hubs i j None 0 0
best_none p hubs i j = record {
  measured = tt;
  rows = λ a b below within. absurd (omega (arith, below));
  columns = λ b below. absurd (omega (arith, below));
}

-- the next row, where all of this one is not before the best
row_more : (p : Problem) (hubs : List ℕ) (i j : ℕ) (best : Option LimitedRoute) (row column : ℕ) → IsBest p hubs i j best row column
    → ((b : ℕ) → b < length hubs → IsFirstOf p hubs i j best row b) → IsBest p hubs i j best (row + 1) 0
row_more p hubs i j best row column so_far here = record {
  measured = so_far.measured;
  rows = λ a b below within. ⊎_elim (λ early. so_far.rows a b early within)
      (λ (late : row ≤ a). (let same : row ≡ a = omega (arith, late, below) in
      subst (λ (x : ℕ). IsFirstOf p hubs i j best x b) same (here b within))) (cases_lt a row);
  columns = λ b below. absurd (omega (arith, below));
}

pub best_row : (p : Problem) (hubs : List ℕ) (i j : ℕ) (best : Option LimitedRoute) (row column : ℕ) → length hubs ≤ column
    → IsBest p hubs i j best row column → IsBest p hubs i j best (row + 1) 0
best_row p hubs i j best row column all so_far =
    row_more p hubs i j best row column so_far (λ b within. so_far.columns b (omega (arith, all, within)))

-- a route that is not allowed is passed over
pub best_passed : (p : Problem) (hubs : List ℕ) (i j : ℕ) (best : Option LimitedRoute) (row column : ℕ)
    → is_allowed p (i, j) (get_or hubs row 0) (get_or hubs column 0) ≡ false → IsBest p hubs i j best row column
    → IsBest p hubs i j best row (column + 1)
best_passed p hubs i j best row column forbidden so_far = record {
  measured = so_far.measured;
  rows = so_far.rows;
  columns = below_more (IsFirstOf p hubs i j best row) column so_far.columns (λ allowed. absurd (true≢false (sym allowed ∙ forbidden)));
}

-- what is not after the best so far is not after what that is not after
still_first : (p : Problem) (i j : ℕ) (best : Option LimitedRoute) (next : LimitedRoute) (other : ℕ × ℕ)
    → IfSome best (λ b. IsNotAfter next.length (hubs_of next) b.length (hubs_of b)) → IsFirst p i j best other → IsFirst p i j (Some next) other
still_first p i j None next other not_after first = absurd first
still_first p i j (Some b) next other not_after first =
    not_after_trans next.length b.length (unit_length p i j other.0 other.1) (hubs_of next) (hubs_of b) other not_after first

-- one that is allowed is taken where it is better
pub best_taken : (p : Problem) (hubs : List ℕ) (i j : ℕ) (best : Option LimitedRoute) (next this : LimitedRoute) (row column : ℕ)
    → row < length hubs → column < length hubs → IsBest p hubs i j best row column
    → this ≡ record { first = get_or hubs row 0; last = get_or hubs column 0; length = unit_length p i j (get_or hubs row 0) (get_or hubs column 0) }
    → is_allowed p (i, j) (get_or hubs row 0) (get_or hubs column 0) ≡ true
    → (Some next ≡ best) ⊎ (next ≡ this) → IfSome best (λ b. IsNotAfter next.length (hubs_of next) b.length (hubs_of b))
    → IsNotAfter next.length (hubs_of next) this.length (hubs_of this) → IsBest p hubs i j (Some next) row (column + 1)
best_taken p hubs i j best next this row column in_row in_column so_far is allowed one_of not_after_best not_after_this =
    let k = get_or hubs row 0 in
    let m = get_or hubs column 0 in
    let here : IsMeasured p hubs i j (record { first = k; last = m; length = unit_length p i j k m }) = record {
      is_route = record { first = Contains-get_or hubs row 0 in_row; last = Contains-get_or hubs column 0 in_column; allowed = allowed };
      is_length = refl;
    } in
    record {
      measured = ⊎_elim (λ same. subst (λ (o : Option LimitedRoute). IfSome o (IsMeasured p hubs i j)) (sym same) so_far.measured)
          (λ same. subst (IsMeasured p hubs i j) (sym (same ∙ is)) here) one_of;
      rows = λ a b below within may. still_first p i j best next (get_or hubs a 0, get_or hubs b 0) not_after_best (so_far.rows a b below within may);
      columns = below_more (IsFirstOf p hubs i j (Some next) row) column
          (λ b below may. still_first p i j best next (k, get_or hubs b 0) not_after_best (so_far.columns b below may))
          (λ may. subst (λ (r : LimitedRoute). IsNotAfter next.length (hubs_of next) r.length (hubs_of r)) is not_after_this);
    }

-- ---- where all places were tried

first_of_routes : (p : Problem) (hubs : List ℕ) (i j : ℕ) (best : Option LimitedRoute) (row column : ℕ) (other : ℕ × ℕ) → length hubs ≤ row
    → IsBest p hubs i j best row column → IsRoute p hubs (i, j) other → IsFirst p i j best other
first_of_routes p hubs i j best row column other all so_far taken =
    let a = taken.first in
    let b = taken.last in
    let f : get_or hubs a.0 0 ≡ other.0 = get_or_default hubs a.0 0 other.0 a.1 ∙ a.2 in
    let g : get_or hubs b.0 0 ≡ other.1 = get_or_default hubs b.0 0 other.1 b.1 ∙ b.2 in
    let at_first : IsFirstOf p hubs i j best a.0 b.0 = so_far.rows a.0 b.0 (omega (arith, a.1, all)) b.1 in
    let named = subst (λ (x : ℕ). is_allowed p (i, j) x (get_or hubs b.0 0) ≡ true → IsFirst p i j best (x, get_or hubs b.0 0)) f at_first in
    subst (λ (x : ℕ). is_allowed p (i, j) other.0 x ≡ true → IsFirst p i j best (other.0, x)) g named taken.allowed

pub best_is_shortest : (p : Problem) (hubs : List ℕ) (i j : ℕ) (best : Option LimitedRoute) (row column : ℕ) → 1 ≤ flow p i j → length hubs ≤ row
    → IsBest p hubs i j best row column → IsShortest p hubs (i, j) best
best_is_shortest p hubs i j None row column some all so_far = λ has. first_of_routes p hubs i j None row column has.0 all so_far has.1
best_is_shortest p hubs i j (Some r) row column some all so_far = (
  record {
    is_route = so_far.measured.is_route;
    least = λ other taken. ⊎_elim (λ h. omega (arith, scaled_lt w r.length (long other) some h, cost other, here))
        (λ h. omega (arith, ap (λ (x : ℕ). w * x) h.0, cost other, here)) (before other taken);
    first = λ other taken same. ⊎_elim (λ h. absurd (omega (arith, scaled_lt w r.length (long other) some h, cost other, here, same)))
        (λ h. h.1) (before other taken);
  },
  so_far.measured.is_length,
)
  where
    w : ℕ
    w = flow p i j

    long : ℕ × ℕ → ℕ
    long other = unit_length p i j other.0 other.1

    cost : (other : ℕ × ℕ) → w * long other ≡ cost_of_route p ((i, j), other)
    cost other = unit_costs p i j other.0 other.1

    here : w * r.length ≡ cost_of_route p ((i, j), hubs_of r)
    here = ap (λ (x : ℕ). w * x) so_far.measured.is_length ∙ unit_costs p i j r.first r.last

    before : (other : ℕ × ℕ) → IsRoute p hubs (i, j) other → IsFirst p i j (Some r) other
    before other taken = first_of_routes p hubs i j (Some r) row column other all so_far taken

pub some_shortest : (p : Problem) (hubs : List ℕ) (c : ℕ × ℕ) (best : Option LimitedRoute) → HasRoute p hubs c → IsShortest p hubs c best → IsSome best
some_shortest p hubs c None has none = absurd (none has)
some_shortest p hubs c (Some r) has shortest = refl
