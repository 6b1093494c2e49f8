-- The least of the valued lengths of allowed routes, found over the first ends of routes.
use Rattle.std.proofs.Common.{◌≡◌, ◌≢◌, ℕ, zero, suc, ◌+◌, ◌-◌, ◌*◌, ◌<◌, ◌≤◌, nat_eq, true, false, min, None, if◌then◌else◌, List, length, slice_index, ◌⊎◌, inl, inr, ⊎_elim, refl, ap, subst, ◌∙◌, eqb-true, Fits, rules, arith}
use Rattle.std.proofs.lemmas.Bool.{cases_lt, eqb-false}
use Rattle.hub_spec.specs.Problem.{Problem, IsProblem, is_allowed}
use Rattle.hub_spec.proofs.PlanCosts.{any_allowed}
use Rattle.hub_spec.proofs.SumLemmas.{by_test}
use mir.Syntax.{w64}
use Rattle.unit_duals.specs.Limits.{most_length}
use Rattle.unit_duals.specs.Leasts.{least_of}
use Rattle.unit_duals.proofs.LeastNumbers.{least_of_le, least_of_le_start}
use Rattle.hub_model.specs.CandidateLengths.{candidate_at, length_ceiling}
use Rattle.leg_duals.specs.CandidateLegs.{collection_length, trunk_length, delivery_length}
use Rattle.cut_model.specs.ValueRows.{route_length, valued_length, if_allowed, allowed_price}
use Rattle.value_cuts.specs.Ends.{AreEnds, most_end}
use Rattle.leg_duals.proofs.CandidateTables.{candidate_node}
use Rattle.cut_model.proofs.ValueDuals.{MayGo, length_or_ceiling, whichever, price_within, price_below, price_above, length_alone, length_by_two}

-- a length by an end fits 64 bits
pub end_fits : (n : ℕ) → n ≤ most_end + most_length → Fits w64 n
end_fits n low = search (rules, arith)

-- a number that is above neither the start nor any of the numbers is not above the least
pub least_of_ge : (a start : ℕ) (f : ℕ → ℕ) (k : ℕ) → a ≤ start → ((m : ℕ) → m < k → a ≤ f m) → a ≤ least_of start f k
unfolding least_of
least_of_ge a start f zero low each = low
least_of_ge a start f (suc k) low each =
    omega (arith, least_of_ge a start f k low (λ m below. each m (omega (arith, below))), each k (omega arith))

-- ---- the least so far

-- the least of the ceiling, of the lengths by one place each, and of those by two of which the first is below `upto`:
-- it is above none of these, and no number that is above none of all lengths is above it
pub record IsLeastSoFar (ceiling q upto : ℕ) (alone : ℕ → ℕ) (by_two : ℕ → ℕ → ℕ) (least : ℕ) : Type 0 where
  pub low : least ≤ ceiling
  pub one : (x : ℕ) → x < q → least ≤ alone x
  pub two : (x y : ℕ) → x < upto → y < q → least ≤ by_two x y
  pub greatest : (a : ℕ) → a ≤ ceiling → ((x : ℕ) → x < q → a ≤ alone x) → ((x y : ℕ) → x < q → y < q → a ≤ by_two x y) → a ≤ least

pub least_start : (ceiling q least : ℕ) (alone f : ℕ → ℕ) (by_two : ℕ → ℕ → ℕ) → ((x : ℕ) → x < q → f x ≡ alone x)
    → least ≡ least_of ceiling f q → IsLeastSoFar ceiling q 0 alone by_two least
least_start ceiling q least alone f by_two same is = record {
  low = omega (arith, is, least_of_le_start ceiling f q);
  one = λ x within. omega (arith, is, least_of_le ceiling f q x within, same x within);
  two = λ x y none within. absurd (omega (arith, none));
  greatest = λ a low each pairs.
      omega (arith, is, least_of_ge a ceiling f q low (λ x within. omega (arith, each x within, same x within)));
}

-- the next first place leaves no room below the least
pub least_kept : (ceiling q x least end nearest : ℕ) (alone last : ℕ → ℕ) (by_two : ℕ → ℕ → ℕ)
    → ((y : ℕ) → y < q → (end + last y ≤ by_two x y) ⊎ (ceiling ≤ by_two x y)) → nearest ≡ least_of ceiling last q → least ≤ end + nearest
    → IsLeastSoFar ceiling q x alone by_two least → IsLeastSoFar ceiling q (x + 1) alone by_two least
least_kept ceiling q x least end nearest alone last by_two is near none so_far = record {
  low = so_far.low;
  one = so_far.one;
  two = λ z y below within. ⊎_elim (λ early. so_far.two z y early within)
      (λ late. (let same : x ≡ z = omega (arith, below, late) in
      subst (λ m. least ≤ by_two m y) same (⊎_elim
      (λ far. omega (arith, far, near, none, least_of_le ceiling last q y within))
      (λ top. omega (arith, top, so_far.low))
      (is y within))))
      (cases_lt z x);
  greatest = so_far.greatest;
}

-- by_two is the sum after that end, up to the least: it is not below the lesser of both, and what is above neither is not above the sum
pub record IsOnward (least end sum by_two : ℕ) : Type 0 where
  pub low : (least ≤ by_two) ⊎ (end + sum ≤ by_two)
  pub high : (a : ℕ) → a ≤ least → a ≤ by_two → a ≤ end + sum

-- the next first place may lower it
pub least_lowered : (ceiling q x least end rest : ℕ) (alone sum : ℕ → ℕ) (by_two : ℕ → ℕ → ℕ) → x < q
    → ((y : ℕ) → y < q → IsOnward least end (sum y) (by_two x y)) → end ≤ least → rest ≡ least_of (least - end) sum q
    → IsLeastSoFar ceiling q x alone by_two least → IsLeastSoFar ceiling q (x + 1) alone by_two (end + rest)
least_lowered ceiling q x least end rest alone sum by_two place is low least_rest so_far = record {
  low = omega (arith, no_more, so_far.low);
  one = λ z within. omega (arith, no_more, so_far.one z within);
  two = λ z y below within. ⊎_elim (λ early. omega (arith, no_more, so_far.two z y early within))
      (λ late. (let same : x ≡ z = omega (arith, below, late) in
      subst (λ m. end + rest ≤ by_two m y) same (⊎_elim
      (λ top. omega (arith, top, no_more))
      (λ far. omega (arith, far, least_rest, least_of_le (least - end) sum q y within))
      ((is y within).low))))
      (cases_lt z x);
  greatest = λ a top each pairs.
      (let before = so_far.greatest a top each pairs in
      let after = least_of_ge (a - end) (least - end) sum q (omega (arith, before))
      (λ y within. omega (arith, (is y within).high a before (pairs x y place within))) in
      omega (arith, after, least_rest));
}
  where
    no_more : end + rest ≤ least
    no_more = omega (arith, least_rest, least_of_le_start (least - end) sum q, low)

-- ---- over allowed routes

-- the length of an allowed route is below the least so far, which it becomes
pub least_by_allowed : (p : Problem) (c : ℕ × ℕ) (x y most least sum next : ℕ) → MayGo p c x y → sum < least → next ≡ sum
    → next ≡ min least (if_allowed p c x y sum most)
least_by_allowed p c x y most least sum next goes below is = rw goes (omega (arith, below, is))

-- the least stays: it is not above this length, or the route is not allowed
pub least_by_none : (p : Problem) (c : ℕ × ℕ) (x y most least sum next : ℕ) → least ≤ most
    → (least ≤ sum) ⊎ (is_allowed p c (candidate_at p x) (candidate_at p y) ≡ false) → next ≡ least
    → next ≡ min least (if_allowed p c x y sum most)
least_by_none p c x y most least sum next low why is = ⊎_elim
    (λ above. whichever p c x y sum most (λ n. next ≡ min least n) (λ goes. omega (arith, above, is)) (omega (arith, low, is)))
    (λ no. rw no (omega (arith, low, is)))
    why

-- an allowed leg of trunk with its last end comes after an end, and else the number up to the least
pub onward_where : (p : Problem) (c : ℕ × ℕ) (x y ceiling least end trunk last : ℕ) → least ≤ ceiling → end ≤ least
    → IsOnward least end (if_allowed p c x y (trunk + last) (least - end)) (if_allowed p c x y (end + trunk + last) ceiling)
onward_where p c x y ceiling least end trunk last low inside = by_test (is_allowed p c (candidate_at p x) (candidate_at p y))
    (λ yes. rw yes record { low = inr (omega arith); high = λ a top far. omega (arith, far) })
    (λ no. rw no record { low = inl low; high = λ a top far. omega (arith, top, inside) })

-- a length by two is no less than its ends
pub beyond_where : (p : Problem) (c : ℕ × ℕ) (x y ceiling end trunk last : ℕ)
    → (end + last ≤ if_allowed p c x y (end + trunk + last) ceiling) ⊎ (ceiling ≤ if_allowed p c x y (end + trunk + last) ceiling)
beyond_where p c x y ceiling end trunk last = by_test (is_allowed p c (candidate_at p x) (candidate_at p y))
    (λ yes. rw yes (inl (omega arith)))
    (λ no. rw no (inr (omega arith)))

-- ---- it is the price

pub alone_length : (p : Problem) (c : ℕ × ℕ) (v : ℕ → ℕ) (first : List ℕ) (x : ℕ) → IsProblem p → AreEnds p (collection_length p c.0) v first
    → x < length p.candidates → valued_length p c v x x ≡ slice_index first x + delivery_length p c.1 x
unfolding route_length
alone_length p c v first x ok ends within =
    let k = candidate_at p x in
    let here = ap (λ d. p.trunk * d) (ok.distance_to_itself k (candidate_node p x ok within)) in
    omega (arith, length_alone p c v x, ends.each x within, here)

pub by_two_length : (p : Problem) (c : ℕ × ℕ) (v : ℕ → ℕ) (first last : List ℕ) (x y : ℕ) → AreEnds p (collection_length p c.0) v first
    → AreEnds p (delivery_length p c.1) v last → x < length p.candidates → y < length p.candidates → x ≢ y
    → valued_length p c v x y ≡ slice_index first x + trunk_length p x y + slice_index last y
unfolding route_length
by_two_length p c v first last x y first_ends last_ends x_within y_within apart =
    omega (arith, length_by_two p c v x y apart, first_ends.each x x_within, last_ends.each y y_within)

-- the length by one hub where it is allowed, and that by two, each by the ends, and else the ceiling
abbrev pub one_or_ceiling : Problem → ℕ × ℕ → List ℕ → ℕ → ℕ
one_or_ceiling p c first x = if_allowed p c x x (slice_index first x + delivery_length p c.1 x) (length_ceiling p)

abbrev pub two_or_ceiling : Problem → ℕ × ℕ → List ℕ → List ℕ → ℕ → ℕ → ℕ
two_or_ceiling p c first last x y =
    if_allowed p c x y (slice_index first x + trunk_length p x y + slice_index last y) (length_ceiling p)

-- where the length of routes is not limited, all are allowed
pub least_of_any : (p : Problem) (c : ℕ × ℕ) (first last : List ℕ) (q upto least : ℕ) → p.longest ≡ None
    → IsLeastSoFar (length_ceiling p) q upto (λ x. slice_index first x + delivery_length p c.1 x)
    (λ x y. slice_index first x + trunk_length p x y + slice_index last y) least
    → IsLeastSoFar (length_ceiling p) q upto (one_or_ceiling p c first) (two_or_ceiling p c first last) least
least_of_any p c first last q upto least any so_far = record {
  low = so_far.low;
  one = λ x within. omega (arith, so_far.one x within, one x);
  two = λ x y below within. omega (arith, so_far.two x y below within, two x y);
  greatest = λ a low each pairs. so_far.greatest a low (λ x within. omega (arith, each x within, one x))
      (λ x y first_in last_in. omega (arith, pairs x y first_in last_in, two x y));
}
  where
    one : (x : ℕ) → one_or_ceiling p c first x ≡ slice_index first x + delivery_length p c.1 x
    one x = rw (any_allowed p c (candidate_at p x) (candidate_at p x) any) refl

    two : (x y : ℕ) → two_or_ceiling p c first last x y ≡ slice_index first x + trunk_length p x y + slice_index last y
    two x y = rw (any_allowed p c (candidate_at p x) (candidate_at p y) any) refl

pub least_is_price : (p : Problem) (c : ℕ × ℕ) (v : ℕ → ℕ) (first last : List ℕ) (upto least : ℕ) → IsProblem p
    → AreEnds p (collection_length p c.0) v first → AreEnds p (delivery_length p c.1) v last → length p.candidates ≤ upto
    → IsLeastSoFar (length_ceiling p) (length p.candidates) upto (one_or_ceiling p c first) (two_or_ceiling p c first last) least
    → least ≡ allowed_price p c v
least_is_price p c v first last upto least ok first_ends last_ends all so_far =
    omega (
      arith,
      price_above p c v least so_far.low not_above,
      so_far.greatest (allowed_price p c v) top alone_above by_two_above,
    )
  where
    top : allowed_price p c v ≤ length_ceiling p
    top = price_within p c v

    alone_above : (x : ℕ) → x < length p.candidates → allowed_price p c v ≤ one_or_ceiling p c first x
    alone_above x within = whichever p c x x (slice_index first x + delivery_length p c.1 x) (length_ceiling p) (λ n. allowed_price p c v ≤ n)
        (λ goes. omega (arith, price_below p c v x x within within goes, alone_length p c v first x ok first_ends within)) top

    by_two_above : (x y : ℕ) → x < length p.candidates → y < length p.candidates → allowed_price p c v ≤ two_or_ceiling p c first last x y
    by_two_above x y x_within y_within =
        whichever p c x y (slice_index first x + trunk_length p x y + slice_index last y) (length_ceiling p) (λ n. allowed_price p c v ≤ n)
        (λ goes. by_test (nat_eq x y)
        (λ e. (let same = ap (slice_index last) (eqb-true x y e) in
        let length = ap (valued_length p c v x) (eqb-true x y e) in
        omega (
          arith,
          price_below p c v x y x_within y_within goes,
          length,
          alone_length p c v first x ok first_ends x_within,
          last_ends.each x x_within,
          same,
        )))
        (λ e. omega (
          arith,
          price_below p c v x y x_within y_within goes,
          by_two_length p c v first last x y first_ends last_ends x_within y_within (eqb-false x y e),
        )))
        top

    not_above : (x y : ℕ) → x < length p.candidates → y < length p.candidates → least ≤ length_or_ceiling p c v x y
    not_above x y x_within y_within = whichever p c x y (valued_length p c v x y) (length_ceiling p) (λ n. least ≤ n)
        (λ goes. by_test (nat_eq x y)
        (λ e. (let same = ap (valued_length p c v x) (eqb-true x y e) in
        let single : MayGo p c x x = ap (λ z. is_allowed p c (candidate_at p x) (candidate_at p z)) (eqb-true x y e) ∙ goes in
        let here : one_or_ceiling p c first x ≡ slice_index first x + delivery_length p c.1 x = rw single refl in
        omega (arith, so_far.one x x_within, here, alone_length p c v first x ok first_ends x_within, same)))
        (λ e. (let here : two_or_ceiling p c first last x y ≡ slice_index first x + trunk_length p x y + slice_index last y = rw goes refl in
        omega (
          arith,
          here,
          so_far.two x y (omega (arith, x_within, all)) y_within,
          by_two_length p c v first last x y first_ends last_ends x_within y_within (eqb-false x y e),
        ))))
        so_far.low
