-- The values that are listed, put by unit of another flow one by one.
use Rattle.std.proofs.Common.{◌≡◌, ◌≢◌, ℕ, ◌+◌, ◌*◌, ◌<◌, ◌≤◌, ◌⊎◌, inl, inr, List, length, map, take, get_or, slice_index, All, ⊎_elim, refl, ap, sym, subst, ◌∙◌, arith}
use Rattle.std.specs.List.Sorted.{IsStrictlyIncreasing}
use Rattle.std.proofs.lemmas.Bool.{cases_eq}
use Rattle.std.proofs.lemmas.List.{take_all}
use Rattle.std.proofs.lemmas.List.Elements.{All-get_or, All-from_get_or}
use Rattle.hub_spec.specs.Problem.{Problem}
use Rattle.hub_spec.specs.Cuts.{value_at}
use Rattle.hub_spec.proofs.ListedValues.{first_value_within, next_value, IsNextValue}
use Rattle.hub_model.specs.CandidateLengths.{candidate_at}
use Rattle.dual_lines.specs.Units.{most_unit, AreUnits}
use Rattle.dual_lines.specs.Places.{ArePlaces}

-- the values of the first entries are by unit of this flow, and nothing is listed for a place only where it has none
pub record ArePutUpTo (p : Problem) (cost : ℕ) (listed : List (ℕ × ℕ)) (upto : ℕ) (units : List ℕ) : Type 0 where
  pub long : length units ≡ length p.candidates
  pub limit : All (λ v. v ≤ most_unit) units
  pub all : (x : ℕ) → x < length p.candidates
      → (cost * slice_index units x ≤ value_at listed (candidate_at p x)) ⊎ (value_at (take upto listed) (candidate_at p x) ≡ 0)
  pub one : (x : ℕ) → x < length p.candidates → slice_index units x ≤ value_at listed (candidate_at p x)

pub put_none : (p : Problem) (before cost : ℕ) (listed : List (ℕ × ℕ)) (units : List ℕ) → AreUnits p before (value_at listed) units
    → ArePutUpTo p cost listed 0 units
put_none p before cost listed units are = record {
  long = are.long;
  limit = are.limit;
  all = λ x below. inr refl;
  one = are.one;
}

-- a place has what it had, or what is put there
pub put_more : (p : Problem) (cost : ℕ) (places : List ℕ) (listed : List (ℕ × ℕ)) (t unit : ℕ) (units after : List ℕ) → ArePlaces p places
    → IsStrictlyIncreasing (map (λ (e : ℕ × ℕ). e.0) listed) → t < length listed → (get_or listed t (0, 0)).0 < p.size
    → cost * unit ≤ (get_or listed t (0, 0)).1 → unit ≤ (get_or listed t (0, 0)).1 → unit ≤ most_unit
    → (slice_index places (get_or listed t (0, 0)).0 < length units → slice_index after (slice_index places (get_or listed t (0, 0)).0) ≡ unit)
    → ((y : ℕ) → y ≢ slice_index places (get_or listed t (0, 0)).0 → slice_index after y ≡ slice_index units y)
    → length after ≡ length units → ArePutUpTo p cost listed t units → ArePutUpTo p cost listed (t + 1) after
put_more p cost places listed t unit units after are up within node all one low here others kept so_far = record {
  long = kept ∙ so_far.long;
  limit = All-from_get_or (λ v. v ≤ most_unit) after 0 (λ x below.
      (let old = All-get_or (λ v. v ≤ most_unit) units x 0 (omega (arith, below, kept)) so_far.limit in
      ⊎_elim (λ is. omega (arith, is.0, low)) (λ is. omega (arith, is.0, old)) (put x (omega (arith, below, kept, so_far.long)))));
  all = λ x below. ⊎_elim
      (λ is. inl (omega (arith, ap (λ (n : ℕ). cost * n) is.0, is.1, all)))
      (λ is. ⊎_elim (λ done. inl (omega (arith, ap (λ (n : ℕ). cost * n) is.0, done))) (λ none. inr (is.1 ∙ none)) (so_far.all x below))
      (put x below);
  one = λ x below. ⊎_elim (λ is. omega (arith, is.0, is.1, one)) (λ is. omega (arith, is.0, so_far.one x below)) (put x below);
}
  where
    next : IsNextValue listed t
    next = next_value listed t up within

    listed_there : (get_or listed t (0, 0)).1 ≤ value_at listed (get_or listed t (0, 0)).0
    listed_there = omega (arith, next.same, first_value_within (t + 1) listed (get_or listed t (0, 0)).0)

    put : (x : ℕ) → x < length p.candidates
        → ((slice_index after x ≡ unit) × ((get_or listed t (0, 0)).1 ≤ value_at listed (candidate_at p x)))
        ⊎ ((slice_index after x ≡ slice_index units x)
        × (value_at (take (t + 1) listed) (candidate_at p x) ≡ value_at (take t listed) (candidate_at p x)))
    put x below = ⊎_elim
        (λ (same : x ≡ slice_index places (get_or listed t (0, 0)).0). inl (
          ap (slice_index after) same ∙ here (omega (arith, same, below, so_far.long)),
          subst (λ (m : ℕ). (get_or listed t (0, 0)).1 ≤ value_at listed m)
              (sym (ap (candidate_at p) same ∙ are.candidate (get_or listed t (0, 0)).0 node (omega (arith, same, below)))) listed_there,
        ))
        (λ (apart : x ≡ slice_index places (get_or listed t (0, 0)).0 → ⊥). inr (
          others x apart,
          next.other (candidate_at p x) (λ e. apart (sym (are.place x below) ∙ ap (slice_index places) (sym e))),
        ))
        (cases_eq x (slice_index places (get_or listed t (0, 0)).0))

pub put_all : (p : Problem) (cost : ℕ) (listed : List (ℕ × ℕ)) (upto : ℕ) (units : List ℕ) → length listed ≤ upto
    → ArePutUpTo p cost listed upto units → AreUnits p cost (value_at listed) units
put_all p cost listed upto units whole so_far = record {
  long = so_far.long;
  limit = so_far.limit;
  all = λ x below. ⊎_elim (λ done. done)
      (λ none. (let nothing : value_at listed (candidate_at p x) ≡ 0 =
      subst (λ (u : List (ℕ × ℕ)). value_at u (candidate_at p x) ≡ 0) (take_all upto listed whole) none in
      let low : slice_index units x ≡ 0 = omega (arith, so_far.one x below, nothing) in
      omega (arith, ap (λ (n : ℕ). cost * n) low)))
      (so_far.all x below);
  one = so_far.one;
}
