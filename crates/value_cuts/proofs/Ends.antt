-- Ends of routes: legs with the values of their candidates.
use Rattle.std.proofs.Common.{◌≡◌, ℕ, ◌+◌, ◌<◌, ◌≤◌, List, length, set, slice_index, ⊎_elim, subst, ◌∙◌, arith}
use Rattle.std.proofs.lemmas.Bool.{cases_lt}
use Rattle.std.proofs.lemmas.List.{get_or-set_same, get_or-set_other}
use Rattle.std.proofs.lemmas.List.Elements.{All-from_get_or}
use Rattle.hub_spec.specs.Problem.{Problem}
use Rattle.unit_duals.specs.Limits.{most_leg, most_length}
use Rattle.hub_model.specs.CandidateLengths.{candidate_at, length_ceiling}
use Rattle.value_cuts.specs.Ends.{most_end, AreEnds}

-- ---- set one by one

-- the first x ends are set
pub record AreEndsSet (p : Problem) (leg values : ℕ → ℕ) (x : ℕ) (ends : List ℕ) : Type 0 where
  pub each : (y : ℕ) → y < x → slice_index ends y ≡ leg y + values (candidate_at p y)

pub ends_none : (p : Problem) (leg values : ℕ → ℕ) (ends : List ℕ) → AreEndsSet p leg values 0 ends
ends_none p leg values ends = record { each = λ y below. absurd (omega (arith, below)) }

pub ends_more : (p : Problem) (leg values : ℕ → ℕ) (x end : ℕ) (ends : List ℕ) → x < length ends → end ≡ leg x + values (candidate_at p x)
    → AreEndsSet p leg values x ends → AreEndsSet p leg values (x + 1) (set ends x end)
ends_more p leg values x end ends within is so_far = record {
  each = λ y below. ⊎_elim
      (λ early. get_or-set_other ends x y end 0 (λ e. omega (arith, e, early)) ∙ so_far.each y early)
      (λ late. (let same : x ≡ y = omega (arith, below, late) in
      subst (λ z. slice_index (set ends x end) z ≡ leg z + values (candidate_at p z)) same (get_or-set_same ends x end 0 within ∙ is)))
      (cases_lt y x);
}

pub ends_all : (p : Problem) (leg values : ℕ → ℕ) (x : ℕ) (ends : List ℕ) → length ends ≡ length p.candidates → length p.candidates ≤ x
    → ((y : ℕ) → y < length p.candidates → leg y ≤ most_leg) → ((k : ℕ) → values k ≤ length_ceiling p) → length_ceiling p ≤ most_length
    → AreEndsSet p leg values x ends → AreEnds p leg values ends
ends_all p leg values x ends long all legs_low values_low ceiling_low set = record {
  long = long;
  each = λ y below. set.each y (omega (arith, below, all));
  limit = All-from_get_or (λ d. d ≤ most_end) ends 0 (λ y below.
      (let within : y < length p.candidates = omega (arith, below, long) in
      omega (arith, set.each y (omega (arith, within, all)), legs_low y within, values_low (candidate_at p y), ceiling_low)));
}
