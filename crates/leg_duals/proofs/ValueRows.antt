-- The values of the places, row by row.
use Rattle.std.proofs.Common.{◌≡◌, ℕ, ◌+◌, ◌-◌, ◌<◌, ◌≤◌, List, slice_index, ⊎_elim, sym, subst, ap, ◌∙◌, arith}
use Rattle.std.proofs.lemmas.Bool.{cases_lt}
use Rattle.unit_duals.specs.Cells.{cell}
use Rattle.unit_duals.specs.Raised.{IsRowSet}
use Rattle.leg_duals.specs.Ways.{WaysFrom, way}
use Rattle.leg_duals.specs.Lowered.{IsLowered}
use Rattle.leg_duals.specs.Duals.{IsPlaceWay, alone, to_hub, from_hub, to_earlier, from_earlier, AreValues}
use Rattle.leg_duals.proofs.LoweredSets.{lowered_as}

-- a way by a place has the earlier values beside it alone
same_ways : (w : WaysFrom) (some other : ℕ → ℕ → ℕ) (t j v : ℕ) → ((e : ℕ) → e < t → some e j ≡ other e j) → IsPlaceWay w some t j v
    → IsPlaceWay w other t j v
same_ways w some other t j v same (alone is) = alone is
same_ways w some other t j v same (to_hub m hub is) = to_hub m hub is
same_ways w some other t j v same (from_hub m hub is) = from_hub m hub is
same_ways w some other t j v same (to_earlier e early is) = to_earlier e early (is.0, is.1 ∙ ap (λ (x : ℕ). way w t e j + x) (same e early))
same_ways w some other t j v same (from_earlier e early is) = from_earlier e early (is.0, is.1 ∙ ap (λ (x : ℕ). way w e t j + x) (same e early))

-- values that are the same up to the place
pub values_kept : (w : WaysFrom) (prices : List ℕ) (some other : ℕ → ℕ → ℕ) (t : ℕ) → ((e j : ℕ) → e ≤ t → j < w.size → some e j ≡ other e j)
    → AreValues w prices some t → AreValues w prices other t
values_kept w prices some other t same are = record {
  least = are.least;
  lowered = lowered_as w.size (IsPlaceWay w some t) (IsPlaceWay w other t) (slice_index prices) are.least
      (λ j v low. same_ways w some other t j v (λ e early. same e j (omega (arith, early)) low))
      (λ j v low. same_ways w other some t j v (λ e early. sym (same e j (omega (arith, early)) low))) are.lowered;
  value = λ j low. sym (same t j (omega arith) low) ∙ are.value j low;
}

-- the row of the next place is set
pub values_more : (w : WaysFrom) (prices least old new : List ℕ) (n t : ℕ) → n ≡ w.size
    → IsLowered w.size (IsPlaceWay w (cell w.size old) t) (slice_index prices) (slice_index least)
    → IsRowSet n t n (λ j. slice_index prices j - slice_index least j) old new
    → ((e : ℕ) → e < t → AreValues w prices (cell w.size old) e) → (e : ℕ) → e < t + 1 → AreValues w prices (cell w.size new) e
values_more w prices least old new n t many lowered set before e below = ⊎_elim
    (λ (early : e < t). values_kept w prices (cell w.size old) (cell w.size new) e
    (λ d j upto low. sym (row.others d j (λ same. omega (arith, same, upto, early)) low)) (before e early))
    (λ (late : t ≤ e). subst (λ (x : ℕ). AreValues w prices (cell w.size new) x) (omega (arith, late, below)) here)
    (cases_lt e t)
  where
    row : IsRowSet w.size t w.size (λ j. slice_index prices j - slice_index least j) old new
    row = rw many at set

    here : AreValues w prices (cell w.size new) t
    here = record {
      least = slice_index least;
      lowered = lowered_as w.size (IsPlaceWay w (cell w.size old) t) (IsPlaceWay w (cell w.size new) t) (slice_index prices) (slice_index least)
          (λ j v low. same_ways w (cell w.size old) (cell w.size new) t j v (λ d early. sym (row.others d j (λ same. omega (arith, same, early)) low)))
          (λ j v low. same_ways w (cell w.size new) (cell w.size old) t j v (λ d early. row.others d j (λ same. omega (arith, same, early)) low)) lowered;
      value = λ j low. row.here j low;
    }
