-- By which stop each stop is reached, stop by stop.
use Rattle.std.proofs.Common.{◌≡◌, ℕ, ◌+◌, ◌<◌, ◌≤◌, List, length, set, slice_index, ⊎_elim, subst, arith}
use Rattle.std.proofs.lemmas.Bool.{cases_lt}
use Rattle.std.proofs.lemmas.List.{get_or-set_same, get_or-set_other}
use Rattle.leg_duals.specs.Ways.{WaysFrom}
use Rattle.leg_duals.specs.Lowered.{IsReached}

-- a stop more
pub reached_more : (w : WaysFrom) (bys bases aways : List ℕ) (m by base away : ℕ) → m < length bys → m < length bases → m < length aways
    → IsReached w m by base away
    → ((x : ℕ) → x < m → IsReached w x (slice_index bys x) (slice_index bases x) (slice_index aways x)) → (x : ℕ) → x < m + 1
    → IsReached w x (slice_index (set bys m by) x) (slice_index (set bases m base) x) (slice_index (set aways m away) x)
reached_more w bys bases aways m by base away in_bys in_bases in_aways here before x below = ⊎_elim
    (λ (early : x < m). rw (
      get_or-set_other bys m x by 0 (λ e. omega (arith, e, early)),
      get_or-set_other bases m x base 0 (λ e. omega (arith, e, early)),
      get_or-set_other aways m x away 0 (λ e. omega (arith, e, early)),
    ) (before x early))
    (λ (late : m ≤ x). let same : m ≡ x = omega (arith, late, below) in
    subst (λ (y : ℕ). IsReached w y (slice_index (set bys m by) y) (slice_index (set bases m base) y) (slice_index (set aways m away) y)) same
    (rw (get_or-set_same bys m by 0 in_bys, get_or-set_same bases m base 0 in_bases, get_or-set_same aways m away 0 in_aways) here))
    (cases_lt x m)
