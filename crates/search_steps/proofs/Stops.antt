-- The leaf that a stop makes.
use Rattle.std.proofs.Common.{◌≡◌, ℕ, ℤ, List, Some, ap, ◌∙◌}
use Rattle.hub_spec.specs.Problem.{Problem}
use Rattle.hub_spec.specs.Trees.{Branching, leaf}
use Rattle.search_spec.specs.States.{denominator, State, lesser, rounded_up}
use Rattle.search_spec.specs.Steps.{bound_at, stopped_leaf}

-- ---- a stop

pub stopped_is : (p : Problem) (b : Branching) (w : List (ℕ × ℕ)) (s : State) (z : ℤ) (low : ℕ) → z ≡ bound_at p s b w → low ≡ lesser (rounded_up z) s.stop
    → record { state = record s { stop = Some low }; tree = leaf denominator w } ≡ stopped_leaf p b w s
unfolding stopped_leaf
stopped_is p b w s z low bound is =
    let least = is ∙ ap (λ (x : ℤ). lesser (rounded_up x) s.stop) bound in
    λ i. record { state = record s { stop = Some (least i) }; tree = leaf denominator w }
