-- What is found with no gap.
use Rattle.std.proofs.Common.{◌≡◌, ℕ, ◌<◌, ◌≤◌, Option, ◌⊎◌, ⊎_elim, arith}
use Rattle.std.specs.Prelude.{length, Result, Ok, Err, IfOk}
use Rattle.search_spec.specs.Findings.{IsSpent}
use Rattle.cut_pool.specs.declared.found.Found.{Found}
use Rattle.ascent_search.specs.Gaps.{IsWithinGap}
use Rattle.ascent_search.proofs.Gaps.{no_gap}

pub closed : {E : Type 0} (r : Result Found E) → IfOk r (λ found. IsWithinGap 0 found.bound found.cost)
    → IfOk r (λ found. found.bound ≤ found.cost) → IfOk r (λ found. found.bound ≡ found.cost)
closed (Ok found) near within = no_gap found.bound found.cost near within
closed (Err e) near within = tt

pub spent_closed : {E : Type 0} (nodes : Option ℕ) (r : Result Found E)
    → IfOk r (λ found. found.bound < found.cost → IsSpent nodes (length found.tree.items) ⊎ IsWithinGap 0 found.bound found.cost)
    → IfOk r (λ found. found.bound ≤ found.cost)
    → IfOk r (λ found. found.bound < found.cost → IsSpent nodes (length found.tree.items))
spent_closed nodes (Ok found) spent within =
    λ less. ⊎_elim (λ s. s) (λ near. absurd (omega (arith, less, no_gap found.bound found.cost near within))) (spent less)
spent_closed nodes (Err e) spent within = tt
