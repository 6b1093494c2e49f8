-- What is proved of the minimal rule besides.
use Rattle.std.specs.Prelude.{◌≡◌, ℕ, ◌≤◌, List, All}
use Rattle.hub_spec.specs.Problem.{Problem}
use Rattle.hub_spec.specs.Plans.{IsHubSet}
use Rattle.hub_spec.specs.Cuts.{Prices, value_at, IsDual}
use Rattle.hub_spec.specs.Separation.{IsOrder, IsMinimalDual}

-- no feasible dual with the same price and nothing on the hubs is at most the minimal one everywhere, and below it
-- somewhere
abbrev pub NoneIsBelow : Type 0
NoneIsBelow = (p : Problem) (hubs order : List ℕ) (c : ℕ × ℕ) (d e : Prices) → IsHubSet p hubs → IsOrder p hubs order
    → IsMinimalDual p hubs order c d → IsDual p 1 c e → e.a ≡ d.a → All (λ k. value_at e.u k ≡ 0) hubs
    → ((k : ℕ) → value_at e.u k ≤ value_at d.u k) → (k : ℕ) → value_at e.u k ≡ value_at d.u k
