-- What is proved of Pareto-optimal cuts; each statement is the contract of the public function of its name.
use Rattle.std.specs.Prelude.{◌≡◌, ℕ, ◌*◌, List, All, Contains}
use Rattle.hub_spec.specs.Problem.{Problem, IsProblem, flow}
use Rattle.hub_spec.specs.Plans.{IsHubSet}
use Rattle.hub_spec.specs.Cuts.{Prices, value_at, Cut, IsDual, IsCut, IsTight}
use Rattle.core_spec.specs.Domination.{Dominates}
use Rattle.core_spec.specs.CoreCuts.{CoreProof, IsByFlow, IsCoreDual, Mark, IsCoreCut}

-- a Pareto-optimal cut is tight at its hubs
abbrev pub CoreIsTight : Type 0
CoreIsTight = (p : Problem) (x : Cut) (mark : Mark) → IsCoreCut p x mark → IsTight p mark.hubs x

-- no cut of the problem, whatever its part, that is tight at the same hubs dominates it
abbrev pub CoreIsUndominated : Type 0
CoreIsUndominated = (p : Problem) (x y : Cut) (mark : Mark) → IsProblem p → IsCoreCut p x mark
    → IsCut p y → IsTight p mark.hubs y → Dominates p y x → ⊥

-- the dual with price and values n times as great
pub record IsTimes (p : Problem) (n : ℕ) (dual more : Prices) : Type 0 where
  pub price_is : more.a ≡ n * dual.a
  pub values_are : (k : ℕ) → Contains p.candidates k → value_at more.u k ≡ n * value_at dual.u k
  pub are_candidates : All (λ entry. Contains p.candidates entry.0) more.u

-- a Pareto-optimal dual scaled to a part n times as great is Pareto-optimal by the same proof;
-- its numbers have to be within their limit
abbrev pub CoreIsScaled : Type 0
CoreIsScaled = (p : Problem) (hubs : List ℕ) (part n : ℕ) (c : ℕ × ℕ) (dual more : Prices) (proof : CoreProof)
    → IsHubSet p hubs → IsDual p part c dual → IsCoreDual p hubs part c dual proof → IsTimes p n dual more
    → IsByFlow (flow p c.0 c.1) more.a → All (λ k. IsByFlow (flow p c.0 c.1) (value_at more.u k)) p.candidates
    → IsDual p (n * part) c more × IsCoreDual p hubs (n * part) c more proof
