-- What a search works with.
use Rattle.std.specs.Prelude.{◌≡◌, ℕ, ◌*◌, List, length}
use Rattle.hub_spec.specs.Problem.{Problem, IsProblem}
use Rattle.ascent_search.specs.declared.pricing.Pricing.{Pricing}

-- the instance, and the loads of the cut that was worked out last
pub record BenchState : Type 0 where
  pub problem : Problem
  pub loads : List ℕ

-- there is room for the prices and the loads of a cut of the problem
pub record IsPricingFor (p : Problem) (r : Pricing) : Type 0 where
  pub problem : IsProblem p
  pub prices : length r.prices.items ≡ p.size * p.size
  pub loads : length r.loads.items ≡ p.size
  pub scratch : r.scratch ≡ length p.candidates
