-- What a round's work is.
use Rattle.std.specs.Prelude.{◌≡◌, ℕ, ◌^◌, ◌≤◌, None, All}
use Rattle.std.specs.List.{HoldsAt}
use Rattle.hub_spec.specs.Problem.{IsProblem}
use Rattle.search_steps.specs.Pools.{IsPoolOf}
use Rattle.node_rounds.specs.declared.outcomes.Outcome.{Outcome}
use Rattle.node_rounds.specs.declared.rounds.Round.{Round}
use Rattle.node_rounds.specs.Outcomes.{IsPendingOf, IsTurnOf, IsOutcomeOf}

-- the round has the cuts of an instance in which any number of hubs will do, and nodes of it with weights on these
pub record IsRound (r : Round) : Type 0 where
  pub problem : IsProblem r.instance.now
  pub plain : r.instance.now.wanted ≡ None
  pub pool : IsPoolOf r.instance.now r.pool.now.entries
  pub nodes : All (IsPendingOf r.instance.now r.pool.now.entries) r.nodes.now
  pub cost : r.cost ≤ 10 ^ 30

-- the outcome is that of evaluating the node at this position
pub record IsTurnAt (r : Round) (i : ℕ) (o : Outcome) : Type 0 where
  pub turn : HoldsAt (λ x. IsTurnOf r.instance.now r.pool.now.entries r.cost x o) r.nodes.now i
  pub sound : HoldsAt (λ x. IsOutcomeOf r.instance.now r.pool.now.entries x o) r.nodes.now i
