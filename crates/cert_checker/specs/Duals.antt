-- The duals of a cut, by the numbers of their commodities.
use Rattle.std.specs.Prelude.{◌≡◌, ℕ, ◌*◌, ◌<◌, ◌≤◌, List, length, slice_index_or, Option, All}
use Rattle.std.specs.Option.{MatchOption}
use Rattle.hub_spec.specs.Limits.{most_part}
use Rattle.hub_spec.specs.Problem.{Problem, commodity_at}
use Rattle.hub_spec.specs.Cuts.{Prices, IsDual}
use Rattle.hub_spec.specs.Ranges.{IsDualInRange}
use Rattle.cert_checker.specs.Runs.{no_dual}

-- the dual of the commodity of this number is feasible
abbrev pub IsDualAt : Problem → ℕ → List Prices → ℕ → Type 0
IsDualAt p part duals t = IsDual p part (commodity_at p.size t) (slice_index_or duals t no_dual)

-- there is a dual in range for each commodity, a part in range, and a commodity of this number
pub record MayTryDual (p : Problem) (part : ℕ) (duals : List Prices) (t : ℕ) : Type 0 where
  pub part_most : part ≤ most_part
  pub below : t < p.size * p.size
  pub one_for_each : length duals ≡ p.size * p.size
  pub in_range : All (IsDualInRange p.size) duals

-- the dual of this number is not feasible, and those before it are
pub record FailsAt (p : Problem) (part : ℕ) (duals : List Prices) (t : ℕ) : Type 0 where
  pub within : t < length duals
  pub before : (s : ℕ) → s < t → IsDualAt p part duals s
  pub here : IsDualAt p part duals t → ⊥

-- it is the first that is not feasible; where there is none, all are
abbrev pub IsFirstFailing : Problem → ℕ → List Prices → Option ℕ → Type 0
IsFirstFailing p part duals first =
    MatchOption first ((s : ℕ) → s < length duals → IsDualAt p part duals s) (FailsAt p part duals)
