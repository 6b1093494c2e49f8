-- Commodities with a dual that is listed for them.
use Rattle.std.specs.Prelude.{ℕ, ◌+◌, ◌≤◌}
use Rattle.hub_spec.specs.Limits.{most_nodes}
use Rattle.hub_spec.specs.Problem.{Problem}
use Rattle.hub_spec.specs.Cuts.{Prices}

-- a commodity of an instance, a part, and the dual of that part that is listed for it
pub record CommodityDual : Type 0 where
  pub problem : Problem
  pub commodity : ℕ × ℕ
  pub part : ℕ
  pub dual : Prices

-- the same of a run of so many commodities of one origin, of which this is the first
pub record ListedDual : Type 0 where
  pub problem : Problem
  pub commodity : ℕ × ℕ
  pub part : ℕ
  pub run : ℕ
  pub dual : Prices

-- there are so many nodes from the first one on, and no more than an instance may have
pub record IsRun (p : Problem) (first run : ℕ) : Type 0 where
  pub nodes : first + run ≤ p.size
  pub size_limit : p.size ≤ most_nodes

-- the run that begins at the destination `first`, with this dual of a commodity of its origin
abbrev pub run_from : ℕ → ℕ → CommodityDual → ListedDual
run_from first run d =
    record { problem = d.problem; commodity = (d.commodity.0, first); part = d.part; run = run; dual = d.dual }
