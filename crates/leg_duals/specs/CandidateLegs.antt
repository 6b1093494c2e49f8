-- The legs of routes by way of candidates, by unit of flow, in 10^-6.
use Rattle.std.specs.Prelude.{◌≡◌, ℕ, ◌*◌, ◌<◌, List, length}
use Rattle.hub_spec.specs.Problem.{Problem, distance}
use Rattle.unit_duals.specs.Cells.{cell}
use Rattle.hub_model.specs.CandidateLengths.{candidate_at}

-- collection from i to the candidate at place x
abbrev pub collection_length : Problem → ℕ → ℕ → ℕ
collection_length p i x = p.collect * distance p i (candidate_at p x)

-- the trunk from the candidate at place x to that at place y
abbrev pub trunk_length : Problem → ℕ → ℕ → ℕ
trunk_length p x y = p.trunk * distance p (candidate_at p x) (candidate_at p y)

-- delivery to j from the candidate at place x
abbrev pub delivery_length : Problem → ℕ → ℕ → ℕ
delivery_length p j x = p.deliver * distance p (candidate_at p x) j

-- a table of so many rows, with a leg for each place in each
pub record IsLegTable (rows places : ℕ) (leg : ℕ → ℕ → ℕ) (table : List ℕ) : Type 0 where
  pub long : length table ≡ rows * places
  pub each : (t x : ℕ) → t < rows → x < places → cell places table t x ≡ leg t x
