-- What an origin adds to a cut: its duals, and what these add to the sums.
use Rattle.std.specs.Prelude.{◌≡◌, ℕ, ◌<◌, List, length, map, slice_index}
use Rattle.std.specs.List.{range_with_len}
use Rattle.hub_spec.specs.Cuts.{Prices}
use Rattle.hub_spec.specs.Separation.{minimal_dual}
use Rattle.pareto_cuts.specs.Separations.{SetSeparation, origin_total, origin_load}
use Rattle.par_separate.specs.declared.origins.OriginSums.{OriginSums}

-- the least number of nodes at which several workers are worth their start
abbrev pub least_shared : ℕ
least_shared = 50

-- the separation is to all nodes
pub record IsWhole (s : SetSeparation) : Type 0 where
  pub first : s.start ≡ 0
  pub all : s.legs.size ≡ s.problem.size

-- the minimal duals of the commodities from i to each node, in order
abbrev pub AreMinimalDualsFrom : SetSeparation → ℕ → List Prices → Type 0
AreMinimalDualsFrom s i duals =
    duals ≡ map (λ j. minimal_dual s.problem s.hubs s.order (i, j)) (range_with_len 0 s.problem.size)

-- the sums of the minimal duals of all commodities from i
pub record AreSumsFrom (s : SetSeparation) (i : ℕ) (sums : OriginSums) : Type 0 where
  pub is_total : sums.total ≡ origin_total s.problem s.hubs s.order i 0 s.problem.size
  pub one_load_each : length sums.loads.items ≡ s.problem.size
  pub are_loads : (k : ℕ) → k < s.problem.size → slice_index sums.loads.items k ≡ origin_load s.problem s.hubs s.order i 0 s.problem.size k
