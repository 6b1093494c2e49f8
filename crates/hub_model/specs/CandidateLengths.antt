-- Candidates by their places, and what no length by way of them is above, by unit of flow, in 10^-6.
use Rattle.std.specs.Prelude.{ℕ, ◌+◌, ◌*◌, slice_index}
use Rattle.hub_spec.specs.Problem.{Problem, greatest}

-- the candidate at a place, counted from 0
abbrev pub candidate_at : Problem → ℕ → ℕ
candidate_at p x = slice_index p.candidates x

-- what a unit of flow costs where each leg is as long as the greatest distance
unfoldable pub length_ceiling : Problem → ℕ
length_ceiling p = (p.collect + p.trunk + p.deliver) * greatest p.distances
