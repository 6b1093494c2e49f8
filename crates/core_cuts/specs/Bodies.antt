-- The numbers of the core problem as the code lays them out, row by row; and what a last table proves.
use Rattle.std.specs.Prelude.{ℕ, ◌+◌, ◌*◌, ◌^◌, Bool, nat_lt, List, ◌∷◌, length, map, drop, ℤ, pos, ◌-ℤ◌}
use Rattle.core_spec.specs.CoreCuts.{Way, CoreProof}
use Rattle.frac_rows.specs.Rows.{Table, objective}
use Rattle.core_cuts.specs.CoreTables.{through, counts, ways_of, ordered_ways}
use Rattle.core_cuts.specs.Readings.{scale_at}

-- of what a way costs by unit of flow, in 10^-6: three legs at the greatest distance and factor
abbrev pub most_unit : ℕ
most_unit = 3 * 10 ^ 16

-- the numbers of the price and of each candidate's value in the row of a way
abbrev pub way_row : List ℕ → ℕ × ℕ → List ℤ
way_row candidates e = pos 1 ∷ map (λ k. pos 0 -ℤ pos (through e k)) candidates

-- and in the objective row
abbrev pub objective_row : List ℕ → List ℕ → List ℤ
objective_row candidates hubs =
    (pos 0 -ℤ pos (2 + 2 * length candidates)) ∷ map (λ k. pos (counts hubs (length candidates) k)) candidates

-- whether the way is taken
abbrev pub is_taken : Way → Bool
is_taken w = nat_lt 0 w.2

-- what a last table proves by these edges: as many turns as there are candidates, and scale and ways of its objective row
abbrev pub table_proof : List ℕ → List (ℕ × ℕ) → Table → CoreProof
table_proof candidates edges t = record {
  turns = length candidates;
  scale = scale_at t;
  ways = ordered_ways candidates (ways_of edges (drop (length candidates + 1) (objective t)));
}
