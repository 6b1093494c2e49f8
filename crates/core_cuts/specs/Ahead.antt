-- What is held while the Pareto-optimal duals of the commodities are found. That is the ways of a commodity, what is
-- read of its run, and duals that are found before their commodity comes in order.
use Rattle.std.specs.Prelude.{◌≡◌, ℕ, ◌*◌, ◌<◌, ◌≤◌, Option, None, IfSome, List, length, map, slice_index_or, ℤ, pos}
use Rattle.hub_spec.specs.Limits.{most_part}
use Rattle.hub_spec.specs.Problem.{Problem, commodities}
use Rattle.core_spec.specs.CoreCuts.{CoreProof}
use Rattle.frac_rows.specs.Rows.{Table}
use Rattle.core_cuts.specs.CoreTables.{core_edges, edge_right, core_rights}
use Rattle.core_cuts.specs.BasicRatios.{IsLeastReading}
use Rattle.core_cuts.specs.Bodies.{table_proof}
use Rattle.core_cuts.specs.declared.edges.CoreCommodity.{CoreCommodity}
use Rattle.core_cuts.specs.Readings.{Reading, IsReading, proof_of, FoundDual, IsFound}

-- what each of these ways costs by unit of flow
abbrev pub AreCosts : Problem → ℕ × ℕ → List (ℕ × ℕ) → List ℤ → Type 0
AreCosts p c edges rights = rights ≡ map (λ e. pos (edge_right p c e)) edges

-- a commodity whose routes may have any length
pub record IsAnyLength (c : CoreCommodity) : Type 0 where
  pub any_length : c.instance.now.longest ≡ None
  pub from : c.i < c.instance.now.size
  pub to : c.j < c.instance.now.size

-- the ways of the commodity, and what they cost by unit of flow
pub record AreWays (p : Problem) (c : ℕ × ℕ) (edges : List (ℕ × ℕ)) (rights : List ℤ) : Type 0 where
  pub ways : edges ≡ core_edges p c
  pub costs : rights ≡ core_rights p c

-- the reading of a best table with the least part, within its limit, and what it proves by these edges
pub record IsReadOff (p : Problem) (t : Table) (edges : List (ℕ × ℕ)) (r : Reading) (proof : CoreProof) : Type 0 where
  pub least : IsLeastReading p t r
  pub part : r.part ≤ most_part
  pub by_table : proof ≡ table_proof p.candidates edges t

-- the reading of the commodity's run, within its limit, and what proves the dual
pub record IsRead (p : Problem) (hubs : List ℕ) (c : ℕ × ℕ) (r : Reading) (proof : CoreProof) : Type 0 where
  pub reading : IsReading p hubs c r
  pub part : r.part ≤ most_part
  pub by_run : proof ≡ proof_of p hubs c

-- each commodity has a place, and a dual that stands there is found for it
pub record AreAhead (p : Problem) (hubs : List ℕ) (ahead : List (Option FoundDual)) : Type 0 where
  pub places : length ahead ≡ p.size * p.size
  pub found : (t : ℕ) → t < p.size * p.size
      → IfSome (slice_index_or ahead t None) (IsFound p hubs (slice_index_or (commodities p.size) t (0, 0)))
