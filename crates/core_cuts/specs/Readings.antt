-- What the linear program of a commodity says of its Pareto-optimal dual: prices and values by unit of flow, read off
-- its best table.
use Rattle.std.specs.Prelude.{◌≡◌, ℕ, ◌+◌, ◌-◌, ◌*◌, ◌/◌, ◌^◌, ◌≤◌, ◌⊎◌, List, length, drop, zip, sum_by, All, unsigned_abs}
use Rattle.hub_spec.specs.Limits.{most_part}
use Rattle.hub_spec.specs.Problem.{Problem, flow}
use Rattle.hub_spec.specs.Edges.{least_cost}
use Rattle.hub_spec.specs.Cuts.{Prices, value_at}
use Rattle.hub_spec.specs.Separation.{values_listed}
use Rattle.core_spec.specs.CoreCuts.{Way, CoreProof}
use Rattle.frac_rows.specs.Rows.{Table, number, objective}
use Rattle.frac_rows.specs.Runs.{Outcome, run}
use Rattle.frac_rows.specs.declared.ended.Ended.TheVariants.{Best, Turns, Wide}
use Rattle.core_spec.specs.MarkRanges.{most_scale, most_taken}
use Rattle.core_cuts.specs.CoreTables.{core_edges, core_table, ways_of, ordered_ways}
use Rattle.core_cuts.specs.RunTheorems.{IsReadOf}

-- a price, and a value for each candidate in their order, by unit of flow and times the part
pub record Reading : Type 0 where
  pub part : ℕ
  pub price : ℕ
  pub values : List ℕ

-- the value of the node
abbrev pub value_of : Problem → Reading → ℕ → ℕ
value_of p r k = value_at (zip p.candidates r.values) k

-- the run of the commodity's linear program
unfoldable pub core_run : Problem → List ℕ → ℕ × ℕ → Outcome
core_run p hubs c = run (core_table p hubs c)

-- price and values are those of the table's basic solution, times a part that makes them whole
pub record IsWhole (p : Problem) (t : Table) (r : Reading) : Type 0 where
  pub some_part : 1 ≤ r.part
  pub one_each : length r.values ≡ length p.candidates
  pub read : IsReadOf p t r.part r.price (value_of p r)

-- the run ends with a best table, of which this is the reading with the least part
pub record IsReading (p : Problem) (hubs : List ℕ) (c : ℕ × ℕ) (r : Reading) : Type 0 where
  pub best : (core_run p hubs c).ended ≡ Best
  pub whole : IsWhole p (core_run p hubs c).table r
  pub least : (other : Reading) → IsWhole p (core_run p hubs c).table other → r.part ≤ other.part

-- the dual of the commodity: price and values times the flow, the values above 0 listed in order
unfoldable pub dual_of : Problem → ℕ × ℕ → Reading → Prices
dual_of p c r = record {
  a = flow p c.0 c.1 * r.price;
  u = values_listed (λ k. flow p c.0 c.1 * value_of p r k) p.candidates;
}

-- the ways of the commodity that the table's objective row takes, in the order of a proof line
unfoldable pub ways_at : Problem → ℕ × ℕ → Table → List Way
ways_at p c t = ordered_ways p.candidates (ways_of (core_edges p c) (drop (length p.candidates + 1) (objective t)))

-- the number of v in the objective row
abbrev pub scale_at : Table → ℕ
scale_at t = unsigned_abs (number (objective t) (length (objective t) - 2))

-- what proves the dual: as many turns as there are candidates, and scale and ways of the last objective row
unfoldable pub proof_of : Problem → List ℕ → ℕ × ℕ → CoreProof
proof_of p hubs c = record {
  turns = length p.candidates;
  scale = scale_at (core_run p hubs c).table;
  ways = ways_at p c (core_run p hubs c).table;
}

-- of a price or a value, by unit of flow
abbrev pub most_units : ℕ
most_units = 10 ^ 20

-- the proof can stand in a line
pub record IsShortProof (proof : CoreProof) : Type 0 where
  pub scale : proof.scale ≤ most_scale
  pub taken : All (λ (w : Way). w.2 ≤ most_taken) proof.ways

-- by unit of flow the price is what the least route through the hubs costs, times the part, and their values
pub record IsTightReading (p : Problem) (hubs : List ℕ) (c : ℕ × ℕ) (r : Reading) : Type 0 where
  pub tight : r.price ≡ r.part * (least_cost p hubs c / flow p c.0 c.1) + sum_by (value_of p r) hubs

-- the reading is tight at the hubs, and part, price, values and proof are within their limits
pub record IsFit (p : Problem) (hubs : List ℕ) (c : ℕ × ℕ) (r : Reading) : Type 0 where
  pub is_tight : IsTightReading p hubs c r
  pub part : r.part ≤ most_part
  pub price : r.price ≤ most_units
  pub values : All (λ v. v ≤ most_units) r.values
  pub short : IsShortProof (proof_of p hubs c)

-- a dual with its part and its proof
pub record FoundDual : Type 0 where
  pub part : ℕ
  pub dual : Prices
  pub proof : CoreProof

unfoldable pub found_of : Problem → List ℕ → ℕ × ℕ → Reading → FoundDual
found_of p hubs c r = record { part = r.part; dual = dual_of p c r; proof = proof_of p hubs c }

-- what is found is the dual of a reading that is fit
abbrev pub IsFound : Problem → List ℕ → ℕ × ℕ → FoundDual → Type 0
IsFound p hubs c found = (r : Reading) × IsReading p hubs c r × IsFit p hubs c r × (found ≡ found_of p hubs c r)

-- nothing is found: the run does not end with a best table, or its reading is not fit
abbrev pub IsNotFound : Problem → List ℕ → ℕ × ℕ → Type 0
IsNotFound p hubs c =
    (((core_run p hubs c).ended ≡ Wide) ⊎ ((core_run p hubs c).ended ≡ Turns))
    ⊎ ((r : Reading) × IsReading p hubs c r × (IsFit p hubs c r → ⊥))
