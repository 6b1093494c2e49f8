-- What is proved of runs; each statement is the contract of the public function of its name.
use Rattle.std.specs.Prelude.{◌≡◌, ℕ, zero, suc, ◌+◌, ◌-◌, ◌*◌, ◌<◌, ◌≤◌, List, length, drop, sum_by, slice_index, All, Contains, None, ◌^◌, ℤ, pos, ◌*ℤ◌}
use Rattle.hub_spec.specs.Problem.{Problem, IsProblem, flow}
use Rattle.hub_spec.specs.Edges.{least_cost}
use Rattle.hub_spec.specs.Cuts.{Prices, value_at, IsDual}
use Rattle.hub_spec.specs.Plans.{IsHubSet}
use Rattle.core_spec.specs.CoreCuts.{Way, ways_cost, IsCover, IsCoreDual}
use Rattle.frac_rows.specs.declared.ended.Ended.TheVariants.{Best}
use Rattle.frac_rows.specs.Rows.{Table, number, right_side, row_at, objective, AreNarrow}
use Rattle.frac_rows.specs.Runs.{run}
use Rattle.frac_rows.specs.Starts.{start}
use Rattle.core_cuts.specs.Combined.{IsCombined}
use Rattle.core_cuts.specs.CoreTables.{core_edges, edge_right, core_columns, core_rights, core_table, ways_of, ordered_ways, through, counts}

-- each row of the last table of a run is a combination of the first table's rows
abbrev pub RunCombines : Type 0
RunCombines = (columns : List (List ℤ)) (rights : List ℤ) → All AreNarrow columns → AreNarrow rights
    → All (λ column. length column ≡ length rights + 1) columns
    → All (IsCombined columns rights) (run (start columns rights)).table.rows

-- where the run ends with a best table, its objective row is a cover of the core problem, and its right side is what
-- the ways of the cover cost by unit of flow
pub record IsBestCover (p : Problem) (hubs : List ℕ) (c : ℕ × ℕ) (row : List ℤ) (scale : ℕ) : Type 0 where
  pub scale_is : number row (length row - 2) ≡ pos scale
  pub cover : IsCover p hubs (record {
    turns = length p.candidates;
    scale = scale;
    ways = ways_of (core_edges p c) (drop (length p.candidates + 1) row);
  })
  pub right_is : right_side row
      ≡ pos (sum_by (λ (w : Way). w.2 * edge_right p c (w.0, w.1)) (ways_of (core_edges p c) (drop (length p.candidates + 1) row)))

-- the numbers of the core problem are not too great
pub record IsNarrowCore (p : Problem) (hubs : List ℕ) (c : ℕ × ℕ) : Type 0 where
  pub columns : All AreNarrow (core_columns p hubs c)
  pub rights : AreNarrow (core_rights p c)

abbrev pub BestIsCover : Type 0
BestIsCover = (p : Problem) (hubs : List ℕ) (c : ℕ × ℕ) → IsHubSet p hubs → IsNarrowCore p hubs c
    → (run (core_table p hubs c)).ended ≡ Best
    → (scale : ℕ) × IsBestCover p hubs c (objective (run (core_table p hubs c)).table) scale

-- the price, and the value of each candidate, by the number of its variable
abbrev pub variable_of : Problem → ℕ → (ℕ → ℕ) → ℕ → ℕ
variable_of p price value zero = price
variable_of p price value (suc x) = value (slice_index p.candidates x)

-- price and values are those of the table's basic solution, times the part
pub record IsReadOf (p : Problem) (t : Table) (part price : ℕ) (value : ℕ → ℕ) : Type 0 where
  pub basic : (i : ℕ) → i < length t.basis → slice_index t.basis i < length p.candidates + 1
      → number (row_at t i) (slice_index t.basis i) *ℤ pos (variable_of p price value (slice_index t.basis i)) ≡ pos part *ℤ right_side (row_at t i)
  pub others : (j : ℕ) → j < length p.candidates + 1 → ((i : ℕ) → i < length t.basis → slice_index t.basis i ≡ j → ⊥)
      → variable_of p price value j ≡ 0

-- by unit of flow no way costs less than the price, times the part and with the values of its nodes, and what is said
-- is what the ways cost
pub record IsBalancedDual (p : Problem) (hubs : List ℕ) (c : ℕ × ℕ) (part price : ℕ) (value : ℕ → ℕ) (scale : ℕ) (ways : List Way) : Type 0 where
  pub feasible : All (λ e. price ≤ part * edge_right p c e + sum_by (λ k. through e k * value k) p.candidates) (core_edges p c)
  pub balanced : scale * ((2 + 2 * length p.candidates) * price)
      ≡ scale * sum_by (λ k. counts hubs (length p.candidates) k * value k) p.candidates
      + part * sum_by (λ (w : Way). w.2 * edge_right p c (w.0, w.1)) ways

-- where the run ends with a best table, what is read of its basic solution is balanced by the cover of its objective
-- row
abbrev pub BestIsBalanced : Type 0
BestIsBalanced = (p : Problem) (hubs : List ℕ) (c : ℕ × ℕ) (part price scale : ℕ) (value : ℕ → ℕ) → IsHubSet p hubs → IsNarrowCore p hubs c
    → (run (core_table p hubs c)).ended ≡ Best → IsReadOf p (run (core_table p hubs c)).table part price value
    → IsBestCover p hubs c (objective (run (core_table p hubs c)).table) scale
    → IsBalancedDual p hubs c part price value scale (ways_of (core_edges p c) (drop (length p.candidates + 1) (objective (run (core_table p hubs c)).table)))

-- A dual is made of a price and values by unit of flow, which are at most 10^20. The values of the hubs add up to
-- what the price is above the part times v.
pub record IsMadeOf (p : Problem) (hubs : List ℕ) (c : ℕ × ℕ) (part price v : ℕ) (value : ℕ → ℕ) (dual : Prices) : Type 0 where
  pub least : flow p c.0 c.1 * v ≡ least_cost p hubs c
  pub tight : price ≡ part * v + sum_by value hubs
  pub price_limit : price ≤ 10 ^ 20
  pub value_limit : All (λ k. value k ≤ 10 ^ 20) p.candidates
  pub price_is : dual.a ≡ flow p c.0 c.1 * price
  pub values_are : (k : ℕ) → Contains p.candidates k → value_at dual.u k ≡ flow p c.0 c.1 * value k
  pub are_candidates : All (λ entry. Contains p.candidates entry.0) dual.u

-- a dual that is balanced by a cover, and tight by unit of flow, is feasible, and Pareto-optimal by that cover
abbrev pub BalancedIsCore : Type 0
BalancedIsCore = (p : Problem) (hubs : List ℕ) (c : ℕ × ℕ) (part price v : ℕ) (value : ℕ → ℕ) (dual : Prices) (row : List ℤ) (scale : ℕ)
    → IsProblem p → p.longest ≡ None → IsHubSet p hubs → IsBestCover p hubs c row scale
    → IsBalancedDual p hubs c part price value scale (ways_of (core_edges p c) (drop (length p.candidates + 1) row))
    → IsMadeOf p hubs c part price v value dual
    → IsDual p part c dual × IsCoreDual p hubs part c dual (record {
      turns = length p.candidates;
      scale = scale;
      ways = ways_of (core_edges p c) (drop (length p.candidates + 1) row);
    })

-- the ways of a cover in the order of a proof line are a cover too, and cost the same
abbrev pub OrderedCovers : Type 0
OrderedCovers = (p : Problem) (hubs : List ℕ) (c : ℕ × ℕ) (turns scale : ℕ) (ways : List Way) → IsProblem p
    → IsCover p hubs (record { turns = turns; scale = scale; ways = ways })
    → IsCover p hubs (record { turns = turns; scale = scale; ways = ordered_ways p.candidates ways })
    × (ways_cost p c (ordered_ways p.candidates ways) ≡ ways_cost p c ways)

-- no number of a commodity's core problem is too great
abbrev pub CoreIsNarrow : Type 0
CoreIsNarrow = (p : Problem) (hubs : List ℕ) (c : ℕ × ℕ) → IsProblem p → p.longest ≡ None → c.0 < p.size → c.1 < p.size → IsNarrowCore p hubs c

-- Where the run ends with a best table and what is read of it is tight, that makes a feasible and Pareto-optimal
-- dual. Its proof is the ways of the objective row, in the order of a proof line.
abbrev pub ReadingIsCore : Type 0
ReadingIsCore = (p : Problem) (hubs : List ℕ) (c : ℕ × ℕ) (part price v : ℕ) (value : ℕ → ℕ) (dual : Prices) → IsProblem p → p.longest ≡ None → IsHubSet p hubs
    → c.0 < p.size → c.1 < p.size → (run (core_table p hubs c)).ended ≡ Best
    → IsReadOf p (run (core_table p hubs c)).table part price value → IsMadeOf p hubs c part price v value dual
    → (scale : ℕ) × (number (objective (run (core_table p hubs c)).table) (length (objective (run (core_table p hubs c)).table) - 2) ≡ pos scale)
    × IsDual p part c dual × IsCoreDual p hubs part c dual (record {
      turns = length p.candidates;
      scale = scale;
      ways = ordered_ways p.candidates
          (ways_of (core_edges p c) (drop (length p.candidates + 1) (objective (run (core_table p hubs c)).table)));
    })
