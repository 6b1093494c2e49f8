-- What the last table of the core problem's run is like.
use Rattle.std.proofs.Common.{◌≡◌, ℕ, ◌+◌, ◌<◌, ◌≤◌, List, [], length, pos, ◌≤ℤ◌, arith}
use Rattle.std.proofs.lemmas.Int.{ints}
use Rattle.std.proofs.lemmas.List.{length-map}
use Rattle.std.proofs.lemmas.List.Elements.{All-get_or, All-map}
use Rattle.hub_spec.specs.Problem.{Problem, IsProblem}
use Rattle.hub_spec.specs.Plans.{IsHubSet}
use Rattle.hub_spec.proofs.Limits.{few_candidates, hubs_are_nodes}
use Rattle.core_spec.specs.CoreCuts.{MayBeMarked}
use Rattle.frac_rows.specs.Rows.{objective}
use Rattle.frac_rows.specs.Theorems.{AreRightsLow}
use Rattle.frac_rows.proofs.BasicSolutions.{IsPivotal}
use Rattle.frac_rows.proofs.FirstTables.{first_is_table}
use Rattle.frac_rows.proofs.LastSolutions.{pivotal_last}
use Rattle.frac_rows.proofs.RunLaws.{run_keeps_rights}
use Rattle.core_cuts.specs.Combined.{IsCombined}
use Rattle.core_cuts.specs.CoreTables.{core_edges, edge_right, value_column, core_columns, core_rights, core_table}
use Rattle.core_cuts.proofs.BestCovers.{columns_long}
use Rattle.core_cuts.proofs.Combining.{run_combines}
use Rattle.core_cuts.proofs.Found.{core_is_narrow}
use Rattle.core_cuts.specs.Readings.{core_run}
use Rattle.core_cuts.specs.Theorems.{IsAsked}

pub asked_of : (p : Problem) (hubs : List ℕ) (i j : ℕ) → IsProblem p → MayBeMarked p → IsHubSet p hubs → i < p.size → j < p.size → IsAsked p hubs (i, j)
asked_of p hubs i j problem may set from to = record {
  problem = problem;
  may = may;
  set = set;
  from = from;
  to = to;
}

pub few_hubs : (p : Problem) (hubs : List ℕ) → IsProblem p → IsHubSet p hubs → length hubs ≤ 200
few_hubs p hubs ok set = omega (arith, few_candidates hubs p.size set.ascend (hubs_are_nodes p hubs ok.limits set), ok.size_limit)

-- no right side is below 0
pub rights_last : (p : Problem) (hubs : List ℕ) (c : ℕ × ℕ) → IsAsked p hubs c → AreRightsLow (core_run p hubs c).table
unfolding core_run core_table
rights_last p hubs c asked =
    let narrow = core_is_narrow p hubs c asked.problem asked.may.any_length asked.from asked.to in
    let first = first_is_table (core_columns p hubs c) (core_rights p c) narrow.columns narrow.rights in
    run_keeps_rights (core_table p hubs c) first.table
    (first.rights_low (All-map (λ x. pos 0 ≤ℤ x) (λ e. pos (edge_right p c e)) (core_edges p c) (λ k d l. omega (arith, ints))))

-- the numbers of the objective row
pub width_last : (p : Problem) (hubs : List ℕ) (c : ℕ × ℕ) → IsAsked p hubs c
    → length (objective (core_run p hubs c).table) ≡ length p.candidates + 1 + (length (core_edges p c) + 2)
unfolding core_run core_table
width_last p hubs c asked =
    let narrow = core_is_narrow p hubs c asked.problem asked.may.any_length asked.from asked.to in
    let columns = core_columns p hubs c in
    let rights = core_rights p c in
    let first = first_is_table columns rights narrow.columns narrow.rights in
    let start_is : IsPivotal (core_table p hubs c) = record { table = first.table; basic = first.basic; of_objective = first.of_objective } in
    let u = (core_run p hubs c).table in
    let end = pivotal_last (core_table p hubs c) start_is in
    let combined = All-get_or (IsCombined columns rights) u.rows (length u.basis) [] (omega (arith, end.table.one_objective))
    (run_combines columns rights narrow.columns narrow.rights (columns_long p hubs c)) in
    omega (
      arith,
      combined.long,
      length-map p.candidates (value_column (core_edges p c) hubs (length p.candidates)),
      length-map (core_edges p c) (λ (e : ℕ × ℕ). pos (edge_right p c e)),
    )

-- as many rows as constraints, and the objective row
pub rows_last : (p : Problem) (hubs : List ℕ) (c : ℕ × ℕ) → IsAsked p hubs c → length (core_run p hubs c).table.rows ≡ length (core_run p hubs c).table.basis + 1
unfolding core_run core_table
rows_last p hubs c asked =
    let narrow = core_is_narrow p hubs c asked.problem asked.may.any_length asked.from asked.to in
    let first = first_is_table (core_columns p hubs c) (core_rights p c) narrow.columns narrow.rights in
    let start_is : IsPivotal (core_table p hubs c) = record { table = first.table; basic = first.basic; of_objective = first.of_objective } in
    (pivotal_last (core_table p hubs c) start_is).table.one_objective
