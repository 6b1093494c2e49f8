use Rattle.std.proofs.Common.{◌≡◌, ◌≤◌, ℕ, List, Bor, map, All, ap, ap₂, subst, sym, ◌∙◌, arith}
use Rattle.std.specs.Vec.{with_items}
use Rattle.std.proofs.lemmas.List.{with_items_is}
use Rattle.std.proofs.lemmas.List.Elements.{All-weaker}
use Rattle.hub_spec.specs.Limits.{most_part}
use Rattle.frac_master.specs.Masters.{master_of, greatest_number}
use Rattle.frac_master.specs.Advice.{advice_of_code}
use Rattle.cut_pool.specs.Entries.{Entry, entry_part, unit_loads}
use Rattle.search_steps.specs.Advising.{in_parts}
use Rattle.search_steps.specs.Weights.{AreNodeWeights}
use Rattle.search_steps.proofs.PoolNumbers.{parts_least}
use Rattle.search_steps.proofs.MasterNumbers.{AreMasters, numbers_serve, nodes_serve, within_totals, most_serves, advice_is, point_long, node_weights}
use Rattle.search_steps.proofs.advising.node_advice.Goals as goal
use Rattle.search_steps.proofs.advising.node_advice.Given.{Over}
use Rattle.search_steps.proofs.advising.node_advice.Goals.{After-deref, After-lower}

-- the rows that are read are those of the pool
told_rows : (rows lent : List (Bor (List ℕ))) (entries : List Entry) → rows ≡ lent → map (λ row. row.now) lent ≡ unit_loads entries
    → map (λ row. row.now) rows ≡ unit_loads entries
told_rows rows lent entries same told = ap (map (λ (row : Bor (List ℕ)). row.now)) same ∙ told

-- what the pool and the instance lend
lent : (g : Over) (c : After-deref g) → AreMasters c.args.instance.now c.args.pool.now.entries c.args.cost c.unit_totals.result.now
    (map (λ (row : Bor (List ℕ)). row.now) c.deref.result.now) c.in_ok-fixed.fixed.now
lent g c = record {
  problem = c.advised_costs.ensures.problem;
  pool = c.requires.pool;
  costs = c.in_ok-fixed.ensures.costs;
  are_totals = c.unit_totals.ensures;
  are_loads = told_rows c.deref.result.now c.in_ok-loads.loads.items c.args.pool.now.entries c.deref.ensures.value c.in_ok-loads.ensures;
}

pub advise_by_totals-requires-clause-numbers : goal.advise_by_totals-requires-clause-numbers
advise_by_totals-requires-clause-numbers g c =
    numbers_serve c.args.instance.now c.args.pool.now.entries c.args.cost c.unit_totals.result.now (map (λ (row : Bor (List ℕ)). row.now) c.deref.result.now)
    c.in_ok-fixed.fixed.now (lent g (goal.at.advise_by_totals-requires-clause-numbers g c).After-deref)

pub advise_by_totals-requires-clause-nodes : goal.advise_by_totals-requires-clause-nodes
advise_by_totals-requires-clause-nodes g c =
    nodes_serve c.args.instance.now c.args.cost c.in_ok-fixed.fixed.now c.args.branch.now c.advised_costs.ensures.problem c.in_ok-fixed.ensures.costs c.requires.branch

pub advise_by_totals-requires-clause-within : goal.advise_by_totals-requires-clause-within
advise_by_totals-requires-clause-within g c =
    rw c.most_stated.ensures
    (within_totals c.args.instance.now c.args.pool.now.entries c.args.cost c.unit_totals.result.now (map (λ (row : Bor (List ℕ)). row.now) c.deref.result.now)
    c.in_ok-fixed.fixed.now (lent g (goal.at.advise_by_totals-requires-clause-within g c).After-deref))

pub advise_by_totals-requires-clause-reached : goal.advise_by_totals-requires-clause-reached
advise_by_totals-requires-clause-reached g c =
    let loads = map (λ (row : Bor (List ℕ)). row.now) c.deref.result.now in
    subst (λ (m : ℕ). m ≤ greatest_number (master_of c.unit_totals.result.now loads c.in_ok-fixed.fixed.now) c.args.branch.now) (sym c.most_stated.ensures)
    (most_serves c.args.instance.now c.args.pool.now.entries c.args.cost c.unit_totals.result.now loads
    c.in_ok-fixed.fixed.now c.args.branch.now (lent g (goal.at.advise_by_totals-requires-clause-reached g c).After-deref) c.requires.branch)

pub advise_by_totals-requires-clause-short : goal.advise_by_totals-requires-clause-short
advise_by_totals-requires-clause-short g c =
    rw (told_rows c.deref.result.now c.in_ok-loads.loads.items c.args.pool.now.entries c.deref.ensures.value c.in_ok-loads.ensures) c.short_rows.ensures

pub lower-requires-clause-least : goal.lower-requires-clause-least
lower-requires-clause-least g c =
    let entries = c.args.pool.now.entries in
    subst (All (λ (part : ℕ). 1 ≤ part)) (sym c.parts.ensures)
    (All-weaker (λ (part : ℕ). (1 ≤ part) × (part ≤ most_part)) (λ (part : ℕ). 1 ≤ part) (λ part limits. limits.0) (map entry_part entries)
    (parts_least c.args.instance.now entries c.advised_costs.ensures.problem c.requires.pool))

-- the weights that are written back are the lowered ones
written : (g : Over) (c : After-lower g) → (with_items c.in_ok-advice.advice.weights c.lower.new.weights).items ≡ c.lower.new.weights
written g c = with_items_is c.in_ok-advice.advice.weights c.lower.new.weights (omega (arith, c.lower.auto.weights, c.deref_mut.ensures.len))

-- and they are the master's, lowered by the pool's parts
lowered : (g : Over) (c : After-lower g)
    → c.lower.new.weights ≡ in_parts c.in_ok-advice.advice.weights.items (map entry_part c.args.pool.now.entries)
lowered g c = c.lower.ensures ∙ ap₂ in_parts c.deref_mut.ensures.value c.parts.ensures

pub returns-clause-advice : goal.returns-clause-advice
returns-clause-advice g c =
    let at = goal.at.returns-clause-advice g c in
    advice_is c.args.instance.now c.args.pool.now.entries c.args.cost c.unit_totals.result.now (map (λ (row : Bor (List ℕ)). row.now) c.deref.result.now)
    c.in_ok-fixed.fixed.now c.args.branch.now (advice_of_code c.in_ok-advice.advice)
    (with_items c.in_ok-advice.advice.weights c.lower.new.weights).items (lent g at.After-deref) c.in_ok-advice.ensures.advice
    (written g at.After-lower ∙ lowered g at.After-lower)

pub returns-clause-weights : goal.returns-clause-weights
returns-clause-weights g c =
    let at = goal.at.returns-clause-weights g c in
    subst (AreNodeWeights c.args.pool.now.entries) (sym (written g at.After-lower))
    (node_weights c.args.instance.now c.args.pool.now.entries c.args.cost c.unit_totals.result.now (map (λ (row : Bor (List ℕ)). row.now) c.deref.result.now)
    c.in_ok-fixed.fixed.now c.in_ok-advice.advice.weights.items c.lower.new.weights (lent g at.After-deref) c.in_ok-advice.ensures.weights
    (lowered g at.After-lower))

pub returns-clause-point : goal.returns-clause-point
returns-clause-point g c =
    point_long c.args.instance.now c.args.pool.now.entries c.args.cost c.unit_totals.result.now (map (λ (row : Bor (List ℕ)). row.now) c.deref.result.now)
    c.in_ok-fixed.fixed.now c.args.branch.now (advice_of_code c.in_ok-advice.advice)
    (lent g (goal.at.returns-clause-point g c).After-deref) c.in_ok-advice.ensures.advice
