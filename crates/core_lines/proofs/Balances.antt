-- The balance of a dual and its ways, tested by unit of flow.
use Rattle.std.proofs.Common.{◌≡◌, ℕ, ◌+◌, ◌*◌, ◌≤◌, List, sym}
use Rattle.core_spec.specs.CoreCuts.{IsByFlow}
use Rattle.hub_spec.specs.Edges.{least_cost}
use Rattle.core_lines.specs.Tallies.{ProofTally, carried}
use Rattle.core_lines.specs.Tests.{IsSumByFlow, AreByFlow, IsBalanced, values_of}
use Rattle.core_lines.proofs.UnitSums.{level_forth, level_back, level_at_none}

-- the price and the sum of the values are so many units of flow
pub record AreUnits (price : ℕ) (values : List ℕ) (t : ProofTally) (by_flow sum : ℕ) : Type 0 where
  pub price_is : carried t * by_flow ≡ price
  pub price_by_flow : IsByFlow (carried t) price
  pub sum_is : IsSumByFlow (carried t) values t.problem.candidates sum

-- what is by flow, and balanced
abbrev pub Balances : List ℕ → ℕ → ℕ → List ℕ → ProofTally → Type 0
Balances hubs part price values t =
    IsByFlow (carried t) price × AreByFlow (carried t) values t.problem.candidates × IsBalanced hubs part price values t

-- by unit of flow
abbrev pub IsLevel : ℕ → ProofTally → ℕ → ℕ → ℕ → Type 0
IsLevel part t by_flow sum long =
    t.scale * (2 * by_flow + 2 * t.turns * (part * long)) ≡ part * t.lengths + t.scale * sum

pub level_balances : (hubs : List ℕ) (part price : ℕ) (values : List ℕ) (t : ProofTally) (by_flow sum long : ℕ)
    → AreUnits price values t by_flow sum → carried t * long ≡ least_cost t.problem hubs t.commodity → IsLevel part t by_flow sum long
    → Balances hubs part price values t
level_balances hubs part price values t by_flow sum long units is level =
    let whole = level_forth (carried t) t.scale t.turns part price by_flow (values_of values t.problem.candidates) sum long t.lengths
    units.price_is units.sum_is.sum_is level in
    (units.price_by_flow, units.sum_is.each, rw (sym is) whole)

pub balances_level : (hubs : List ℕ) (part price : ℕ) (values : List ℕ) (t : ProofTally) (by_flow sum long : ℕ)
    → 1 ≤ carried t → AreUnits price values t by_flow sum → carried t * long ≡ least_cost t.problem hubs t.commodity
    → Balances hubs part price values t → IsLevel part t by_flow sum long
balances_level hubs part price values t by_flow sum long some units is balances =
    level_back (carried t) t.scale t.turns part price by_flow (values_of values t.problem.candidates) sum long t.lengths
    some units.price_is units.sum_is.sum_is (rw (sym is) at balances.2)

pub none_balances : (hubs : List ℕ) (part price : ℕ) (values : List ℕ) (t : ProofTally) (by_flow sum long : ℕ)
    → carried t ≡ 0 → carried t * long ≡ least_cost t.problem hubs t.commodity → AreUnits price values t by_flow sum → Balances hubs part price values t
none_balances hubs part price values t by_flow sum long none is units =
    let whole = level_at_none (carried t) t.scale t.turns part price by_flow (values_of values t.problem.candidates) sum
    long t.lengths none units.price_is units.sum_is.sum_is in
    (units.price_by_flow, units.sum_is.each, rw (sym is) whole)
