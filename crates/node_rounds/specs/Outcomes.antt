-- A pending node and an outcome of the code, in the words of the definition.
use Rattle.std.specs.Prelude.{◌≡◌, ℕ, ◌<◌, true, List, [], ◌∷◌, IfSome}
use Rattle.hub_spec.specs.Problem.{Problem}
use Rattle.hub_spec.specs.Plans.{IsHubSet}
use Rattle.hub_spec.specs.Separation.{IsOrder}
use Rattle.hub_spec.specs.Trees.{IsBranch, Tree, leaf, empty, block, count, TreeLine, branch_on, leaf_of, no_hub, no_route, no_count}
use Rattle.hub_model.specs.Lines.{tree_line_of}
use Rattle.frac_master.specs.Advice.{advice_of_code}
use Rattle.cut_pool.specs.Entries.{Sums, Entry, entry_of}
use Rattle.search_steps.specs.Advising.{told_by, parts_of}
use Rattle.search_steps.specs.Weights.{AreNodeWeights, pairs_of, sides_as}
use Rattle.search_steps.specs.Pools.{IsSumsOf, InEachStateAt}
use Rattle.search_steps.specs.FixingsLeft.{AreOnFree}
use Rattle.search_spec.specs.Places as places
use Rattle.search_spec.specs.Turns.{most_waits, turn}
use Rattle.node_rounds.specs.declared.outcomes.Pending.{Pending}
use Rattle.node_rounds.specs.declared.outcomes.Outcome.{Outcome}
use Rattle.node_rounds.specs.declared.outcomes.Outcome.TheVariants.{Ends, Ask, Split}

-- the node as the definition has it
abbrev pub pending_of : Pending → places.Pending
pending_of x = record { branch = x.branch; weights = pairs_of x.weights.items; waits = x.waits }

-- its branch is one of the problem, and its weights are on the first of these cuts
pub record IsPendingOf (p : Problem) (entries : List Entry) (x : Pending) : Type 0 where
  pub branch : IsBranch p x.branch
  pub weights : AreNodeWeights entries x.weights.items

-- the tree of a line that ends a node; the line of a branch ends none
abbrev pub tree_of : TreeLine → Tree
tree_of (branch_on k) = empty
tree_of (leaf_of denom weights) = leaf denom weights
tree_of no_hub = empty
tree_of (no_route commodity) = block commodity
tree_of no_count = count

-- the outcome as the definition has it
abbrev pub outcome_of : Outcome → places.Outcome
outcome_of (Ends l) = places.ends (tree_of (tree_line_of l))
outcome_of (Ask set order weights waited sums) = places.asks set order.items (pairs_of weights.items) waited
outcome_of (Split weights fixings advice) = places.splits (pairs_of weights.items) (sides_as fixings.items) (told_by (advice_of_code advice))

-- the outcome is the node's turn, in each state with these entries and an incumbent of this cost
abbrev pub IsTurnOf : Problem → List Entry → ℕ → Pending → Outcome → Type 0
IsTurnOf p entries cost x o = InEachStateAt p entries cost (λ s. outcome_of o ≡ turn p (parts_of p) s (pending_of x))

-- these are the sums of the Benders cut from the hub set over the order
pub record AreSumsOver (p : Problem) (set order : List ℕ) (sums : Sums) : Type 0 where
  pub hubs : sums.hubs ≡ set
  pub is : IsSumsOf p (entry_of sums order)

-- what may be relied on of an outcome. A line is no branch's. A hub set comes with an order, weights on the first of
-- these cuts, few waits, and its own sums, if any. A split has such weights, and fixings on free nodes of a branch that
-- goes on
abbrev pub IsOutcomeOf : Problem → List Entry → Pending → Outcome → Type 0
IsOutcomeOf p entries x (Ends l) = places.lines_of (tree_of (tree_line_of l)) ≡ places.line (tree_line_of l) ∷ []
IsOutcomeOf p entries x (Ask set order weights waited sums) =
    IsHubSet p set × IsOrder p set order.items × AreNodeWeights entries weights.items × (waited ≡ true → x.waits < most_waits)
    × IfSome sums (AreSumsOver p set order.items)
IsOutcomeOf p entries x (Split weights fixings advice) = AreNodeWeights entries weights.items × AreOnFree x.branch (sides_as fixings.items)
