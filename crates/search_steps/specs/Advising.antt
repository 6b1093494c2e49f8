-- The weights and the point that the master of a branch gives a search with these cuts.
use Rattle.std.specs.Prelude.{ℕ, ◌+◌, ◌*◌, ◌/◌, List, [], ◌∷◌, map, slice_index_or, pos, Option, Some, None}
use Rattle.std.specs.List.{range_with_len}
use Rattle.hub_spec.specs.Problem.{Problem}
use Rattle.hub_spec.specs.Cuts.{Cut, total, load}
use Rattle.search_spec.specs.States.{Advice, Parts}
use Rattle.search_spec.specs.Choices.{Advising, rule_parts}
use Rattle.leaf_bound.specs.Theorems.{weight_pairs}
use Rattle.frac_master.specs.Masters.{MasterNumbers}
use Rattle.frac_master.specs.Advice.{Advised, advice}

-- a cut's total in the master: for each unit of its part, rounded down
abbrev pub unit_total : Cut → ℕ
unit_total cut = total cut / cut.part

-- and so its loads, by node
abbrev pub unit_node_loads : Problem → Cut → List ℕ
unit_node_loads p cut = map (λ k. load cut k / cut.part) (range_with_len 0 p.size)

-- these fixed costs; where exactly n hubs are wanted, each with an n-th of the incumbent's cost added, rounded down
abbrev pub with_share : Option ℕ → ℕ → List ℕ → List ℕ
with_share None cost fixed = fixed
with_share (Some n) cost fixed = map (λ f. f + cost / n) fixed

-- the fixed costs of the master, where the incumbent has this cost
abbrev pub advised_costs : Problem → ℕ → List ℕ
advised_costs p cost = with_share p.wanted cost p.fixed_costs

-- the numbers of a master of these cuts, for one unit of their parts
abbrev pub master_numbers : Problem → List Cut → ℕ → MasterNumbers
master_numbers p cuts cost = record { totals = map unit_total cuts; loads = map (unit_node_loads p) cuts; fixed = advised_costs p cost }

-- the master's result as a search has it: the weights above 0 by cut number, and a point that is 0 beyond the nodes
abbrev pub told_by : Advised → Advice
told_by a = record { weights = weight_pairs a.weights; point = λ k. slice_index_or a.point k (pos 0); scale = a.scale }

-- each of the weights, rounded down to a multiple of its cut's part
abbrev pub in_parts : List ℕ → List ℕ → List ℕ
in_parts [] parts = []
in_parts (w ∷ weights) [] = []
in_parts (w ∷ weights) (e ∷ parts) = w / e * e ∷ in_parts weights parts

-- the master's result with weights that a leaf on these cuts may have
abbrev pub advised_on : List Cut → Advised → Advised
advised_on cuts a = record a { weights = in_parts a.weights (map (λ cut. cut.part) cuts) }

-- the weights and point of the master over the state's cuts, on the branch; where each part is 1 the weights are the
-- master's own
unfoldable pub master_advising : Problem → Advising
master_advising p s b = told_by (advised_on s.cuts (advice (master_numbers p s.cuts s.cost) b))

-- the parts of the rule, with the weights and point of the master
abbrev pub parts_of : Problem → Parts
parts_of p = rule_parts p (master_advising p)
