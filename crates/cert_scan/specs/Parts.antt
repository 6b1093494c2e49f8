-- The items that the lines of a certificate give.
use Rattle.std.specs.Prelude.{ℕ, Bool, true, false, List, [], ◌∷◌, map, flat_map}
use Rattle.hub_spec.specs.Trees.{TreeLine, branch_on, leaf_of, no_hub, no_route, no_count}
use Rattle.core_spec.specs.CoreCuts.{Way}
use Rattle.cert_spec.specs.Stated.{Stated}
use Rattle.cert_spec.specs.Lines.{Item as Line, says_version, says_size, says_cost, says_bound, says_hubs, says_route, says_cuts, says_cut, says_marked, says_dual, says_proof, says_nodes, says_tree, says_end, part_of}
use Rattle.cert_spec.specs.Text.{certificate_items}
use Rattle.cert_scan.specs.Versions.{version_of}
use Rattle.cert_scan.specs.declared.items.Item.{Item}
use Rattle.cert_scan.specs.declared.items.Item.TheVariants.{Version, Size, Cost, Bound, Hub, Route, Cuts, Cut, CoreHub, Dual, DualPair, Proof, ProofPair, Nodes, Branch, Leaf, LeafPair, Empty, Block, Count, End}

-- nothing is left of a list
abbrev pub none_left : {X : Type 0} → List X → Bool
none_left [] = true
none_left (x ∷ rest) = false

-- the hubs of a plan, the last of which ends the line
abbrev pub hub_parts : List ℕ → List Item
hub_parts [] = []
hub_parts (k ∷ rest) = Hub k (none_left rest) ∷ hub_parts rest

-- the hubs of a mark
abbrev pub mark_parts : List ℕ → List Item
mark_parts [] = []
mark_parts (k ∷ rest) = CoreHub k (none_left rest) ∷ mark_parts rest

-- the values of a dual, each with its node
abbrev pub value_parts : List (ℕ × ℕ) → List Item
value_parts [] = []
value_parts (e ∷ rest) = DualPair e.0 e.1 (none_left rest) ∷ value_parts rest

-- the ways of a proof
abbrev pub way_parts : List Way → List Item
way_parts [] = []
way_parts (w ∷ rest) = ProofPair w.0 w.1 w.2 (none_left rest) ∷ way_parts rest

-- the weights of a leaf, each with its cut
abbrev pub weight_parts : List (ℕ × ℕ) → List Item
weight_parts [] = []
weight_parts (e ∷ rest) = LeafPair e.0 e.1 (none_left rest) ∷ weight_parts rest

-- what a line of the tree gives
abbrev pub tree_parts : TreeLine → List Item
tree_parts (branch_on k) = Branch k ∷ []
tree_parts (leaf_of denom weights) = Leaf denom (none_left weights) ∷ weight_parts weights
tree_parts no_hub = Empty ∷ []
tree_parts (no_route commodity) = Block commodity.0 commodity.1 ∷ []
tree_parts no_count = Count ∷ []

-- what a line gives
abbrev pub parts_of : Line → List Item
parts_of (says_version v) = Version (version_of v) ∷ []
parts_of (says_size n q) = Size n q ∷ []
parts_of (says_cost c) = Cost c ∷ []
parts_of (says_bound b) = Bound b ∷ []
parts_of (says_hubs hubs) = hub_parts hubs
parts_of (says_route commodity route) = Route commodity.0 commodity.1 route.0 route.1 ∷ []
parts_of (says_cuts all) = Cuts all ∷ []
parts_of (says_cut number part) = Cut number (part_of part) true ∷ []
parts_of (says_marked number part hubs) = Cut number part false ∷ mark_parts hubs
parts_of (says_dual commodity run dual) =
    Dual commodity.0 commodity.1 run dual.a (none_left dual.u) ∷ value_parts dual.u
parts_of (says_proof proof) = Proof proof.turns proof.scale (none_left proof.ways) ∷ way_parts proof.ways
parts_of (says_nodes all) = Nodes all ∷ []
parts_of (says_tree line) = tree_parts line
parts_of says_end = End ∷ []

-- what the text of a certificate gives
abbrev pub items_of : Stated → List Item
items_of k = flat_map parts_of (certificate_items k)

-- ---- the items of a line whose end has not come

-- some hubs
abbrev pub open_hubs : List ℕ → List Item
open_hubs hubs = map (λ k. Hub k false) hubs

-- some hubs of a mark
abbrev pub open_mark : List ℕ → List Item
open_mark hubs = map (λ k. CoreHub k false) hubs

-- some values of a dual
abbrev pub open_values : List (ℕ × ℕ) → List Item
open_values u = map (λ e. DualPair e.0 e.1 false) u

-- some ways of a proof
abbrev pub open_ways : List Way → List Item
open_ways ways = map (λ (w : Way). ProofPair w.0 w.1 w.2 false) ways

-- some weights of a leaf
abbrev pub open_weights : List (ℕ × ℕ) → List Item
open_weights weights = map (λ e. LeafPair e.0 e.1 false) weights
