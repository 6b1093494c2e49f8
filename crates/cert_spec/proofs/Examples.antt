-- Certificates, computed: one with runs and blocks, one with a marked cut, and a bound where a cut has a part.
use Rattle.std.proofs.Common.{◌≡◌, ℕ, zero, suc, ◌++◌, List, [], ◌∷◌, true, false, Some, None, refl}
use Rattle.std.specs.Prelude.{codes, pos, ℤ, ◌-ℤ◌, ◌+ℤ◌, ◌*◌}
use Rattle.hub_spec.specs.Sums.{least_sum}
use Rattle.hub_spec.specs.Problem.{Problem, flow, distance, fixed_cost, is_allowed, route_cost, commodities}
use Rattle.hub_spec.specs.Edges.{edge_cost, least_cost}
use Rattle.hub_spec.specs.Cuts.{Prices, Cut}
use Rattle.hub_spec.specs.Separation.{set_cut, minimal_dual}
use Rattle.hub_spec.specs.Trees.{branch, leaf, block, root, open_child, leaf_bound}
use Rattle.hub_spec.specs.Certificates.{Proof}
use Rattle.cert_spec.specs.Stated.{Stated, unmarked}
use Rattle.core_spec.specs.CoreCuts.{CoreProof}
use Rattle.cert_spec.specs.Lines.{says_marked, line_text}
use Rattle.cert_spec.specs.Grammar.{want_cut, want_proof, shape}
use Rattle.cert_spec.specs.Reading.{number_of, item_of, wanted_item}
use Rattle.cert_spec.specs.Text.{certificate_text}
use Rattle.std.specs.Fmt.{digits}

-- two nodes 10 apart, each with a flow to itself alone, no route longer than 5, and a fixed cost of 5
far : Problem
far = record {
  size = 2;
  candidates = 0 ∷ 1 ∷ [];
  flows = 1000000 ∷ 0 ∷ 0 ∷ 1000000 ∷ [];
  distances = 0 ∷ 10000 ∷ 10000 ∷ 0 ∷ [];
  fixed_costs = 5000000000000 ∷ 5000000000000 ∷ [];
  collect = 1000;
  trunk = 1000;
  deliver = 1000;
  listed_p = None;
  longest = Some 5000;
  wanted = None;
}

-- the flow of the second node cannot go through the first; where there is no flow every route is allowed
not_through_first : is_allowed far (1, 1) 0 0 ≡ false
unfolding is_allowed flow distance far
not_through_first = refl

no_flow_any_way : is_allowed far (0, 1) 0 0 ≡ true
unfolding is_allowed flow distance far
no_flow_any_way = refl

-- nor can it go through both
through_both : edge_cost far (1, 1) 0 1 ≡ None
unfolding is_allowed flow distance route_cost far
through_both = refl

no_prices : Prices
no_prices = record { a = 0; u = [] }

far_certificate : Proof
far_certificate = record {
  version = 2;
  size = 2;
  candidates = 2;
  cost = 10000000000000;
  bound = 10000000000000;
  plan = record { hubs = 0 ∷ 1 ∷ []; routes = (0, 0) ∷ (0, 0) ∷ (0, 0) ∷ (1, 1) ∷ [] };
  cuts = record { part = 1; duals = no_prices ∷ no_prices ∷ no_prices ∷ no_prices ∷ [] } ∷ [];
  tree = branch 0 (branch 1 (leaf 1000000 []) (block (1, 1))) (block (0, 0));
}

lf : List ℕ → List ℕ
lf line = line ++ 10 ∷ []

far_text : certificate_text (unmarked far_certificate)
    ≡ lf (codes "HUBCERT 2") ++ lf (codes "size 2 2") ++ lf (codes "cost 10000000000000") ++ lf (codes "bound 10000000000000")
    ++ lf (codes "hubs 1 2") ++ lf (codes "route 1 1 1 1") ++ lf (codes "route 1 2 1 1") ++ lf (codes "route 2 1 1 1")
    ++ lf (codes "route 2 2 2 2") ++ lf (codes "cuts 1") ++ lf (codes "cut 1 1") ++ lf (codes "duals 1 1 2 0")
    ++ lf (codes "duals 2 1 2 0") ++ lf (codes "nodes 5") ++ lf (codes "branch 1") ++ lf (codes "branch 2")
    ++ lf (codes "leaf 1000000") ++ lf (codes "block 2 2") ++ lf (codes "block 1 1") ++ lf (codes "end")
unfolding certificate_text line_text digits commodities far_certificate no_prices lf
far_text = refl

-- the same in the third version with a marked cut of part 2: each dual has a line of its own, though it equals the one before
priced : Prices
priced = record { a = 20; u = (1, 6) ∷ [] }

no_ways : CoreProof
no_ways = record { turns = 0; scale = 1; ways = [] }

two_ways : CoreProof
two_ways = record { turns = 1; scale = 2; ways = (0, 1, 3) ∷ (1, 1, 5) ∷ [] }

marked_certificate : Stated
marked_certificate = record {
  proof = record far_certificate { version = 3; cuts = record { part = 2; duals = no_prices ∷ no_prices ∷ priced ∷ priced ∷ [] } ∷ [] };
  marks = Some (record { hubs = 0 ∷ 1 ∷ []; proofs = no_ways ∷ no_ways ∷ two_ways ∷ two_ways ∷ [] }) ∷ [];
}

marked_text : certificate_text marked_certificate
    ≡ lf (codes "HUBCERT 3") ++ lf (codes "size 2 2") ++ lf (codes "cost 10000000000000") ++ lf (codes "bound 10000000000000")
    ++ lf (codes "hubs 1 2") ++ lf (codes "route 1 1 1 1") ++ lf (codes "route 1 2 1 1") ++ lf (codes "route 2 1 1 1")
    ++ lf (codes "route 2 2 2 2") ++ lf (codes "cuts 1") ++ lf (codes "cut 1 2 core 1 2")
    ++ lf (codes "dual 1 1 0") ++ lf (codes "proof 0 1") ++ lf (codes "dual 1 2 0") ++ lf (codes "proof 0 1")
    ++ lf (codes "dual 2 1 20 2 6") ++ lf (codes "proof 1 2 1 2 3 2 2 5") ++ lf (codes "dual 2 2 20 2 6") ++ lf (codes "proof 1 2 1 2 3 2 2 5")
    ++ lf (codes "nodes 5") ++ lf (codes "branch 1") ++ lf (codes "branch 2") ++ lf (codes "leaf 1000000") ++ lf (codes "block 2 2")
    ++ lf (codes "block 1 1") ++ lf (codes "end")
unfolding certificate_text line_text digits commodities far_certificate marked_certificate priced no_ways two_ways no_prices lf
marked_text = refl

-- only the third version has marks, and a mark has a hub
marked_line : wanted_item (want_cut (shape 3 2) 1 0) (codes "cut 1 2 core 1 2") ≡ Some (says_marked 1 2 (0 ∷ 1 ∷ []))
unfolding wanted_item number_of item_of
marked_line = refl

not_in_the_second : wanted_item (want_cut (shape 2 2) 1 0) (codes "cut 1 2 core 1 2") ≡ None
unfolding wanted_item number_of item_of
not_in_the_second = refl

mark_without_hub : wanted_item (want_cut (shape 3 2) 1 0) (codes "cut 1 2 core") ≡ None
unfolding wanted_item number_of item_of
mark_without_hub = refl

-- no pair of nodes stands twice in a proof
pair_twice : wanted_item (want_proof (shape 3 2) 1 0 0) (codes "proof 1 2 1 2 3 1 2 5") ≡ None
unfolding wanted_item number_of item_of
pair_twice = refl

-- the cut of both nodes has no price and no load
far_cut : set_cut far (0 ∷ 1 ∷ []) [] ≡ record { part = 1; duals = no_prices ∷ no_prices ∷ no_prices ∷ no_prices ∷ [] }
unfolding set_cut minimal_dual least_cost is_allowed flow distance route_cost commodities far no_prices
far_cut = refl

-- the two least of three gains
gain_of : ℕ → ℤ
gain_of zero = pos 5
gain_of (suc zero) = pos 0 -ℤ pos 3
gain_of other = pos 4

two_least : least_sum 2 gain_of (0 ∷ 1 ∷ 2 ∷ []) ≡ pos 1
unfolding gain_of
two_least = refl

-- a weight on a cut with the part 2 counts half
halved : Problem → Cut
halved p = record { part = 2; duals = record { a = 20; u = (0, 6) ∷ [] } ∷ [] }

half_bound : leaf_bound (record far { longest = None }) (halved far ∷ []) 4 ((1, 4) ∷ []) (open_child (root far) 0)
    ≡ pos (2 * 20) +ℤ (pos (4 * 5000000000000) -ℤ pos (2 * 6))
unfolding halved far fixed_cost
half_bound = refl
