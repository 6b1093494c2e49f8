-- The same conditions part by part, for a check that holds the certificate: plan, cuts and tree, with their lines
-- counted.
use Rattle.std.specs.Prelude.{◌≡◌, ℕ, ◌+◌, ◌≤◌, ◌*◌, Bool, true, false, nat_eq, Option, Some, None, List, [], ◌∷◌, ◌++◌, length, sum_by, All, Contains}
use Rattle.hub_spec.specs.Problem.{Problem, is_allowed, commodities, commodity_at}
use Rattle.hub_spec.specs.Plans.{HasWanted, plan_cost}
use Rattle.hub_spec.specs.Cuts.{Prices, Cut, IsWithinSums}
use Rattle.hub_spec.specs.Trees.{Branching, root, open_child, closed_child, weight_sum, leaf_bound, Closes, IsMultiple, Tree, branch, leaf, empty, block, count, IsClosed, IsBlocked, HasRoom, LacksRoom, line_count}
use Rattle.hub_spec.specs.Certificates.{Proof}
use Rattle.core_spec.specs.CoreCuts.{CoreProof, Mark, IsCoreDual}
use Rattle.cert_spec.specs.Stated.{Stated, cuts_of}
use Rattle.cert_spec.specs.Text.{dual_runs}
use Rattle.cert_spec.specs.Conditions.{Claim, claim, if_time, IsDualOfRun, MayMark, Size, BoundOverCost, Hubs, Number, Route, Length, Cost, Dual, Sum, Core, Branch, Empty, Block, Count, CutNumber, Multiple, Weight, Leaf}

-- ---- on which line each part stands, counted from 1

-- the numbers of nodes and of candidates
abbrev pub size_line : ℕ
size_line = 2

-- the bound
abbrev pub bound_line : ℕ
bound_line = 4

-- the hubs of the plan
abbrev pub hubs_line : ℕ
hubs_line = 5

-- its first route
abbrev pub first_route_line : ℕ
first_route_line = 6

-- its last route, between n nodes
abbrev pub last_route_line : ℕ → ℕ
last_route_line n = 5 + n * n

-- the first cut, after the line that says how many there are
abbrev pub first_cut_line : ℕ → ℕ
first_cut_line n = 7 + n * n

-- how many lines the cut takes: with a mark two for each dual, since a proof follows it
abbrev pub cut_lines : ℕ → ℕ → Cut × Option Mark → ℕ
cut_lines v n (cut, None) = length (dual_runs v n cut.duals) + 1
cut_lines v n (cut, Some mark) = 2 * length cut.duals + 1

-- the first dual of the cut that stands at this line
abbrev pub first_dual_line : ℕ → ℕ
first_dual_line line = line + 1

-- its last dual, where it has no mark
abbrev pub last_dual_line : ℕ → ℕ → Cut → ℕ → ℕ
last_dual_line v n cut line = line + length (dual_runs v n cut.duals)

-- the first line of the tree after these cuts
abbrev pub first_tree_line : ℕ → ℕ → List (Cut × Option Mark) → ℕ
first_tree_line v n cuts = 8 + n * n + sum_by (cut_lines v n) cuts

-- ---- the conditions

-- each route, from this line on, goes through hubs and is allowed for its commodity
abbrev pub route_claims : Problem → List ℕ → ℕ → List (ℕ × ℕ) → List (ℕ × ℕ) → List Claim
route_claims p hubs line [] rs = []
route_claims p hubs line (c ∷ cs) [] = []
route_claims p hubs line (c ∷ cs) (r ∷ rs) =
    claim Route line (Contains hubs r.0 × Contains hubs r.1)
    ∷ claim Length line (is_allowed p c r.0 r.1 ≡ true)
    ∷ route_claims p hubs (line + 1) cs rs

-- each run's dual, from this line on
abbrev pub dual_claims : Problem → ℕ → ℕ → ℕ → List (ℕ × Prices) → List Claim
dual_claims p part line t [] = []
dual_claims p part line t (r ∷ rest) =
    claim Dual line (IsDualOfRun p part t r) ∷ dual_claims p part (line + 1) (t + r.0) rest

-- the duals of a marked cut from this line on, where the first has number t; each with its proof, if proofs are
-- checked; at the last dual the sums of the cut
abbrev pub proved_claims : Problem → Bool → Cut → List ℕ → ℕ → ℕ → List Prices → List CoreProof → List Claim
proved_claims p asked cut hubs line t [] proofs = []
proved_claims p asked cut hubs line t (dual ∷ duals) [] = []
proved_claims p asked cut hubs line t (dual ∷ duals) (proof ∷ proofs) =
    claim Dual line (IsDualOfRun p cut.part t (1, dual))
    ∷ (if_time (nat_eq (t + 1) (p.size * p.size)) (claim Sum line (IsWithinSums p cut))
    ++ (if_time asked (claim Core (line + 1) (IsCoreDual p hubs cut.part (commodity_at p.size t) dual proof))
    ++ proved_claims p asked cut hubs (line + 2) (t + 1) duals proofs))

-- a cut that stands at this line: its duals, and at the last of them its sums;
-- where it is marked its mark too, if marks are checked
abbrev pub one_cut_claims : Problem → Bool → ℕ → ℕ → Cut × Option Mark → List Claim
one_cut_claims p asked v line (cut, None) =
    dual_claims p cut.part (first_dual_line line) 0 (dual_runs v p.size cut.duals)
    ++ claim Sum (last_dual_line v p.size cut line) (IsWithinSums p cut) ∷ []
one_cut_claims p asked v line (cut, Some mark) =
    if_time asked (claim Core line (MayMark p mark.hubs))
    ++ proved_claims p asked cut mark.hubs (first_dual_line line) 0 cut.duals mark.proofs

-- each cut, the first of which stands at this line
abbrev pub cut_claims : Problem → Bool → ℕ → ℕ → List (Cut × Option Mark) → List Claim
cut_claims p asked v line [] = []
cut_claims p asked v line (cut ∷ cuts) =
    one_cut_claims p asked v line cut ++ cut_claims p asked v (line + cut_lines v p.size cut) cuts

-- each line of the tree of a branch, in preorder from this line on
abbrev pub tree_claims : Problem → List Cut → ℕ → ℕ → Branching → Tree → List Claim
tree_claims p cuts target line b (branch k opened closed) =
    claim Branch line (Contains b.free k)
    ∷ (tree_claims p cuts target (line + 1) (open_child b k) opened
    ++ tree_claims p cuts target (line + 1 + line_count opened) (closed_child b k) closed)
tree_claims p cuts target line b (leaf denom weights) =
    claim Count line (HasRoom p.wanted b)
    ∷ claim CutNumber line (All (λ (e : ℕ × ℕ). e.0 ≤ length cuts) weights)
    ∷ claim Multiple line (All (IsMultiple cuts) weights)
    ∷ claim Weight line (weight_sum weights ≤ denom)
    ∷ claim Leaf line (Closes denom target (leaf_bound p cuts denom weights b))
    ∷ []
tree_claims p cuts target line b empty = claim Empty line (IsClosed b) ∷ []
tree_claims p cuts target line b (block commodity) = claim Block line (IsBlocked p b commodity) ∷ []
tree_claims p cuts target line b count = claim Count line (LacksRoom p.wanted b) ∷ []

-- the numbers of nodes and candidates are the instance's
abbrev pub size_claim : Problem → Proof → Claim
size_claim p k = claim Size size_line ((k.size ≡ p.size) × (k.candidates ≡ length p.candidates))

-- they are, and the bound is not above the cost
abbrev pub size_claims : Problem → Proof → List Claim
size_claims p k =
    size_claim p k
    ∷ claim BoundOverCost bound_line (k.bound ≤ k.cost)
    ∷ []

-- the plan of these hubs and routes between n nodes: its hubs, each route, and at the last of them its stated cost
abbrev pub hub_claims : Problem → (n cost : ℕ) → (hubs : List ℕ) → (routes : List (ℕ × ℕ)) → List Claim
hub_claims p n cost hubs routes =
    claim Hubs hubs_line (All (Contains p.candidates) hubs)
    ∷ claim Number hubs_line (HasWanted p hubs)
    ∷ (route_claims p hubs first_route_line (commodities n) routes
    ++ claim Cost (last_route_line n) (cost ≡ plan_cost p (record { hubs = hubs; routes = routes })) ∷ [])

-- the conditions up to the cuts
abbrev pub plan_claims : Problem → Proof → List Claim
plan_claims p k = size_claims p k ++ hub_claims p k.size k.cost k.plan.hubs k.plan.routes

-- those of the cuts, and of their marks if these are checked
abbrev pub all_cut_claims : Problem → Bool → Stated → List Claim
all_cut_claims p asked k = cut_claims p asked k.proof.version (first_cut_line k.proof.size) (cuts_of k)

-- those of the tree
abbrev pub all_tree_claims : Problem → Stated → List Claim
all_tree_claims p k =
    tree_claims p k.proof.cuts k.proof.bound (first_tree_line k.proof.version k.proof.size (cuts_of k)) (root p) k.proof.tree

-- the conditions in the order in which they are tried
abbrev pub claims : Problem → Stated → List Claim
claims p k = plan_claims p k.proof ++ (all_cut_claims p true k ++ all_tree_claims p k)

-- those of an older certificate whose cuts are imported: its size, and its cuts, whatever their marks
abbrev pub older_claims : Problem → Stated → List Claim
older_claims p k = size_claim p k.proof ∷ all_cut_claims p false k
