-- The conditions of the check, line by line, in the order in which they are tried, each with its kind and line.
use Rattle.std.specs.Prelude.{◌≡◌, ℕ, ◌+◌, ◌-◌, ◌*◌, ◌<◌, ◌≤◌, List, [], ◌∷◌, ◌++◌, length, replicate, slice_index_or, Option, Some, None, Bool, true, false, nat_eq, All, Contains, ◌⊎◌, ◌↔◌}
use Rattle.hub_spec.specs.Problem.{Problem, is_allowed, commodity_at}
use Rattle.hub_spec.specs.Plans.{HasWanted, plan_cost}
use Rattle.hub_spec.specs.Cuts.{Prices, IsDual, IsWithinSums}
use Rattle.hub_spec.specs.Trees.{Branching, weight_sum, IsMultiple, HasRoom, LacksRoom, leaf_bound, Closes, IsBlocked, TreeLine, branch_on, leaf_of, no_hub, no_route, no_count, IsClosed}
use Rattle.core_spec.specs.CoreCuts.{CoreProof, MayBeMarked, IsCoreDual}
use Rattle.cert_spec.specs.Lines.{Item, says_version, says_size, says_cost, says_bound, says_hubs, says_route, says_cuts, says_cut, says_marked, says_dual, says_proof, says_nodes, says_tree, says_end}
use Rattle.cert_spec.specs.Stated.{Stated}
use Rattle.cert_spec.specs.Text.{certificate_items}
use Rattle.cert_spec.specs.Progress.{Progress, is_whole, at_start, after_line}

-- what a condition is about. `BoundOverCost` fails where the bound is above the cost.
-- `Core` fails where a marked cut is not Pareto-optimal by its mark.
pub data Kind : Type 0 where
  Size BoundOverCost Hubs Number Route Length Cost Dual Sum Core Branch Empty Block Count CutNumber Multiple Weight Leaf : Kind

-- a condition on a certificate, with the line at which it is tried
pub record Claim : Type 1 where
  pub kind : Kind
  pub line : ℕ
  pub holds : Type 0

abbrev pub claim : Kind → ℕ → Type 0 → Claim
claim kind line holds = record { kind = kind; line = line; holds = holds }

-- all of these conditions hold
abbrev pub AllHold : List Claim → Type 0
AllHold [] = Unit {0}
AllHold (c ∷ cs) = c.holds × AllHold cs

-- the first condition that fails is of this kind and at this line
abbrev pub FailsFirst : List Claim → Kind → ℕ → Type 0
FailsFirst [] kind line = ⊥
FailsFirst (c ∷ cs) kind line =
    ((¬ c.holds) × (c.kind ≡ kind) × (c.line ≡ line)) ⊎ (c.holds × FailsFirst cs kind line)

-- the dual of a run is feasible, with this part, for each of its commodities, of which the first has number t
pub record IsDualOfRun (p : Problem) (part t : ℕ) (r : ℕ × Prices) : Type 0 where
  pub each : (s : ℕ) → s < r.0 → IsDual p part (commodity_at p.size (t + s)) r.1

-- the condition, if it is time for it
abbrev pub if_time : Bool → Claim → List Claim
if_time true c = c ∷ []
if_time false c = []

-- the stated cost, once each commodity has a route
abbrev pub cost_conditions : Problem → Progress → List (ℕ × ℕ) → List Claim
cost_conditions p s routes =
    if_time (nat_eq (length routes) (s.size * s.size))
    (claim Cost s.line (s.cost ≡ plan_cost p (record { hubs = s.hubs; routes = routes })))

-- the sums of a cut, once each commodity has a dual
abbrev pub sum_conditions : Problem → Progress → List Prices → List Claim
sum_conditions p s duals =
    if_time (is_whole s duals) (claim Sum s.line (IsWithinSums p (record { part = s.part; duals = duals })))

-- what a cut's line says of its mark: cuts of the problem may be marked, and these hubs are candidates
abbrev pub MayMark : Problem → List ℕ → Type 0
MayMark p hubs = MayBeMarked p × All (Contains p.candidates) hubs

-- the hubs of the mark, if there is one
abbrev pub marked_hubs : Option (List ℕ) → List ℕ
marked_hubs None = []
marked_hubs (Some hubs) = hubs

-- the last of the duals is a Pareto-optimal dual of its commodity, by this proof
abbrev pub LastIsCore : Problem → Progress → CoreProof → Type 0
LastIsCore p s proof =
    let t = length s.duals - 1 in
    IsCoreDual p (marked_hubs s.mark) s.part (commodity_at p.size t) (slice_index_or s.duals t (record { a = 0; u = [] })) proof

-- those of a line of the tree, at the next branch that is to be filled
abbrev pub tree_conditions : Problem → Progress → List Branching → TreeLine → List Claim
tree_conditions p s [] l = []
tree_conditions p s (b ∷ pending) (branch_on k) = claim Branch s.line (Contains b.free k) ∷ []
tree_conditions p s (b ∷ pending) (leaf_of denom weights) =
    claim Count s.line (HasRoom p.wanted b)
    ∷ claim CutNumber s.line (All (λ (e : ℕ × ℕ). e.0 ≤ length s.cuts) weights)
    ∷ claim Multiple s.line (All (IsMultiple s.cuts) weights)
    ∷ claim Weight s.line (weight_sum weights ≤ denom)
    ∷ claim Leaf s.line (Closes denom s.bound (leaf_bound p s.cuts denom weights b))
    ∷ []
tree_conditions p s (b ∷ pending) no_hub = claim Empty s.line (IsClosed b) ∷ []
tree_conditions p s (b ∷ pending) (no_route commodity) = claim Block s.line (IsBlocked p b commodity) ∷ []
tree_conditions p s (b ∷ pending) no_count = claim Count s.line (LacksRoom p.wanted b) ∷ []

-- the conditions that are tried at a line that says this, in order
abbrev pub line_conditions : Problem → Progress → Item → List Claim
line_conditions p s (says_version v) = []
line_conditions p s (says_size n q) = claim Size s.line ((n ≡ p.size) × (q ≡ length p.candidates)) ∷ []
line_conditions p s (says_cost c) = []
line_conditions p s (says_bound b) = claim BoundOverCost s.line (b ≤ s.cost) ∷ []
line_conditions p s (says_hubs hubs) =
    claim Hubs s.line (All (Contains p.candidates) hubs) ∷ claim Number s.line (HasWanted p hubs) ∷ []
line_conditions p s (says_route commodity route) =
    claim Route s.line (Contains s.hubs route.0 × Contains s.hubs route.1)
    ∷ claim Length s.line (is_allowed p commodity route.0 route.1 ≡ true)
    ∷ cost_conditions p s (s.routes ++ route ∷ [])
line_conditions p s (says_cuts all) = []
line_conditions p s (says_cut number part) = []
line_conditions p s (says_marked number part hubs) = claim Core s.line (MayMark p hubs) ∷ []
line_conditions p s (says_dual commodity run dual) =
    claim Dual s.line (IsDualOfRun p s.part (length s.duals) (run, dual)) ∷ sum_conditions p s (s.duals ++ replicate run dual)
line_conditions p s (says_proof proof) = claim Core s.line (LastIsCore p s proof) ∷ []
line_conditions p s (says_nodes all) = []
line_conditions p s (says_tree l) = tree_conditions p s s.pending l
line_conditions p s says_end = []

-- those of these lines, one after another
abbrev pub conditions_from : Problem → Progress → List Item → List Claim
conditions_from p s [] = []
conditions_from p s (item ∷ items) = line_conditions p s item ++ conditions_from p (after_line p s item) items

-- the conditions of the check of a certificate: those of its lines
abbrev pub conditions : Problem → Stated → List Claim
conditions p k = conditions_from p at_start (certificate_items k)

-- the kinds that count for an older certificate whose cuts are imported: its size, its duals, and the sums of its cuts
abbrev pub is_of_cuts : Kind → Bool
is_of_cuts Size = true
is_of_cuts Dual = true
is_of_cuts Sum = true
is_of_cuts other = false

-- those of these conditions whose kind passes the test, in order
abbrev pub asked : (Kind → Bool) → List Claim → List Claim
asked is_asked [] = []
asked is_asked (c ∷ cs) = if_time (is_asked c.kind) c ++ asked is_asked cs

-- the conditions on an older certificate, whatever its plan, its marks and its tree
abbrev pub older_conditions : Problem → Stated → List Claim
older_conditions p k = asked is_of_cuts (conditions p k)

-- two lists of conditions are equivalent: both hold, or the same condition is the first of them to fail
pub record ComesToTheSame (xs ys : List Claim) : Type 0 where
  pub hold : AllHold xs ↔ AllHold ys
  pub fail : (kind : Kind) (line : ℕ) → FailsFirst xs kind line ↔ FailsFirst ys kind line
