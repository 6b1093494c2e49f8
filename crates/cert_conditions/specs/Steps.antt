-- What an item makes of a check.
use Rattle.std.specs.Prelude.{◌≡◌, ◌≢◌, ℕ, ◌+◌, ◌-◌, ◌*◌, ◌^◌, ◌<◌, ◌≤◌, ◌↔◌, Bool, true, false, IsTrue, List, [], ◌∷◌, ◌++◌, length, Option, Some, None, IfSome, MatchOption, nat_eq, All, Contains, ◌⊎◌, if◌then◌else◌}
use Rattle.hub_spec.specs.Limits.{most_part, most_denominator}
use Rattle.hub_spec.specs.Problem.{is_allowed, commodity_at}
use Rattle.hub_spec.specs.Plans.{IsCandidateSet, HasWanted}
use Rattle.hub_spec.specs.Cuts.{IsDual}
use Rattle.hub_spec.specs.Trees.{Closes, IsClosed, IsBlocked, HasRoom, LacksRoom, open_child, closed_child}
use Rattle.hub_spec.specs.Ranges.{IsShort, IsAmount}
use Rattle.cert_spec.specs.Conditions.{Claim, claim, Size, BoundOverCost, Hubs, Number, Route, Length, Cost, Dual, Sum, Core, Empty, Block, Count, Leaf, AllHold, FailsFirst, if_time, MayMark}
use Rattle.core_spec.specs.CoreCuts.{Way}
use Rattle.core_spec.specs.MarkRanges.{most_turns, most_scale, most_taken}
use Rattle.core_lines.specs.Tallies.{ProofTally, most_ways, IsNoWay, IsWayAdded}
use Rattle.core_lines.specs.Tests.{IsListed, Proves}
use Rattle.cert_conditions.specs.Kinds.{kind_of}
use Rattle.cert_conditions.specs.declared.kinds.Kind as code
use Rattle.cert_scan.specs.declared.items.Item as item
use Rattle.cert_lines.specs.PlanTallies.{with_hub, with_route}
use Rattle.dual_lines.specs.Lines.{ListedDual}
use Rattle.cert_lines.specs.Trails.{undecided}
use Rattle.cert_lines.specs.Paths.{next, behind_next}
use Rattle.cert_lines.specs.Tallies.{Tally, IsMultipleOf, IsBegun, IsAdded, tally_bound}
use Rattle.cert_conditions.specs.Sums.{CutTally, most_duals, IsNoDual, AreWithin, last_of, numbered, IsLastAdded}
use Rattle.cert_conditions.specs.declared.checks.Checks.{Checks}

-- the item is the last of its line
abbrev pub ends : item.Item → Bool
ends (item.TheVariants.Hub k last) = last
ends (item.TheVariants.Cut number part last) = last
ends (item.TheVariants.CoreHub k last) = last
ends (item.TheVariants.Dual i j run a last) = last
ends (item.TheVariants.DualPair k u last) = last
ends (item.TheVariants.Proof turns scale last) = last
ends (item.TheVariants.ProofPair k m often last) = last
ends (item.TheVariants.Leaf denom last) = last
ends (item.TheVariants.LeafPair c w last) = last
ends other = true

-- it ends a line that begins a cut
abbrev pub IsCut : item.Item → Type 0
IsCut (item.TheVariants.Cut number part last) = IsTrue last
IsCut (item.TheVariants.CoreHub k last) = IsTrue last
IsCut other = ⊥

-- of these conditions all hold, or what was found is the first to fail
abbrev pub Tried : List Claim → Option code.Kind → ℕ → Type 0
Tried cs None line = AllHold cs
Tried cs (Some kind) line = FailsFirst cs (kind_of kind) line

-- what was found, with its line
abbrev pub failed_at : ℕ → Option code.Kind → Option (code.Kind × ℕ)
failed_at line None = None
failed_at line (Some kind) = Some (kind, line)

-- the line has ended, and this was found of it
abbrev pub ended : Checks → Option code.Kind → Checks
ended c found = record c { line = c.line + 1; failure = failed_at c.line found }

-- the line has ended, and these conditions were tried
pub record Ends (cs : List Claim) (kept new : Checks) : Type 0 where
  pub found : Option code.Kind
  pub tried : Tried cs found kept.line
  pub is : new ≡ ended kept found

-- ---- from the size to the plan

abbrev pub size_tests : Checks → ℕ → ℕ → List Claim
size_tests c n q = claim Size c.line ((n ≡ c.instance.now.size) × (q ≡ length c.instance.now.candidates)) ∷ []

abbrev pub bound_tests : Checks → List Claim
bound_tests c = claim BoundOverCost c.line (c.bound ≤ c.cost) ∷ []

abbrev pub hub_tests : Checks → List Claim
hub_tests c = claim Hubs c.line (IsTrue c.are_candidates) ∷ claim Number c.line (HasWanted c.instance.now c.plan.hubs) ∷ []

abbrev pub route_tests : Checks → ℕ × ℕ → ℕ × ℕ → List Claim
route_tests c commodity route =
    claim Route c.line (Contains c.plan.hubs route.0 × Contains c.plan.hubs route.1)
    ∷ claim Length c.line (is_allowed c.instance.now commodity route.0 route.1 ≡ true)
    ∷ if_time (nat_eq c.plan.routed (c.plan.size * c.plan.size)) (claim Cost c.line (c.cost ≡ c.plan.cost))

-- with one more hub; it and those before it are all candidates, or not
abbrev pub hubbed : Checks → ℕ → Bool → Checks
hubbed c k are = record c { plan = with_hub c.instance.now c.plan k; are_candidates = are }

abbrev pub routed : Checks → ℕ × ℕ → ℕ × ℕ → Checks
routed c commodity route = record c { plan = with_route c.instance.now c.plan commodity route }

-- the line ends here, or goes on
abbrev pub EndsOrGoesOn : Bool → List Claim → Checks → Checks → Type 0
EndsOrGoesOn true cs kept new = Ends cs kept new
EndsOrGoesOn false cs kept new = new ≡ kept

pub record HubTaken (old : Checks) (k : ℕ) (last : Bool) (new : Checks) : Type 0 where
  pub are : Bool
  pub known : IsTrue are ↔ (IsTrue old.are_candidates × Contains old.instance.now.candidates k)
  pub goes : EndsOrGoesOn last (hub_tests (hubbed old k are)) (hubbed old k are) new

-- ---- the cuts

pub record CutTaken (old : Checks) (part : ℕ) (new : Checks) : Type 0 where
  pub sums : CutTally
  pub none : IsNoDual old.instance.now.size part sums
  pub is : new ≡ ended (record old { cuts = old.cuts ++ sums ∷ [] }) None

-- the mark of a cut with this part begins, as yet without hubs
abbrev pub mark_begun : Checks → ℕ → Checks
mark_begun c part = record c { mark = record c.mark { part = part; hubs = [] } }

-- the line of the cut ends here, or goes on with its mark
abbrev pub CutGoesOn : Bool → Checks → ℕ → Checks → Type 0
CutGoesOn true old part new = CutTaken old part new
CutGoesOn false old part new = new ≡ mark_begun old part

-- with a hub more in the mark
abbrev pub mark_with : Checks → ℕ → Checks
mark_with c k = record c { mark = record c.mark { hubs = c.mark.hubs ++ k ∷ [] } }

abbrev pub mark_tests : Checks → List Claim
mark_tests c = claim Core c.line (MayMark c.instance.now c.mark.hubs) ∷ []

-- with the last hub of its mark the cut begins
pub record MarkTaken (old : Checks) (k : ℕ) (new : Checks) : Type 0 where
  pub sums : CutTally
  pub none : IsNoDual old.instance.now.size old.mark.part sums
  pub ends : Ends (mark_tests (mark_with old k)) (record (mark_with old k) { cuts = old.cuts ++ sums ∷ [] }) new

abbrev pub MarkGoesOn : Bool → Checks → ℕ → Checks → Type 0
MarkGoesOn true old k new = MarkTaken old k new
MarkGoesOn false old k new = new ≡ mark_with old k

-- the dual that is listed is feasible, with its part, for each commodity of its run
abbrev pub IsDualOfEach : ListedDual → Type 0
IsDualOfEach d = (s : ℕ) → s < d.run → IsDual d.problem d.part (d.commodity.0, d.commodity.1 + s) d.dual

abbrev pub sum_tests : Checks → List Claim
sum_tests c =
    if_time (nat_eq (last_of c.cuts).count (c.instance.now.size * c.instance.now.size))
    (claim Sum c.line (AreWithin (last_of c.cuts)))

abbrev pub dual_tests : Checks → List Claim
dual_tests c = claim Dual c.line (IsDualOfEach c.dual) ∷ sum_tests c

-- with these sums of the cuts
abbrev pub cut_with : Checks → List CutTally → Checks
cut_with c cuts = record c { cuts = cuts }

-- the run that is listed is added, and its conditions were tried
pub record DualEnds (kept new : Checks) : Type 0 where
  pub cuts : List CutTally
  pub added : IsLastAdded kept.cuts kept.dual.run kept.dual.dual cuts
  pub ends : Ends (dual_tests (cut_with kept cuts)) (cut_with kept cuts) new

abbrev pub DualGoesOn : Bool → Checks → Checks → Type 0
DualGoesOn true kept new = DualEnds kept new
DualGoesOn false kept new = new ≡ kept

-- the dual of a run of so many commodities, of which this is the first, with this price, and the part of the cut that
-- stands
abbrev pub begun_dual : Checks → ℕ × ℕ → ℕ → ℕ → ListedDual
begun_dual c commodity run a =
    record c.dual {
      commodity = commodity;
      part = (last_of c.cuts).part;
      run = run;
      dual = record { a = a; u = [] };
    }

-- with the value of a node more
abbrev pub with_value : ListedDual → ℕ × ℕ → ListedDual
with_value d e = record d { dual = record { a = d.dual.a; u = d.dual.u ++ e ∷ [] } }

-- the dual that is listed once the item has come
abbrev pub listed_with : Checks → item.Item → ListedDual
listed_with c (item.TheVariants.Dual i j run a last) = begun_dual c (i, j) run a
listed_with c (item.TheVariants.DualPair k u last) = with_value c.dual (k, u)
listed_with c other = c.dual

-- it is known to be feasible for each commodity of its run with this part, if that is its own
abbrev pub IsKnownWith : ListedDual → ℕ → Type 0
IsKnownWith d part = part ≡ d.part → IsDualOfEach d

-- with this dual listed
abbrev pub dual_with : Checks → ListedDual → Checks
dual_with c listed = record c { dual = listed }

-- ---- the proofs of a marked cut's duals

-- with this proof, as far as its ways have come
abbrev pub proof_with : Checks → ProofTally → Checks
proof_with c proof = record c { mark = record c.mark { proof = proof } }

-- the listed dual, with these values by node, is Pareto-optimal by the proof
abbrev pub proof_tests : Checks → List ℕ → List Claim
proof_tests c row =
    claim Core c.line (Proves c.mark.hubs (last_of c.cuts).part c.dual.dual.a row c.mark.proof) ∷ []

pub record ProofEnds (kept new : Checks) : Type 0 where
  pub row : List ℕ
  pub listed : IsListed kept.dual.dual kept.dual.dual.a row
  pub ends : Ends (proof_tests kept row) kept new

abbrev pub ProofGoesOn : Bool → Checks → Checks → Type 0
ProofGoesOn true kept new = ProofEnds kept new
ProofGoesOn false kept new = new ≡ kept

-- the commodity of the last dual of the cut that stands
abbrev pub proved_commodity : Checks → ℕ × ℕ
proved_commodity c = commodity_at c.instance.now.size ((last_of c.cuts).count - 1)

pub record ProofTaken (old : Checks) (turns scale : ℕ) (last : Bool) (new : Checks) : Type 0 where
  pub proof : ProofTally
  pub begun : IsNoWay old.mark.proof.problem (proved_commodity old) turns scale proof
  pub goes : ProofGoesOn last (proof_with old proof) new

pub record WayTaken (old : Checks) (way : Way) (last : Bool) (new : Checks) : Type 0 where
  pub proof : ProofTally
  pub added : IsWayAdded old.mark.proof way proof
  pub goes : ProofGoesOn last (proof_with old proof) new

-- ---- the tree

abbrev pub rooted : Checks → Checks
rooted c = record c { path = record c.path { pending = undecided c.path.candidates ∷ [] } }

abbrev pub branched : Checks → ℕ → Checks
branched c k =
    let b = next c.path.pending in
    record c { path = record c.path { pending = open_child b k ∷ closed_child b k ∷ behind_next c.path.pending } }

abbrev pub path_filled : Checks → Checks
path_filled c = record c { path = record c.path { pending = behind_next c.path.pending } }

abbrev pub BranchTaken : Checks → ℕ → Checks → Type 0
BranchTaken old k new =
    (Contains (next old.path.pending).free k × (new ≡ ended (branched old k) None))
    ⊎ ((Contains (next old.path.pending).free k → ⊥) × (new ≡ ended old (Some code.TheVariants.Branch)))

abbrev pub empty_tests : Checks → List Claim
empty_tests c = claim Empty c.line (IsClosed (next c.path.pending)) ∷ []

abbrev pub block_tests : Checks → ℕ × ℕ → List Claim
block_tests c commodity = claim Block c.line (IsBlocked c.instance.now (next c.path.pending) commodity) ∷ []

abbrev pub count_tests : Checks → List Claim
count_tests c = claim Count c.line (LacksRoom c.instance.now.wanted (next c.path.pending)) ∷ []

-- with these sums of a leaf, and what fails of its weights
abbrev pub leaf_with : Checks → Tally → Option code.Kind → Checks
leaf_with c sums failure = record c { leaf = sums; leaf_failure = failure }

-- the result of a leaf's conditions after that of its room
abbrev pub WeightsFound : Checks → Option code.Kind → Type 0
WeightsFound c found =
    MatchOption c.leaf_failure
    (Tried (claim Leaf c.line (Closes c.leaf.denom c.bound (tally_bound c.instance.now c.leaf (next c.path.pending))) ∷ [])
    found c.line)
    (λ kind. found ≡ Some kind)

-- there is no room for the wanted hubs, or there is, and this comes behind
abbrev pub LeafFound : Checks → Option code.Kind → Type 0
LeafFound c found =
    ((HasRoom c.instance.now.wanted (next c.path.pending) → ⊥) × (found ≡ Some code.TheVariants.Count))
    ⊎ (HasRoom c.instance.now.wanted (next c.path.pending) × WeightsFound c found)

pub record LeafEnds (kept new : Checks) : Type 0 where
  pub found : Option code.Kind
  pub tried : LeafFound kept found
  pub is : new ≡ ended (path_filled kept) found

abbrev pub LeafGoesOn : Bool → Checks → Checks → Type 0
LeafGoesOn true kept new = LeafEnds kept new
LeafGoesOn false kept new = new ≡ kept

pub record LeafTaken (old : Checks) (denom : ℕ) (last : Bool) (new : Checks) : Type 0 where
  pub sums : Tally
  pub begun : IsBegun denom (length old.leaf.loads) sums
  pub goes : LeafGoesOn last (leaf_with old sums None) new

-- what fails of a leaf's weights with one that is no multiple of its cut's part: a number of no cut comes before it,
-- and it comes before the sum
abbrev pub no_multiple : Option code.Kind → Option code.Kind
no_multiple (Some code.TheVariants.CutNumber) = Some code.TheVariants.CutNumber
no_multiple other = Some code.TheVariants.Multiple

-- a cut of this number comes with this weight: there is no such cut, or the weight is no multiple of its part, or
-- something failed already, or the weight is too much, or the cut is added
pub data IsWeighed (old : Checks) (c w : ℕ) (kept : Checks) : Type 0 where
  no_cut : length old.cuts < c → kept ≡ leaf_with old old.leaf (Some code.TheVariants.CutNumber) → IsWeighed old c w kept
  not_multiple : c ≤ length old.cuts → (IsMultipleOf (numbered old.cuts c).part w → ⊥)
      → kept ≡ leaf_with old old.leaf (no_multiple old.leaf_failure) → IsWeighed old c w kept
  failed : c ≤ length old.cuts → IsMultipleOf (numbered old.cuts c).part w → old.leaf_failure ≢ None → kept ≡ old
      → IsWeighed old c w kept
  too_much : c ≤ length old.cuts → IsMultipleOf (numbered old.cuts c).part w → old.leaf_failure ≡ None
      → old.leaf.denom < old.leaf.weight + w → kept ≡ leaf_with old old.leaf (Some code.TheVariants.Weight)
      → IsWeighed old c w kept
  added : (sums : Tally) → c ≤ length old.cuts → IsMultipleOf (numbered old.cuts c).part w → old.leaf_failure ≡ None
      → old.leaf.weight + w ≤ old.leaf.denom
      → IsAdded old.leaf w (numbered old.cuts c).part (numbered old.cuts c).total (numbered old.cuts c).loads sums
      → kept ≡ record old { leaf = sums } → IsWeighed old c w kept

pub record WeightTaken (old : Checks) (c w : ℕ) (last : Bool) (new : Checks) : Type 0 where
  pub kept : Checks
  pub weighed : IsWeighed old c w kept
  pub goes : LeafGoesOn last kept new

-- ---- any item

-- with an item taken where no condition failed before
abbrev pub IsTaken : Checks → item.Item → Checks → Type 0
IsTaken old (item.TheVariants.Version v) new = new ≡ ended old None
IsTaken old (item.TheVariants.Size n q) new = Ends (size_tests old n q) old new
IsTaken old (item.TheVariants.Cost cost) new = new ≡ ended (record old { cost = cost }) None
IsTaken old (item.TheVariants.Bound bound) new =
    Ends (bound_tests (record old { bound = bound })) (record old { bound = bound }) new
IsTaken old (item.TheVariants.Hub k last) new = HubTaken old k last new
IsTaken old (item.TheVariants.Route i j k m) new =
    Ends (route_tests (routed old (i, j) (k, m)) (i, j) (k, m)) (routed old (i, j) (k, m)) new
IsTaken old (item.TheVariants.Cuts all) new = new ≡ ended old None
IsTaken old (item.TheVariants.Cut number part last) new = CutGoesOn last old part new
IsTaken old (item.TheVariants.CoreHub k last) new = MarkGoesOn last old k new
IsTaken old (item.TheVariants.Dual i j run a last) new =
    DualGoesOn last (dual_with old (begun_dual old (i, j) run a)) new
IsTaken old (item.TheVariants.DualPair k u last) new = DualGoesOn last (dual_with old (with_value old.dual (k, u))) new
IsTaken old (item.TheVariants.Proof turns scale last) new = ProofTaken old turns scale last new
IsTaken old (item.TheVariants.ProofPair k m often last) new = WayTaken old (k, m, often) last new
IsTaken old (item.TheVariants.Nodes all) new = new ≡ ended (rooted old) None
IsTaken old (item.TheVariants.Branch k) new = BranchTaken old k new
IsTaken old (item.TheVariants.Leaf denom last) new = LeafTaken old denom last new
IsTaken old (item.TheVariants.LeafPair c w last) new = WeightTaken old c w last new
IsTaken old item.TheVariants.Empty new = Ends (empty_tests old) (path_filled old) new
IsTaken old (item.TheVariants.Block i j) new = Ends (block_tests old (i, j)) (path_filled old) new
IsTaken old item.TheVariants.Count new = Ends (count_tests old) (path_filled old) new
IsTaken old item.TheVariants.End new = new ≡ ended old None

-- with an item taken where one had failed
abbrev pub passed : Checks → item.Item → Checks
passed old i = record old { line = if ends i then old.line + 1 else old.line }

-- with an item taken
pub record Steps (old : Checks) (i : item.Item) (new : Checks) : Type 0 where
  pub first : old.failure ≡ None → IsTaken old i new
  pub later : old.failure ≢ None → new ≡ passed old i

-- ---- what an item may be

-- a hub above those before it
pub record MayHub (c : Checks) (k : ℕ) : Type 0 where
  pub nodes : c.plan.size ≡ c.instance.now.size
  pub node : k < c.plan.size
  pub above : All (λ (m : ℕ). m < k) c.plan.hubs

-- the route of the next commodity
pub record MayRoute (c : Checks) (commodity route : ℕ × ℕ) : Type 0 where
  pub nodes : c.plan.size ≡ c.instance.now.size
  pub from : commodity.0 < c.plan.size
  pub to : commodity.1 < c.plan.size
  pub next : commodity.0 * c.plan.size + commodity.1 ≡ c.plan.routed
  pub first : route.0 < c.plan.size
  pub last : route.1 < c.plan.size

-- a cut's part
pub record MayCut (part : ℕ) : Type 0 where
  pub least : 1 ≤ part
  pub most : part ≤ most_part

-- a hub of a mark above those before it
pub record MayMarkHub (c : Checks) (k : ℕ) : Type 0 where
  pub node : k < c.mark.proof.problem.size
  pub above : All (λ (m : ℕ). m < k) c.mark.hubs

-- a cut stands to which so many duals may be added
pub record MayEndDual (c : Checks) (run : ℕ) : Type 0 where
  pub stands : c.cuts ≢ []
  pub few : (last_of c.cuts).count + run ≤ most_duals
  pub long : length (last_of c.cuts).loads ≡ c.dual.problem.size

-- a run of commodities of one origin
pub record MayDual (c : Checks) (commodity : ℕ × ℕ) (run a : ℕ) : Type 0 where
  pub from : commodity.0 < c.dual.problem.size
  pub to : commodity.1 + run ≤ c.dual.problem.size
  pub some : 1 ≤ run
  pub short : IsAmount a
  pub may_end : MayEndDual c run

pub record MayValue (c : Checks) (k u : ℕ) : Type 0 where
  pub node : k < c.dual.problem.size
  pub above : All (λ (e : ℕ × ℕ). e.0 < k) c.dual.dual.u
  pub least : 1 ≤ u
  pub short : IsAmount u
  pub may_end : MayEndDual c c.dual.run

-- a cut stands that may be marked with these hubs
pub record MayEndProof (c : Checks) : Type 0 where
  pub stands : c.cuts ≢ []
  pub any_length : c.mark.proof.problem.longest ≡ None
  pub set : IsCandidateSet c.mark.proof.problem c.mark.hubs
  pub nodes : c.dual.problem.size ≡ c.mark.proof.problem.size

-- the proof of the last dual of a cut
pub record MayProof (c : Checks) (turns scale : ℕ) : Type 0 where
  pub some_dual : 1 ≤ (last_of c.cuts).count
  pub few_duals : (last_of c.cuts).count ≤ c.instance.now.size * c.instance.now.size
  pub nodes : c.mark.proof.problem.size ≡ c.instance.now.size
  pub turns_limit : turns ≤ most_turns
  pub some_scale : 1 ≤ scale
  pub scale_limit : scale ≤ most_scale
  pub may_end : MayEndProof c

pub record MayWay (c : Checks) (way : Way) : Type 0 where
  pub first : way.0 < c.mark.proof.problem.size
  pub last : way.1 < c.mark.proof.problem.size
  pub often : way.2 ≤ most_taken
  pub few : c.mark.proof.count < most_ways
  pub may_end : MayEndProof c

-- a branch is to be filled, and the commodity is one of the instance's
pub record MayBlock (c : Checks) (commodity : ℕ × ℕ) : Type 0 where
  pub some : c.path.pending ≢ []
  pub candidates : c.path.candidates ≡ c.instance.now.candidates
  pub from : commodity.0 < c.instance.now.size
  pub to : commodity.1 < c.instance.now.size

-- a branch is to be filled, and a leaf's bound can be reckoned
pub record MayEndLeaf (c : Checks) : Type 0 where
  pub some : c.path.pending ≢ []
  pub nodes : c.path.size ≡ c.instance.now.size
  pub long : length c.leaf.loads ≡ c.instance.now.size
  pub short : IsShort c.bound

-- sums of a cut that a leaf may add
pub record MayAdd (n : ℕ) (sums : CutTally) : Type 0 where
  pub long : length sums.loads ≡ n
  pub within : AreWithin sums

pub record MayWeight (c : Checks) (number : ℕ) : Type 0 where
  pub least : 1 ≤ number
  pub may_add : All (MayAdd c.instance.now.size) c.cuts
  pub may_end : MayEndLeaf c

abbrev pub MayCome : Checks → item.Item → Type 0
MayCome c (item.TheVariants.Hub k last) = MayHub c k
MayCome c (item.TheVariants.Route i j k m) = MayRoute c (i, j) (k, m)
MayCome c (item.TheVariants.Cut number part last) = MayCut part
MayCome c (item.TheVariants.CoreHub k last) = MayMarkHub c k
MayCome c (item.TheVariants.Dual i j run a last) = MayDual c (i, j) run a
MayCome c (item.TheVariants.DualPair k u last) = MayValue c k u
MayCome c (item.TheVariants.Proof turns scale last) = MayProof c turns scale
MayCome c (item.TheVariants.ProofPair k m often last) = MayWay c (k, m, often)
MayCome c (item.TheVariants.Branch k) = c.path.pending ≢ []
MayCome c (item.TheVariants.Leaf denom last) = (denom ≤ most_denominator) × MayEndLeaf c
MayCome c (item.TheVariants.LeafPair number w last) = MayWeight c number
MayCome c item.TheVariants.Empty = c.path.pending ≢ []
MayCome c (item.TheVariants.Block i j) = MayBlock c (i, j)
MayCome c item.TheVariants.Count = c.path.pending ≢ []
MayCome c other = Unit {0}

-- with what is known of the dual that is listed once it has come
abbrev pub IsKnown : Checks → item.Item → Option ℕ → Type 0
IsKnown c i known = c.failure ≡ None → IfSome known (IsKnownWith (listed_with c i))

-- its line can be counted, and where no condition failed before, it may come
pub record MayTake (c : Checks) (i : item.Item) : Type 0 where
  pub room : c.line < 2 ^ 64 - 1
  pub may_come : c.failure ≡ None → MayCome c i
