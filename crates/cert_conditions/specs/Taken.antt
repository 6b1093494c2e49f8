-- A check as the items that have come make it.
use Rattle.std.specs.Prelude.{◌≡◌, ℕ, ◌+◌, ◌*◌, ◌<◌, ◌≤◌, ◌↔◌, Bool, false, IsTrue, List, [], ◌∷◌, ◌++◌, length, slice_index_or, flat_map, Option, Some, None, All, Contains}
use Rattle.std.specs.List.{AllZip}
use Rattle.std.specs.List.Sorted.{IsStrictlyIncreasing}
use Rattle.hub_spec.specs.Limits.{most_part}
use Rattle.hub_spec.specs.Problem.{Problem, IsProblem, commodity_at}
use Rattle.hub_spec.specs.Plans.{IsCandidateSet}
use Rattle.hub_spec.specs.Cuts.{Prices, Cut}
use Rattle.hub_spec.specs.Trees.{Branching, IsBranch, IsMultiple, leaf_of, weight_sum}
use Rattle.hub_spec.specs.Ranges.{IsShort, IsDualInRange, IsLineInRange}
use Rattle.core_spec.specs.CoreCuts.{CoreProof, MayBeMarked}
use Rattle.core_spec.specs.MarkRanges.{IsProofInRange}
use Rattle.cert_spec.specs.Lines.{Item as Line}
use Rattle.cert_spec.specs.Grammar.{Shape, Stage, want_version, want_size, want_cost, want_bound, want_hubs, want_route, want_cuts, want_cut, want_dual, want_proved, want_proof, want_nodes, want_tree, IsRun, Leads}
use Rattle.cert_spec.specs.Conditions.{Claim, AllHold, FailsFirst, conditions_from}
use Rattle.cert_spec.specs.Progress.{Progress, at_start, after_lines}
use Rattle.cert_conditions.specs.Kinds.{kind_of}
use Rattle.cert_conditions.specs.declared.kinds.Kind as code
use Rattle.cert_scan.specs.Parts.{parts_of, open_hubs, open_mark, open_values, open_ways, open_weights}
use Rattle.cert_scan.specs.declared.items.Item.{Item}
use Rattle.cert_scan.specs.declared.items.Item.TheVariants.{Cut as cut_item, Dual, Proof, Leaf}
use Rattle.cert_lines.specs.PlanTallies.{PlanTally, IsTallyOf, no_plan}
use Rattle.dual_lines.specs.Lines.{ListedDual}
use Rattle.core_lines.specs.Tallies.{ProofTally, IsTallyOf as IsProofTallyOf}
use Rattle.cert_lines.specs.Tallies.{Tally, AreSumsOf as AreLeafSumsOf}
use Rattle.cert_conditions.specs.Sums.{CutTally, AreSumsOf, AreWithin, last_of}
use Rattle.cert_conditions.specs.Marks.{MarkTally}
use Rattle.cert_conditions.specs.declared.checks.Checks.{Checks}

-- of these conditions all hold, or this is the first to fail, with its line
abbrev pub TellsFirst : List Claim → Option (code.Kind × ℕ) → Type 0
TellsFirst cs None = AllHold cs
TellsFirst cs (Some failure) = FailsFirst cs (kind_of failure.0) failure.1

-- what was given of a line whose end was not: nothing, or what has come of a list
pub data Part : Type 0 where
  nothing : Part
  some_hubs : List ℕ → Part
  some_mark : (number part : ℕ) → List ℕ → Part
  some_values : ℕ × ℕ → (run : ℕ) → Prices → Part
  some_ways : CoreProof → Part
  some_weights : ℕ → List (ℕ × ℕ) → Part

-- the items of it
abbrev pub part_items : Part → List Item
part_items nothing = []
part_items (some_hubs hubs) = open_hubs hubs
part_items (some_mark number part hubs) = cut_item number part false ∷ open_mark hubs
part_items (some_values commodity run dual) = Dual commodity.0 commodity.1 run dual.a false ∷ open_values dual.u
part_items (some_ways proof) = Proof proof.turns proof.scale false ∷ open_ways proof.ways
part_items (some_weights denom weights) = Leaf denom false ∷ open_weights weights

-- it may stand at this stage
abbrev pub IsPart : Stage → Part → Type 0
IsPart (want_hubs s) (some_hubs hubs) = IsStrictlyIncreasing hubs × All (λ k. k < s.size) hubs
IsPart (want_hubs s) other = ⊥
IsPart (want_cut s all x) (some_mark number part hubs) =
    (number ≡ x + 1) × (1 ≤ part) × (part ≤ most_part) × IsStrictlyIncreasing hubs × All (λ k. k < s.size) hubs
IsPart (want_dual s all x t before) (some_values commodity run dual) =
    (commodity ≡ commodity_at s.size t) × IsRun s t run × IsDualInRange s.size dual
IsPart (want_proved s all x t) (some_values commodity run dual) =
    (commodity ≡ commodity_at s.size t) × (run ≡ 1) × IsDualInRange s.size dual
IsPart (want_proof s all x t) (some_ways proof) = IsProofInRange s.size proof
IsPart (want_tree s places left) (some_weights denom weights) = IsLineInRange s.size (leaf_of denom weights)
IsPart stage nothing = Unit {0}
IsPart stage other = ⊥

-- what is kept whatever line comes next: the dual, the proof, the path, the leaf's sums and what was said are those of
-- the instance and the lines
pub record Standing (p : Problem) (dual_problem proof_problem : Problem) (path_size : ℕ) (path_candidates : List ℕ) (loads : List ℕ)
    (cost bound said_cost said_bound : ℕ) : Type 0 where
  pub problem : IsProblem p
  pub dual_is : dual_problem ≡ p
  pub proof_is : proof_problem ≡ p
  pub size_is : path_size ≡ p.size
  pub candidates_are : path_candidates ≡ p.candidates
  pub long : length loads ≡ p.size
  pub cost_is : cost ≡ said_cost
  pub bound_is : bound ≡ said_bound
  pub short : IsShort said_bound

abbrev pub StandsFirm : Checks → Progress → Type 0
StandsFirm c s =
    Standing c.instance.now c.dual.problem c.mark.proof.problem c.path.size c.path.candidates c.leaf.loads c.cost c.bound s.cost s.bound

-- the size that was said, and that of the text's shape, are the instance's
pub record IsSized (n said shape_size : ℕ) : Type 0 where
  pub said_is : said ≡ n
  pub wanted_is : shape_size ≡ n

-- the sums are those of a whole cut, which is within them
pub record AreSumsOfCut (p : Problem) (cut : Cut) (sums : CutTally) : Type 0 where
  pub are : AreSumsOf p.size cut sums
  pub within : AreWithin sums

-- and of all these, one by one
abbrev pub AreCutSums : Problem → List Cut → List CutTally → Type 0
AreCutSums p cuts sums = AllZip (AreSumsOfCut p) cuts sums

-- no plan has come
pub record NoPlanYet (p : Problem) (hubs : List ℕ) (routes : List (ℕ × ℕ)) (plan : PlanTally)
    (are_candidates : Bool) : Type 0 where
  pub no_hub : hubs ≡ []
  pub no_route : routes ≡ []
  pub tally : plan ≡ no_plan p.size
  pub known : IsTrue are_candidates

-- these hubs have come, and no route
pub record HubsStand (p : Problem) (hubs : List ℕ) (routes : List (ℕ × ℕ)) (plan : PlanTally)
    (are_candidates : Bool) : Type 0 where
  pub no_route : routes ≡ []
  pub tally : IsTallyOf p hubs [] plan
  pub known : IsTrue are_candidates ↔ All (Contains p.candidates) hubs

-- the hubs, and so many routes have come
pub record RoutesStand (p : Problem) (hubs : List ℕ) (routes : List (ℕ × ℕ)) (plan : PlanTally) (t : ℕ) : Type 0 where
  pub tally : IsTallyOf p hubs routes plan
  pub count : length routes ≡ t
  pub more : t < p.size * p.size

-- whole cuts have come, and no mark and no dual of another
pub record CutsStand (p : Problem) (cuts : List Cut) (mark : Option (List ℕ)) (duals : List Prices) (sums : List CutTally) : Type 0 where
  pub sums_are : AreCutSums p cuts sums
  pub no_mark : mark ≡ None
  pub no_dual : duals ≡ []

-- the part of the next cut and the hubs of its mark are kept as far as they have come
abbrev pub MarkStands : MarkTally → Part → Type 0
MarkStands mark (some_mark number part hubs) = (mark.part ≡ part) × (mark.hubs ≡ hubs)
MarkStands mark other = Unit {0}

-- the cut is marked with these hubs, as it may be
pub record IsMarked (p : Problem) (mark : Option (List ℕ)) (hubs : List ℕ) : Type 0 where
  pub mark_is : mark ≡ Some hubs
  pub may : MayBeMarked p
  pub set : IsCandidateSet p hubs

-- whole cuts have come, and so many duals of another, with this part
pub record DualsStand (p : Problem) (cuts : List Cut) (part : ℕ) (duals : List Prices) (sums : List CutTally)
    (t : ℕ) : Type 0 where
  pub front : List CutTally
  pub last : CutTally
  pub split : sums ≡ front ++ last ∷ []
  pub front_are : AreCutSums p cuts front
  pub last_is : AreSumsOf p.size (record { part = part; duals = duals }) last
  pub candidates : All (λ (d : Prices). All (λ (e : ℕ × ℕ). Contains p.candidates e.0) d.u) duals
  pub count : length duals ≡ t

-- this dual of a run is listed, with the part of its cut
pub record Lists (listed : ListedDual) (part : ℕ) (commodity : ℕ × ℕ) (run : ℕ) (dual : Prices) : Type 0 where
  pub commodity_is : listed.commodity ≡ commodity
  pub part_is : listed.part ≡ part
  pub run_is : listed.run ≡ run
  pub dual_is : listed.dual ≡ dual

-- this dual is listed as far as it has come
abbrev pub DualStands : ListedDual → ℕ → Part → Type 0
DualStands listed cut_part (some_values commodity run dual) = Lists listed cut_part commodity run dual
DualStands listed cut_part other = Unit {0}

-- so many duals and one more have come, whose proof is next: this dual is listed, and with the last one the sums of the
-- cut are within their limits
pub record LastStands (p : Problem) (duals : List Prices) (dual : Prices) (sums : CutTally) (t : ℕ) : Type 0 where
  pub more : t < p.size * p.size
  pub last_is : slice_index_or duals t (record { a = 0; u = [] }) ≡ dual
  pub within : t + 1 ≡ p.size * p.size → AreWithin sums

-- the ways of this proof of a commodity are added up
pub record WaysStand (commodity : ℕ × ℕ) (proof : CoreProof) (tally : ProofTally) : Type 0 where
  pub commodity_is : tally.commodity ≡ commodity
  pub tally_is : IsProofTallyOf proof tally
  pub count : tally.count ≡ length proof.ways

-- as far as they have come
abbrev pub ProofStands : ℕ → ProofTally → ℕ → Part → Type 0
ProofStands n tally t (some_ways proof) = WaysStand (commodity_at n t) proof tally
ProofStands n tally t other = Unit {0}

-- so many branches are to be filled, and the path has them
pub record TreeStands (p : Problem) (pending on_path : List Branching) (places : ℕ) : Type 0 where
  pub are : on_path ≡ pending
  pub count : length pending ≡ places
  pub some : 1 ≤ places
  pub branches : All (IsBranch p) pending

-- the numbers that weights name are those of cuts
abbrev pub AreNumbers : List Cut → List (ℕ × ℕ) → Type 0
AreNumbers cuts weights = All (λ (e : ℕ × ℕ). e.0 ≤ length cuts) weights

-- what failed of a leaf's weights, or their sums
abbrev pub WeightsStand : Problem → List Cut → Tally → ℕ → List (ℕ × ℕ) → Option code.Kind → Type 0
WeightsStand p cuts sums denom weights None =
    AreNumbers cuts weights × All (IsMultiple cuts) weights × (weight_sum weights ≤ denom)
    × AreLeafSumsOf p.size cuts denom weights sums
WeightsStand p cuts sums denom weights (Some code.TheVariants.Weight) =
    AreNumbers cuts weights × All (IsMultiple cuts) weights × (denom < weight_sum weights)
WeightsStand p cuts sums denom weights (Some code.TheVariants.Multiple) =
    AreNumbers cuts weights × (All (IsMultiple cuts) weights → ⊥)
WeightsStand p cuts sums denom weights (Some code.TheVariants.CutNumber) = AreNumbers cuts weights → ⊥
WeightsStand p cuts sums denom weights (Some other) = ⊥

abbrev pub LeafStands : Problem → List Cut → Tally → Option code.Kind → Part → Type 0
LeafStands p cuts sums failure (some_weights denom weights) = WeightsStand p cuts sums denom weights failure
LeafStands p cuts sums failure other = Unit {0}

-- the hubs of a part
abbrev pub hubs_of : Part → List ℕ
hubs_of (some_hubs hubs) = hubs
hubs_of other = []

abbrev pub Sized : Checks → Progress → Shape → Type 0
Sized c s shape = IsSized c.instance.now.size s.size shape.size

abbrev pub PlanAbsent : Checks → Progress → Type 0
PlanAbsent c s = NoPlanYet c.instance.now s.hubs s.routes c.plan c.are_candidates

abbrev pub Cutted : Checks → Progress → Type 0
Cutted c s = CutsStand c.instance.now s.cuts s.mark s.duals c.cuts

-- so many duals of a cut have come, and not all of them
abbrev pub DualsKept : Checks → Progress → Shape → ℕ → Part → Type 0
DualsKept c s shape t part =
    Sized c s shape × DualsStand c.instance.now s.cuts s.part s.duals c.cuts t × DualStands c.dual s.part part
    × (t < c.instance.now.size * c.instance.now.size)

abbrev pub Marked : Checks → Progress → Type 0
Marked c s = IsMarked c.instance.now s.mark c.mark.hubs

-- what is kept at a stage, where a part of the next line has come
abbrev pub Keeps : Checks → Progress → Stage → Part → Type 0
Keeps c s want_version part = PlanAbsent c s × Cutted c s
Keeps c s (want_size v) part = PlanAbsent c s × Cutted c s
Keeps c s (want_cost shape) part = Sized c s shape × PlanAbsent c s × Cutted c s
Keeps c s (want_bound shape) part = Sized c s shape × PlanAbsent c s × Cutted c s
Keeps c s (want_hubs shape) part =
    Sized c s shape × HubsStand c.instance.now (hubs_of part) s.routes c.plan c.are_candidates × Cutted c s
Keeps c s (want_route shape t) part = Sized c s shape × RoutesStand c.instance.now s.hubs s.routes c.plan t × Cutted c s
Keeps c s (want_cuts shape) part = Sized c s shape × Cutted c s
Keeps c s (want_cut shape all x) part = Sized c s shape × Cutted c s × MarkStands c.mark part
Keeps c s (want_dual shape all x t before) part = DualsKept c s shape t part × (s.mark ≡ None)
Keeps c s (want_proved shape all x t) part = DualsKept c s shape t part × Marked c s
Keeps c s (want_proof shape all x t) part =
    Sized c s shape × DualsStand c.instance.now s.cuts s.part s.duals c.cuts (t + 1)
    × LastStands c.instance.now s.duals c.dual.dual (last_of c.cuts) t × Marked c s
    × ProofStands c.instance.now.size c.mark.proof t part
Keeps c s (want_nodes shape) part = Sized c s shape × Cutted c s
Keeps c s (want_tree shape places left) part =
    Sized c s shape × Cutted c s × TreeStands c.instance.now s.pending c.path.pending places
    × LeafStands c.instance.now s.cuts c.leaf c.leaf_failure part
Keeps c s other part = Unit {0}

-- what a check is where these lines, and a part of another, have come
pub record Stands (c : Checks) (lines : List Line) (stage : Stage) (part : Part) : Type 0 where
  pub line : c.line ≡ (after_lines c.instance.now at_start lines).line
  pub tells : TellsFirst (conditions_from c.instance.now at_start lines) c.failure
  pub standing : c.failure ≡ None → StandsFirm c (after_lines c.instance.now at_start lines)
  pub keeps : c.failure ≡ None → Keeps c (after_lines c.instance.now at_start lines) stage part

-- these items have come
abbrev pub HasTaken : List Item → Checks → Type 0
HasTaken given c = (lines : List Line) (stage : Stage) (part : Part) → Leads want_version lines stage
    → given ≡ flat_map parts_of lines ++ part_items part → IsPart stage part → Stands c lines stage part
