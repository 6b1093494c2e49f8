-- Where a number leaves a scan: at the end of the line behind a line feed, and in the line behind a space.
use Rattle.std.proofs.Common.{◌≡◌, ℕ, ◌+◌, Bool, true, List, [], ◌∷◌, Option, Some, None, nat_eq, nat_le, refl}
use Rattle.std.specs.Prelude.{◌-◌, false}
use Rattle.std.proofs.lemmas.Bool.{and_parts, eqb-true}
use Rattle.hub_spec.specs.Limits.{most_part, most_cuts}
use Rattle.cert_scan.specs.Moves.{taken_by, cut_by, part_by, refusal, more_by, whole_by, open_by, allowed, subject_run}
use Rattle.cert_scan.specs.Scans.{shape_by}
use Rattle.cert_scan.specs.Repeats.{ends_dual}
use Rattle.cert_scan.proofs.Takes.{begins, Within, is_in}
use Rattle.cert_scan.specs.declared.items.Item.{Item}
use Rattle.cert_scan.specs.declared.items.Item.TheVariants.{Hub, Cut, CoreHub, Dual, DualPair, Proof, ProofPair, Leaf, LeafPair}
use Rattle.cert_scan.specs.declared.bytes.ScanMove.{ScanMove}
use Rattle.cert_scan.specs.declared.bytes.Position.{Position}
use Rattle.cert_scan.specs.declared.bytes.Position.TheVariants.{Start, Keyword, Number, Spoiled, Failed}
use Rattle.cert_scan.specs.declared.heads.Head.{Head}
use Rattle.cert_scan.specs.declared.heads.Head.TheVariants.{CutLine, MarkWord}
use Rattle.cert_scan.specs.declared.places.Place.{Place}
use Rattle.cert_scan.specs.declared.places.Place.TheVariants.{VersionNumber, CandidateCount, CostAmount, BoundAmount, HubNode, RouteLast, CutCount, CutNumber, CutPart, MarkHub, DualPrice, ValueAmount, ProofScale, WayTaken, LineCount, BranchNode, BlockTo, Denominator, WeightAmount}
use Rattle.cert_scan.specs.declared.items.Version.{Version as TextVersion}
use Rattle.cert_scan.specs.declared.items.Version.TheVariants.{First, Second, Third}
use Rattle.cert_scan.specs.declared.stages.Stage.{Stage}
use Rattle.cert_scan.specs.declared.stages.MarkAt.{MarkAt}
use Rattle.cert_scan.specs.declared.stages.Shape.{Shape}

-- an item of a list, as it is given where the line goes on behind it
abbrev pub opened : Item → Item
opened (Hub k last) = Hub k false
opened (CoreHub k last) = CoreHub k false
opened (Dual i j run a last) = Dual i j run a false
opened (DualPair k u last) = DualPair k u false
opened (Proof t g last) = Proof t g false
opened (ProofPair k m y last) = ProofPair k m y false
opened (Leaf denom last) = Leaf denom false
opened (LeafPair c w last) = LeafPair c w false
opened item = item

-- it is of a list, and the line goes on behind it
abbrev pub is_open : Item → Bool
is_open (Hub k false) = true
is_open (CoreHub k false) = true
is_open (Dual i j run a false) = true
is_open (DualPair k u false) = true
is_open (Proof t g false) = true
is_open (ProofPair k m y false) = true
is_open (Leaf denom false) = true
is_open (LeafPair c w false) = true
is_open item = false

-- in the line of a cut, what stands before its number and before its part
abbrev pub InCut : Place → Head → List ℕ → List Item → Type 0
InCut (CutNumber all before) head ns given = (head ≡ CutLine all before) × (ns ≡ []) × (given ≡ [])
InCut (CutPart all number) head ns given = (before : ℕ) × (head ≡ CutLine all before) × (ns ≡ number ∷ []) × (given ≡ []) × (number ≡ before + 1)
InCut place head ns given = Unit {0}

-- the item where the line goes on at this place, which may have ended there with another one
pub record Opens (sh : Shape) (ends : ScanMove) (next : Place) (item : Item) : Type 0 where
  pub may_end : begins ends.position ≡ true
  pub last : Item
  pub gives : ends.item ≡ Some last
  pub is_opened : opened last ≡ item
  pub still : opened item ≡ item
  pub listed : is_open item ≡ true
  pub quiet : ends_dual item ≡ false
  pub same : shape_by sh (Some item) ≡ sh
  pub in_list : (head : Head) (ns : List ℕ) (given : List Item) → InCut next head ns given

-- the part of a cut stands behind its number
abbrev pub PartBehind : Place → ℕ → Place → Type 0
PartBehind place v (CutPart all number) = (before : ℕ) × (place ≡ CutNumber all before) × (v ≡ number) × (number ≡ before + 1)
PartBehind place v (CutNumber all before) = ⊥
PartBehind place v next = Unit {0}

-- another number stands behind a number, with an item or none
abbrev pub NumberBehind : Shape → Place → ℕ → ScanMove → Place → Option Item → Type 0
NumberBehind sh place v ends next None = PartBehind place v next
NumberBehind sh place v ends next (Some item) = Opens sh ends next item

-- the word of a mark stands behind the part of a cut of the third version
pub record MarkBehind (sh : Shape) (place : Place) (v : ℕ) (head : Head) (matched : ℕ) (item : Option Item) : Type 0 where
  pub at : MarkAt
  pub head_is : head ≡ MarkWord at
  pub none : matched ≡ 0
  pub place_is : place ≡ CutPart at.all at.number
  pub part_is : v ≡ at.part
  pub third : sh.version ≡ Third
  pub in_range : Within v most_part
  pub gives : item ≡ Some (Cut at.number at.part false)

abbrev pub Ended : Position → Option Item → Type 0
Ended (Start stage) item = Unit {0}
Ended Failed item = item ≡ None
Ended position item = ⊥

abbrev pub GoesOn : Shape → Place → ℕ → ScanMove → Position → Option Item → Type 0
GoesOn sh place v ends (Number next None) item = NumberBehind sh place v ends next item
GoesOn sh place v ends (Keyword head matched) item = MarkBehind sh place v head matched item
GoesOn sh place v ends Spoiled item = item ≡ None
GoesOn sh place v ends position item = ⊥

pub record Turns (sh : Shape) (place : Place) (v : ℕ) (ends goes : ScanMove) : Type 0 where
  pub ended : Ended ends.position ends.item
  pub goes_on : GoesOn sh place v ends goes.position goes.item

turns_allowed : (sh : Shape) (place : Place) (v : ℕ) (test : Bool) (ends goes : ScanMove) → (test ≡ true → Turns sh place v ends goes)
    → Turns sh place v (allowed test true ends) (allowed test false goes)
turns_allowed sh place v true ends goes h = h refl
turns_allowed sh place v false ends goes h = record { ended = refl; goes_on = refl }

turns_more : (sh : Shape) (place : Place) (v : ℕ) (next : Place) → PartBehind place v next → Turns sh place v (more_by true next) (more_by false next)
turns_more sh place v next p = record { ended = refl; goes_on = p }

turns_whole : (sh : Shape) (place : Place) (v : ℕ) (item : Option Item) (stage : Stage) → Turns sh place v (whole_by true item stage) (refusal false)
turns_whole sh place v item stage = record { ended = tt; goes_on = refl }

turns_open : (sh : Shape) (place : Place) (v : ℕ) (item : Bool → Item) (next : Place) (stage : Stage) → opened (item true) ≡ item false
    → opened (item false) ≡ item false → is_open (item false) ≡ true → ends_dual (item false) ≡ false → shape_by sh (Some (item false)) ≡ sh
    → ((head : Head) (ns : List ℕ) (given : List Item) → InCut next head ns given)
    → Turns sh place v (open_by true (item true) next stage) (open_by false (item false) next stage)
turns_open sh place v item next stage o s is q same i = record {
  ended = tt;
  goes_on = record { may_end = refl; last = item true; gives = refl; is_opened = o; still = s; listed = is; quiet = q; same = same; in_list = i };
}

turns_cut : (sh : Shape) (version : TextVersion) (all before v : ℕ) → v ≡ before + 1
    → Turns sh (CutNumber all before) v (cut_by version all v true) (cut_by version all v false)
turns_cut sh First all before v e = turns_whole sh (CutNumber all before) v _ _
turns_cut sh Second all before v e = turns_more sh (CutNumber all before) v (CutPart all v) (before, refl, refl, e)
turns_cut sh Third all before v e = turns_more sh (CutNumber all before) v (CutPart all v) (before, refl, refl, e)

turns_part : (sh : Shape) (version : TextVersion) (all number v : ℕ) → sh.version ≡ version → Within v most_part
    → Turns sh (CutPart all number) v (part_by version (record { all = all; number = number; part = v }) true)
    (part_by version (record { all = all; number = number; part = v }) false)
turns_part sh First all number v is i = turns_whole sh (CutPart all number) v _ _
turns_part sh Second all number v is i = turns_whole sh (CutPart all number) v _ _
turns_part sh Third all number v is i = record {
  ended = tt;
  goes_on = record {
    at = record { all = all; number = number; part = v };
    head_is = refl;
    none = refl;
    place_is = refl;
    part_is = refl;
    third = is;
    in_range = i;
    gives = refl;
  };
}

pub turns : (sh : Shape) (place : Place) (v : ℕ) → Turns sh place v (taken_by sh place v true) (taken_by sh place v false)
turns sh VersionNumber v = turns_allowed sh VersionNumber v _ _ _ (λ e. turns_whole sh VersionNumber v _ _)
turns sh (CandidateCount nodes) v = turns_allowed sh (CandidateCount nodes) v _ _ _ (λ e. turns_whole sh (CandidateCount nodes) v _ _)
turns sh CostAmount v = turns_allowed sh CostAmount v _ _ _ (λ e. turns_whole sh CostAmount v _ _)
turns sh BoundAmount v = turns_allowed sh BoundAmount v _ _ _ (λ e. turns_whole sh BoundAmount v _ _)
turns sh (RouteLast c k) v = turns_allowed sh (RouteLast c k) v _ _ _ (λ e. turns_whole sh (RouteLast c k) v _ _)
turns sh CutCount v = turns_allowed sh CutCount v _ _ _ (λ e. turns_whole sh CutCount v _ _)
turns sh LineCount v = turns_allowed sh LineCount v _ _ _ (λ e. turns_whole sh LineCount v _ _)
turns sh (BranchNode t) v = turns_allowed sh (BranchNode t) v _ _ _ (λ e. turns_whole sh (BranchNode t) v _ _)
turns sh (BlockTo t i) v = turns_allowed sh (BlockTo t i) v _ _ _ (λ e. turns_whole sh (BlockTo t i) v _ _)
turns sh (CutNumber all before) v =
    turns_allowed sh (CutNumber all before) v _ _ _
    (λ e. turns_cut sh sh.version all before v (eqb-true v (before + 1) (and_parts (nat_eq v (before + 1)) (nat_le v most_cuts) e).0))
turns sh (CutPart all number) v = turns_allowed sh (CutPart all number) v _ _ _ (λ e. turns_part sh sh.version all number v refl (is_in v most_part e))
turns sh (HubNode before) v =
    turns_allowed sh (HubNode before) v _ _ _ (λ e. turns_open sh (HubNode before) v (Hub (v - 1)) _ _ refl refl refl refl refl (λ h ns g. tt))
turns sh (MarkHub at before) v =
    turns_allowed sh (MarkHub at before) v _ _ _ (λ e. turns_open sh (MarkHub at before) v (CoreHub (v - 1)) _ _ refl refl refl refl refl (λ h ns g. tt))
turns sh (DualPrice subject) v =
    turns_allowed sh (DualPrice subject) v _ _ _ (λ e. turns_open sh (DualPrice subject) v (Dual (subject_run subject).first.commodity.from (subject_run subject).first.commodity.to (subject_run subject).length v) _ _ refl refl refl refl refl (λ h ns g. tt))
turns sh (ValueAmount subject number) v =
    turns_allowed sh (ValueAmount subject number) v _ _ _ (λ e. turns_open sh (ValueAmount subject number) v (DualPair (number - 1) v) _ _ refl refl refl refl refl (λ h ns g. tt))
turns sh (ProofScale d t) v =
    turns_allowed sh (ProofScale d t) v _ _ _ (λ e. turns_open sh (ProofScale d t) v (Proof t v) _ _ refl refl refl refl refl (λ h ns g. tt))
turns sh (WayTaken at) v =
    turns_allowed sh (WayTaken at) v _ _ _ (λ e. turns_open sh (WayTaken at) v (ProofPair (at.from - 1) (at.to - 1) v) _ _ refl refl refl refl refl (λ h ns g. tt))
turns sh (Denominator t) v =
    turns_allowed sh (Denominator t) v _ _ _ (λ e. turns_open sh (Denominator t) v (Leaf v) _ _ refl refl refl refl refl (λ h ns g. tt))
turns sh (WeightAmount t number) v =
    turns_allowed sh (WeightAmount t number) v _ _ _ (λ e. turns_open sh (WeightAmount t number) v (LeafPair number v) _ _ refl refl refl refl refl (λ h ns g. tt))
turns sh place v = turns_allowed sh place v _ _ _ (λ e. turns_more sh place v _ tt)
