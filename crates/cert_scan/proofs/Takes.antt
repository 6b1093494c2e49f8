-- The first word of a line, or that of a mark, and whether numbers may stand behind it one after another, as a scan tests them.
use Rattle.std.proofs.Common.{◌≡◌, ℕ, Bool, true, false, List, [], ◌∷◌, ◌++◌, Option, Some, None, ◌⊎◌, inl, inr, refl, sym, ap, ◌∙◌, ◌<◌, ◌≤◌, length, get_or, flat_map, decimal, nat_lt, nat_le, zero, suc, arith}
use Rattle.std.proofs.lemmas.Bool.{false≢true, and_parts, leb-true, ltb-true}
use Rattle.std.proofs.lemmas.Option.{none-some}
use Rattle.cert_scan.specs.Moves.{taken_by, allowed, more_by, open_by, within, follows, keyword_of}
use Rattle.cert_scan.specs.declared.items.Item.{Item}
use Rattle.cert_scan.specs.declared.bytes.ScanMove.{ScanMove}
use Rattle.cert_scan.specs.declared.bytes.Position.{Position}
use Rattle.cert_scan.specs.declared.bytes.Position.TheVariants.{Start, Number}
use Rattle.cert_scan.specs.declared.places.Place.{Place}
use Rattle.cert_scan.specs.declared.stages.Stage.{Stage}
use Rattle.cert_scan.specs.declared.stages.Shape.{Shape}
use Rattle.std.specs.List.{list_all}
use Rattle.std.specs.Prelude.{◌-◌, false}
use Rattle.hub_spec.specs.Limits.{most_part}
use Rattle.cert_spec.specs.Stated.{IsLater}
use Rattle.cert_scan.specs.Versions.{version_number}
use Rattle.cert_scan.proofs.Passing.{mark_front}
use Rattle.cert_scan.specs.declared.items.Version.TheVariants.{Third}
use Rattle.cert_scan.specs.declared.items.Item.TheVariants.{Cut as cut_item}
use Rattle.cert_scan.specs.declared.heads.Head.{Head}
use Rattle.cert_scan.specs.declared.heads.Head.TheVariants.{VersionLine, SizeLine, CostLine, BoundLine, HubsLine, RouteLine, CutsLine, CutLine, MarkWord, DualLine, DualsLine, ProvedLine, ProofLine, NodesLine, BranchLine, LeafLine, EmptyLine, BlockLine, CountLine, EndLine}
use Rattle.cert_scan.specs.declared.stages.Stage.TheVariants.{Version, Size, Cost, Bound, Hubs, Route, Cuts, Cut, Dual, ProvedDual, Proof, Nodes, Tree, End}
use Rattle.cert_scan.specs.declared.stages.MarkAt.{MarkAt}

-- the line has ended as it may
abbrev pub begins : Position → Bool
begins (Start stage) = true
begins position = false

-- where another number stands
abbrev pub place_in : Position → Option Place
place_in (Number place None) = Some place
place_in position = None

-- the last of some numbers, from this place on, ends the line as it may
abbrev pub takes : Shape → Option Place → List ℕ → Bool
takes sh None ns = false
takes sh (Some place) [] = false
takes sh (Some place) (v ∷ []) = begins (taken_by sh place v true).position
takes sh (Some place) (v ∷ w ∷ rest) = takes sh (place_in (taken_by sh place v false).position) (w ∷ rest)

-- the place behind numbers with a space behind each
abbrev pub led : Shape → Option Place → List ℕ → Option Place
led sh place [] = place
led sh None (v ∷ ns) = None
led sh (Some place) (v ∷ ns) = led sh (place_in (taken_by sh place v false).position) ns

pub led_more : (sh : Shape) (first : Option Place) (ns : List ℕ) (place : Place) (v : ℕ) → led sh first ns ≡ Some place
    → led sh first (ns ++ v ∷ []) ≡ place_in (taken_by sh place v false).position
led_more sh first [] place v e = ap (λ o. led sh o (v ∷ [])) e
led_more sh None (n ∷ ns) place v e = absurd (none-some place e)
led_more sh (Some first) (n ∷ ns) place v e = led_more sh (place_in (taken_by sh first n false).position) ns place v e

pub led_takes : (sh : Shape) (first : Option Place) (ns : List ℕ) (place : Place) (v : ℕ) → led sh first ns ≡ Some place
    → begins (taken_by sh place v true).position ≡ true → takes sh first (ns ++ v ∷ []) ≡ true
led_takes sh first [] place v e h = ap (λ o. takes sh o (v ∷ [])) e ∙ h
led_takes sh None (n ∷ ns) place v e h = absurd (none-some place e)
led_takes sh (Some first) (n ∷ []) place v e h = led_takes sh (place_in (taken_by sh first n false).position) [] place v e h
led_takes sh (Some first) (n ∷ m ∷ ns) place v e h = led_takes sh (place_in (taken_by sh first n false).position) (m ∷ ns) place v e h

-- ---- what the number at a place must be

-- behind which another one must stand
pub more_takes : (sh : Shape) (place next : Place) (v : ℕ) (ns : List ℕ) (test : Bool)
    → ((last : Bool) → taken_by sh place v last ≡ allowed test last (more_by last next)) → takes sh (Some place) (v ∷ ns) ≡ true
    → (test ≡ true) × (takes sh (Some next) ns ≡ true)
more_takes sh place next v [] true e h = absurd (false≢true (sym (ap (λ (m : ScanMove). begins m.position) (e true)) ∙ h))
more_takes sh place next v [] false e h = absurd (false≢true (sym (ap (λ (m : ScanMove). begins m.position) (e true)) ∙ h))
more_takes sh place next v (w ∷ rest) true e h = (refl, sym (ap (λ (m : ScanMove). takes sh (place_in m.position) (w ∷ rest)) (e false)) ∙ h)
more_takes sh place next v (w ∷ rest) false e h =
    absurd (false≢true (sym (ap (λ (m : ScanMove). takes sh (place_in m.position) (w ∷ rest)) (e false)) ∙ h))

-- behind which no other number stands
pub end_takes : (sh : Shape) (place : Place) (v : ℕ) (ns : List ℕ) (test : Bool) (next : Bool → ScanMove)
    → ((last : Bool) → taken_by sh place v last ≡ allowed test last (next last)) → place_in (next false).position ≡ None
    → takes sh (Some place) (v ∷ ns) ≡ true → (test ≡ true) × (ns ≡ [])
end_takes sh place v [] true next e none h = (refl, refl)
end_takes sh place v [] false next e none h = absurd (false≢true (sym (ap (λ (m : ScanMove). begins m.position) (e true)) ∙ h))
end_takes sh place v (w ∷ rest) true next e none h =
    absurd (false≢true (sym (ap (λ (m : ScanMove). takes sh (place_in m.position) (w ∷ rest)) (e false) ∙ ap (λ o. takes sh o (w ∷ rest)) none) ∙ h))
end_takes sh place v (w ∷ rest) false next e none h =
    absurd (false≢true (sym (ap (λ (m : ScanMove). takes sh (place_in m.position) (w ∷ rest)) (e false)) ∙ h))

-- behind which the line may end, or go on
pub open_takes : (sh : Shape) (place next : Place) (v : ℕ) (ns : List ℕ) (test : Bool) (item : Bool → Item) (stage : Stage)
    → ((last : Bool) → taken_by sh place v last ≡ allowed test last (open_by last (item last) next stage)) → takes sh (Some place) (v ∷ ns) ≡ true
    → (test ≡ true) × ((ns ≡ []) ⊎ (takes sh (Some next) ns ≡ true))
open_takes sh place next v [] true item stage e h = (refl, inl refl)
open_takes sh place next v [] false item stage e h = absurd (false≢true (sym (ap (λ (m : ScanMove). begins m.position) (e true)) ∙ h))
open_takes sh place next v (w ∷ rest) true item stage e h =
    (refl, inr (sym (ap (λ (m : ScanMove). takes sh (place_in m.position) (w ∷ rest)) (e false)) ∙ h))
open_takes sh place next v (w ∷ rest) false item stage e h =
    absurd (false≢true (sym (ap (λ (m : ScanMove). takes sh (place_in m.position) (w ∷ rest)) (e false)) ∙ h))

-- the version is a later one
abbrev pub OfLater : Shape → Type 0
OfLater sh = IsLater (version_number sh.version)

-- a marked cut, by its number and its part, which are in range
pub record IsMark (sh : Shape) (at : MarkAt) : Type 0 where
  pub third : sh.version ≡ Third
  pub number : 1 ≤ at.number
  pub some : 1 ≤ at.part
  pub most : at.part ≤ most_part

-- the stage at which a line stands
abbrev pub stage_of_head : Head → Stage
stage_of_head VersionLine = Version
stage_of_head SizeLine = Size
stage_of_head CostLine = Cost
stage_of_head BoundLine = Bound
stage_of_head HubsLine = Hubs
stage_of_head (RouteLine c) = Route c
stage_of_head CutsLine = Cuts
stage_of_head (CutLine all before) = Cut all before
stage_of_head (MarkWord at) = Cut at.all (at.number - 1)
stage_of_head (DualLine d) = Dual d
stage_of_head (DualsLine d) = Dual d
stage_of_head (ProvedLine d) = ProvedDual d
stage_of_head (ProofLine d) = Proof d
stage_of_head NodesLine = Nodes
stage_of_head (BranchLine t) = Tree t
stage_of_head (LeafLine t) = Tree t
stage_of_head (EmptyLine t) = Tree t
stage_of_head (BlockLine t) = Tree t
stage_of_head (CountLine t) = Tree t
stage_of_head EndLine = End

-- the version has such a line
abbrev pub HasHead : Shape → Head → Type 0
HasHead sh (MarkWord at) = IsMark sh at
HasHead sh (DualsLine d) = OfLater sh
HasHead sh (BlockLine t) = OfLater sh
HasHead sh (CountLine t) = OfLater sh
HasHead sh head = Unit {0}

-- what stands before the word in its line, and what was given of the line
abbrev pub front_of_head : Head → List ℕ
front_of_head (MarkWord at) = mark_front at
front_of_head head = []

abbrev pub given_of_head : Head → List Item
given_of_head (MarkWord at) = cut_item at.number at.part false ∷ []
given_of_head head = []

-- a keyword, and numbers with a space behind each
abbrev pub front_text : List ℕ → List ℕ → List ℕ
front_text word ns = word ++ 32 ∷ flat_map (λ m. decimal m ++ 32 ∷ []) ns

pub record Within (value most : ℕ) : Type 0 where
  pub low : 1 ≤ value
  pub high : value ≤ most

pub is_in : (value most : ℕ) → within value most ≡ true → Within value most
is_in value most e = let k = and_parts (nat_le 1 value) (nat_le value most) e in record { low = leb-true 1 value k.0; high = leb-true value most k.1 }

pub record Follows (n before value : ℕ) : Type 0 where
  pub low : before < value
  pub high : value ≤ n

pub is_next : (n before value : ℕ) → follows n before value ≡ true → Follows n before value
is_next n before value e = let k = and_parts (nat_lt before value) (nat_le value n) e in record { low = ltb-true before value k.0; high = leb-true value n k.1 }

-- the bytes of a keyword are letters
abbrev is_letter : ℕ → Bool
is_letter b = nat_lt 47 b

letters : (head : Head) → list_all is_letter (keyword_of head) ≡ true
letters VersionLine = refl
letters head = refl

letter_at : (word : List ℕ) → list_all is_letter word ≡ true → (k : ℕ) → k < length word → 47 < get_or word k 0
letter_at [] h k l = absurd (omega arith)
letter_at (b ∷ word) h zero l = ltb-true 47 b (and_parts (is_letter b) (list_all is_letter word) h).0
letter_at (b ∷ word) h (suc k) l = letter_at word (and_parts (is_letter b) (list_all is_letter word) h).1 k (omega arith)

pub keyword_letter : (head : Head) (k : ℕ) → k < length (keyword_of head) → 47 < get_or (keyword_of head) k 0
keyword_letter head k l = letter_at (keyword_of head) (letters head) k l
