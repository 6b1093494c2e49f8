-- The grammar line by line: what is wanted at each place of the text, and the first line that is not as wanted.
use Rattle.std.specs.Prelude.{◌≡◌, ◌≢◌, ℕ, ◌+◌, ◌-◌, ◌*◌, ◌%◌, ◌<◌, ◌≤◌, List, [], ◌∷◌, length, All, Option, Some, None, ◌⊎◌, nat_eq, if◌then◌else◌}
use Rattle.std.specs.List.{slice_split}
use Rattle.std.specs.List.Sorted.{IsStrictlyIncreasing}
use Rattle.core_spec.specs.MarkRanges.{IsProofInRange, AreMarkHubs}
use Rattle.hub_spec.specs.Limits.{most_nodes, most_part, most_cuts, most_tree_lines}
use Rattle.hub_spec.specs.Problem.{commodity_at}
use Rattle.hub_spec.specs.Trees.{TreeLine, branch_on, leaf_of, no_hub, no_route, no_count}
use Rattle.hub_spec.specs.Ranges.{IsShort, IsDualInRange, IsLineInRange, IsFirstDual, IsFirstLine}
use Rattle.hub_spec.specs.Cuts.{Prices}
use Rattle.cert_spec.specs.Runs.{before_at}
use Rattle.cert_spec.specs.Stated.{IsLater, IsThird}
use Rattle.cert_spec.specs.Text.{is_first}
use Rattle.cert_spec.specs.Lines.{Item, says_version, says_size, says_cost, says_bound, says_hubs, says_route, says_cuts, says_cut, says_marked, says_dual, says_proof, says_nodes, says_tree, says_end, line_text}

-- what the first lines say of the others: the version, and the number of nodes
pub record Shape : Type 0 where
  pub version : ℕ
  pub size : ℕ

-- the shape of a text in this version of n nodes
abbrev pub shape : ℕ → ℕ → Shape
shape v n = record { version = v; size = n }

-- what the next line is to be
pub data Stage : Type 0 where
  want_version want_end want_nothing : Stage
  -- of this version
  want_size : (version : ℕ) → Stage
  -- the shape of the text
  want_cost want_bound want_hubs want_cuts want_nodes : Shape → Stage
  -- and how many routes stand already
  want_route : Shape → (t : ℕ) → Stage
  -- and how many cuts are stated, and stand already
  want_cut : Shape → (all x : ℕ) → Stage
  -- and how many duals of the next cut stand already, and the last of them that another line of its origin must not repeat
  want_dual : Shape → (all x t : ℕ) (before : Option Prices) → Stage
  -- and how many duals of the next cut, which is marked, stand already, each with its proof
  want_proved : Shape → (all x t : ℕ) → Stage
  -- and a dual more, whose proof is next
  want_proof : Shape → (all x t : ℕ) → Stage
  -- and how many places are still to be filled, and tree lines still to come
  want_tree : Shape → (places left : ℕ) → Stage

-- a branch fills a place and makes two, any other tree line fills a place
abbrev pub places_after : ℕ → TreeLine → ℕ
places_after places (branch_on k) = places + 1
places_after places (leaf_of denom weights) = places - 1
places_after places no_hub = places - 1
places_after places (no_route commodity) = places - 1
places_after places no_count = places - 1

-- no more places are to be filled than lines are left, and they are all filled only where no line is left
abbrev pub IsOpen : ℕ → ℕ → Type 0
IsOpen places left = (places ≤ left) × (places ≡ 0 → left ≡ 0)

-- a part as the version says it: none in the first
abbrev pub IsPart : ℕ → Option ℕ → Type 0
IsPart v None = v ≡ 1
IsPart v (Some e) = IsLater v × (1 ≤ e) × (e ≤ most_part)

-- the part and the hubs of a marked cut, between n nodes, in the third version
abbrev pub IsMarking : Shape → ℕ → List ℕ → Type 0
IsMarking s part hubs = IsThird s.version × (1 ≤ part) × (part ≤ most_part) × AreMarkHubs s.size hubs

-- a run as the version says it: of one commodity in the first, of commodities of one origin in a later one
abbrev pub IsRun : Shape → ℕ → ℕ → Type 0
IsRun s t run = (1 ≤ run) × (t % s.size + run ≤ s.size) × (s.version ≡ 1 → run ≡ 1)

-- a version that there is
abbrev pub IsVersion : ℕ → Type 0
IsVersion v = (v ≡ 1) ⊎ IsLater v

-- the line may stand at this stage
abbrev pub Wants : Stage → Item → Type 0
Wants want_version (says_version v) = IsVersion v
Wants (want_size v) (says_size n q) = (1 ≤ n) × (n ≤ most_nodes) × (1 ≤ q) × (q ≤ n)
Wants (want_cost s) (says_cost c) = IsShort c
Wants (want_bound s) (says_bound b) = IsShort b
Wants (want_hubs s) (says_hubs hubs) = (1 ≤ length hubs) × IsStrictlyIncreasing hubs × All (λ k. k < s.size) hubs
Wants (want_route s t) (says_route commodity route) =
    (commodity ≡ commodity_at s.size t) × (route.0 < s.size) × (route.1 < s.size)
Wants (want_cuts s) (says_cuts all) = all ≤ most_cuts
Wants (want_cut s all x) (says_cut number part) = (number ≡ x + 1) × IsPart s.version part
Wants (want_cut s all x) (says_marked number part hubs) = (number ≡ x + 1) × IsMarking s part hubs
Wants (want_proved s all x t) (says_dual commodity run dual) =
    (commodity ≡ commodity_at s.size t) × (run ≡ 1) × IsDualInRange s.size dual
Wants (want_proof s all x t) (says_proof proof) = IsProofInRange s.size proof
Wants (want_dual s all x t before) (says_dual commodity run dual) =
    (commodity ≡ commodity_at s.size t) × IsRun s t run × IsDualInRange s.size dual × (s.version ≡ 1 → IsFirstDual dual)
    × (before ≢ Some dual)
Wants (want_nodes s) (says_nodes all) = (1 ≤ all) × (all ≤ most_tree_lines)
Wants (want_tree s places left) (says_tree line) =
    IsLineInRange s.size line × (s.version ≡ 1 → IsFirstLine line) × IsOpen (places_after places line) (left - 1)
Wants want_end says_end = Unit {0}
Wants stage item = ⊥

-- what is wanted after t routes
abbrev pub after_route : Shape → ℕ → Stage
after_route s t = if nat_eq t (s.size * s.size) then want_cuts s else want_route s t

-- after x cuts
abbrev pub after_cut : Shape → ℕ → ℕ → Stage
after_cut s all x = if nat_eq x all then want_nodes s else want_cut s all x

-- what the next dual of the cut must not be, after this one: in the first version nothing
abbrev pub kept_dual : Shape → ℕ → Prices → Option Prices
kept_dual s t dual = if is_first s.version then None else before_at s.size t dual

-- after t duals of a cut, the last of which may be kept
abbrev pub after_dual : Shape → ℕ → ℕ → ℕ → Option Prices → Stage
after_dual s all x t before = if nat_eq t (s.size * s.size) then after_cut s all (x + 1) else want_dual s all x t before

-- after t duals of a marked cut, each with its proof
abbrev pub after_proof : Shape → ℕ → ℕ → ℕ → Stage
after_proof s all x t = if nat_eq t (s.size * s.size) then after_cut s all (x + 1) else want_proved s all x t

-- after a tree line, with these places and lines left
abbrev pub after_tree : Shape → ℕ → ℕ → Stage
after_tree s places left = if nat_eq left 0 then want_end else want_tree s places left

-- what is wanted after a line that was wanted
abbrev pub after : Stage → Item → Stage
after want_version (says_version v) = want_size v
after (want_size v) (says_size n q) = want_cost (shape v n)
after (want_cost s) item = want_bound s
after (want_bound s) item = want_hubs s
after (want_hubs s) item = want_route s 0
after (want_route s t) item = after_route s (t + 1)
after (want_cuts s) (says_cuts all) = after_cut s all 0
after (want_cut s all x) (says_cut number part) = want_dual s all x 0 None
after (want_cut s all x) (says_marked number part hubs) = want_proved s all x 0
after (want_proved s all x t) item = want_proof s all x t
after (want_proof s all x t) item = after_proof s all x (t + 1)
after (want_dual s all x t before) (says_dual commodity run dual) = after_dual s all x (t + run) (kept_dual s (t + run) dual)
after (want_nodes s) (says_nodes all) = want_tree s 1 all
after (want_tree s places left) (says_tree line) = after_tree s (places_after places line) (left - 1)
after stage item = want_nothing

-- these lines are as wanted one after another, and lead from the first stage to the last
abbrev pub Leads : Stage → List Item → Stage → Type 0
Leads first [] last = first ≡ last
Leads first (item ∷ items) last = Wants first item × Leads (after first item) items last

-- the bytes, without a line feed, are a line that may stand at this stage, and say this
pub record IsLine (stage : Stage) (bytes : List ℕ) (item : Item) : Type 0 where
  pub wanted : Wants stage item
  pub text : bytes ≡ line_text item

-- what stands between the line feeds; no line feed stands after the last part
abbrev pub parts : List ℕ → List (List ℕ)
parts bytes = slice_split (λ b. nat_eq b 10) bytes

-- a fault of the grammar, with the number of its line, counted from 1
pub data TextFault : Type 0 where
  -- a line feed stands at or after the start of the line, or it comes after the end
  bad_line : ℕ → TextFault
  -- no line feed stands there
  ended : ℕ → TextFault

-- where only the last part is left: nothing may stand there once all lines stood, and else a line is missing
abbrev pub LastFault : Stage → ℕ → List ℕ → TextFault → Type 0
LastFault want_nothing line last fault = (last ≢ []) × (fault ≡ bad_line line)
LastFault stage line last fault = fault ≡ ended line

-- the fault of what is left of a text, of which this line is the next and this stage is reached:
-- the first line that is not a whole line as wanted there, given those before it
abbrev pub IsFaultFrom : Stage → ℕ → List (List ℕ) → TextFault → Type 0
IsFaultFrom stage line [] fault = ⊥
IsFaultFrom stage line (last ∷ []) fault = LastFault stage line last fault
IsFaultFrom stage line (part ∷ next ∷ rest) fault =
    ((item : Item) × IsLine stage part item × IsFaultFrom (after stage item) (line + 1) (next ∷ rest) fault)
    ⊎ (((item : Item) → IsLine stage part item → ⊥) × (fault ≡ bad_line line))

-- the fault of a text
abbrev pub IsTextFault : List ℕ → TextFault → Type 0
IsTextFault bytes fault = IsFaultFrom want_version 1 (parts bytes) fault
