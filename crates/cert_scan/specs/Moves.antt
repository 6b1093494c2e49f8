-- What a scan makes of one byte, by the line that is wanted and the place in it.
use Rattle.std.specs.Prelude.{ℕ, ◌+◌, ◌-◌, ◌*◌, ◌^◌, Bool, true, false, not, ◌&&◌, ◌||◌, List, length, codes, Option, Some, None, slice_index, nat_eq, nat_lt, nat_le, if◌then◌else◌}
use Rattle.hub_spec.specs.Limits.{most_nodes, most_part, most_denominator, most_cuts, most_tree_lines}
use Rattle.core_spec.specs.MarkRanges.{most_turns, most_scale, most_taken}
use Rattle.cert_spec.specs.Reading.{is_version, is_short}
use Rattle.cert_scan.specs.Versions.{version_of}
use Rattle.cert_scan.specs.declared.items.Version.{Version as TextVersion}
use Rattle.cert_scan.specs.declared.items.Version.TheVariants.{First, Third}
use Rattle.cert_scan.specs.declared.items.Item.{Item}
use Rattle.cert_scan.specs.declared.items.Item.TheVariants.{Version as version_item, Size as size_item, Cost as cost_item, Bound as bound_item, Hub as hub_item, Route as route_item, Cuts as cuts_item, Cut as cut_item, CoreHub as core_item, Dual as dual_item, DualPair as pair_item, Proof as proof_item, ProofPair as way_item, Nodes as nodes_item, Branch as branch_item, Leaf as leaf_item, LeafPair as weight_item, Empty as empty_item, Block as block_item, Count as count_item, End as end_item}
use Rattle.cert_scan.specs.declared.stages.Commodity.{Commodity}
use Rattle.cert_scan.specs.declared.stages.DualAt.{DualAt}
use Rattle.cert_scan.specs.declared.stages.LineRun.{LineRun}
use Rattle.cert_scan.specs.declared.stages.Subject.{Subject}
use Rattle.cert_scan.specs.declared.stages.Subject.TheVariants.{Plain, Proved}
use Rattle.cert_scan.specs.declared.stages.MarkAt.{MarkAt}
use Rattle.cert_scan.specs.declared.stages.WaysAt.{WaysAt}
use Rattle.cert_scan.specs.declared.stages.Shape.{Shape}
use Rattle.cert_scan.specs.declared.stages.TreeAt.{TreeAt}
use Rattle.cert_scan.specs.declared.stages.Stage.{Stage}
use Rattle.cert_scan.specs.declared.stages.Stage.TheVariants.{Version, Size, Cost, Bound, Hubs, Route, Cuts, Cut, Dual, ProvedDual, Proof, Nodes, Tree, End, Nothing}
use Rattle.cert_scan.specs.declared.heads.Head.{Head}
use Rattle.cert_scan.specs.declared.heads.Head.TheVariants.{VersionLine, SizeLine, CostLine, BoundLine, HubsLine, RouteLine, CutsLine, CutLine, MarkWord, DualLine, DualsLine, ProvedLine, ProofLine, NodesLine, BranchLine, LeafLine, EmptyLine, BlockLine, CountLine, EndLine}
use Rattle.cert_scan.specs.declared.places.Place.{Place}
use Rattle.cert_scan.specs.declared.places.Place.TheVariants.{VersionNumber, NodeCount, CandidateCount, CostAmount, BoundAmount, HubNode, RouteFrom, RouteTo, RouteFirst, RouteLast, CutCount, CutNumber, CutPart, MarkHub, DualFrom, DualTo, RunFrom, RunTo, RunLength, ProvedFrom, ProvedTo, DualPrice, ValueNode, ValueAmount, ProofTurns, ProofScale, WayFrom, WayTo, WayTaken, LineCount, BranchNode, BlockFrom, BlockTo, Denominator, WeightCut, WeightAmount}
use Rattle.cert_scan.specs.declared.bytes.Position.{Position}
use Rattle.cert_scan.specs.declared.bytes.Position.TheVariants.{Start, Keyword, Number, Spoiled, Failed}
use Rattle.cert_scan.specs.declared.bytes.ScanMove.{ScanMove}

-- ---- from line to line

-- the commodity of these nodes
abbrev pub commodity_by : ℕ → ℕ → Commodity
commodity_by i j = record { from = i; to = j }

-- the commodity behind so many of one origin, from this one on, between n nodes
abbrev pub next_commodity_of : ℕ → ℕ → Commodity → Option Commodity
next_commodity_of n length c =
    if nat_lt (c.to + length) n then Some (commodity_by c.from (c.to + length))
    else (if nat_lt c.from (n - 1) then Some (commodity_by (c.from + 1) 0) else None)

-- a route of this commodity is wanted, or the number of cuts
abbrev pub route_or_cuts : Option Commodity → Stage
route_or_cuts (Some c) = Route c
route_or_cuts None = Cuts

abbrev pub stage_after_route : ℕ → Commodity → Stage
stage_after_route n c = route_or_cuts (next_commodity_of n 1 c)

abbrev pub stage_after_cuts : ℕ → Stage
stage_after_cuts all = if nat_lt 0 all then Cut all 0 else Nodes

abbrev pub stage_after_cut : ℕ → ℕ → Stage
stage_after_cut all before = if nat_lt before (all - 1) then Cut all (before + 1) else Nodes

-- a dual of this commodity is wanted in the same cut, or the cut is done
abbrev pub dual_or_cut : DualAt → Option Commodity → Stage
dual_or_cut at (Some c) = Dual (record { all = at.all; before = at.before; commodity = c })
dual_or_cut at None = stage_after_cut at.all at.before

abbrev pub stage_after_dual : ℕ → LineRun → Stage
stage_after_dual n run = dual_or_cut run.first (next_commodity_of n run.length run.first.commodity)

-- the first dual of the cut behind so many others is wanted
abbrev pub first_dual_of : ℕ → ℕ → Stage
first_dual_of all before = Dual (record { all = all; before = before; commodity = commodity_by 0 0 })

-- the dual of this commodity alone
abbrev pub alone : DualAt → LineRun
alone at = record { first = at; length = 1 }

-- the commodities that the line of a dual is of
abbrev pub subject_run : Subject → LineRun
subject_run (Plain run) = run
subject_run (Proved at) = alone at

-- what is wanted behind its line
abbrev pub stage_after_subject : ℕ → Subject → Stage
stage_after_subject n (Plain run) = stage_after_dual n run
stage_after_subject n (Proved at) = Proof at

-- the first dual of the marked cut behind so many others is wanted
abbrev pub first_proved_of : ℕ → ℕ → Stage
first_proved_of all before = ProvedDual (record { all = all; before = before; commodity = commodity_by 0 0 })

-- a dual of this commodity is wanted in the same marked cut, or the cut is done
abbrev pub proved_or_cut : DualAt → Option Commodity → Stage
proved_or_cut at (Some c) = ProvedDual (record { all = at.all; before = at.before; commodity = c })
proved_or_cut at None = stage_after_cut at.all at.before

abbrev pub stage_after_proof : ℕ → DualAt → Stage
stage_after_proof n at = proved_or_cut at (next_commodity_of n 1 at.commodity)

abbrev pub stage_after_tree : ℕ → ℕ → Stage
stage_after_tree places left = if nat_eq left 0 then End else Tree (record { places = places; left = left })

-- a line that is no branch fills a place
abbrev pub stage_after_filled : TreeAt → Stage
stage_after_filled at = stage_after_tree (at.places - 1) (at.left - 1)

-- and leaves no more places than lines, and a place where a line is left
abbrev pub may_fill : TreeAt → Bool
may_fill at = nat_le (at.places - 1) (at.left - 1) && (not (nat_eq (at.places - 1) 0) || nat_eq (at.left - 1) 0)

-- ---- the first word of a line

-- a count, which the later versions have
abbrev pub count_line_of : TextVersion → TreeAt → Option Head
count_line_of First at = None
count_line_of version at = Some (CountLine at)

-- what the line of a tree is to be that begins with this byte
abbrev pub tree_head_at : TextVersion → TreeAt → ℕ → Option Head
tree_head_at version at byte =
    if nat_eq byte 98 then Some (BranchLine at)
    else (if nat_eq byte 108 then Some (LeafLine at)
    else (if nat_eq byte 101 then Some (EmptyLine at) else (if nat_eq byte 99 then count_line_of version at else None)))

-- what the line is to be that begins with this byte
abbrev pub head_at : TextVersion → Stage → ℕ → Option Head
head_at version Version byte = Some VersionLine
head_at version Size byte = Some SizeLine
head_at version Cost byte = Some CostLine
head_at version Bound byte = Some BoundLine
head_at version Hubs byte = Some HubsLine
head_at version (Route c) byte = Some (RouteLine c)
head_at version Cuts byte = Some CutsLine
head_at version (Cut all before) byte = Some (CutLine all before)
head_at version (Dual at) byte = Some (DualLine at)
head_at version (ProvedDual at) byte = Some (ProvedLine at)
head_at version (Proof at) byte = Some (ProofLine at)
head_at version Nodes byte = Some NodesLine
head_at version (Tree at) byte = tree_head_at version at byte
head_at version End byte = Some EndLine
head_at version Nothing byte = None

-- the first word of a line, and where its first number stands, if it has one
abbrev pub form_of : Head → List ℕ × Option Place
form_of VersionLine = (codes "HUBCERT", Some VersionNumber)
form_of SizeLine = (codes "size", Some NodeCount)
form_of CostLine = (codes "cost", Some CostAmount)
form_of BoundLine = (codes "bound", Some BoundAmount)
form_of HubsLine = (codes "hubs", Some (HubNode 0))
form_of (RouteLine c) = (codes "route", Some (RouteFrom c))
form_of CutsLine = (codes "cuts", Some CutCount)
form_of (CutLine all before) = (codes "cut", Some (CutNumber all before))
form_of (MarkWord at) = (codes "core", Some (MarkHub at 0))
form_of (DualLine at) = (codes "dual", Some (DualFrom at))
form_of (DualsLine at) = (codes "duals", Some (RunFrom at))
form_of (ProvedLine at) = (codes "dual", Some (ProvedFrom at))
form_of (ProofLine at) = (codes "proof", Some (ProofTurns at))
form_of NodesLine = (codes "nodes", Some LineCount)
form_of (BranchLine at) = (codes "branch", Some (BranchNode at))
form_of (LeafLine at) = (codes "leaf", Some (Denominator at))
form_of (EmptyLine at) = (codes "empty", None)
form_of (BlockLine at) = (codes "block", Some (BlockFrom at))
form_of (CountLine at) = (codes "count", None)
form_of EndLine = (codes "end", None)

abbrev pub keyword_of : Head → List ℕ
keyword_of head = (form_of head).0

abbrev pub first_place_of : Head → Option Place
first_place_of head = (form_of head).1

-- the duals of neighbours of a plain cut as one line, which the later versions have
abbrev pub duals_line_of : TextVersion → Head → Option Head
duals_line_of First head = None
duals_line_of version (DualLine at) = Some (DualsLine at)
duals_line_of version head = None

-- the block of a commodity, which the later versions have
abbrev pub block_line_of : TextVersion → Head → Option Head
block_line_of First head = None
block_line_of version (BranchLine at) = Some (BlockLine at)
block_line_of version head = None

-- another line, whose first word begins with as many letters of this one's and goes on with the byte
abbrev pub turned_by : TextVersion → Head → ℕ → ℕ → Option Head
turned_by version head matched byte =
    if nat_eq byte 115 && nat_eq matched 4 then duals_line_of version head
    else (if nat_eq byte 108 && nat_eq matched 1 then block_line_of version head else None)

-- ---- moves

abbrev pub move : Position → Option Item → ScanMove
move position item = record { position = position; item = item }

-- the line is not as wanted, and ends here or not
abbrev pub refusal : Bool → ScanMove
refusal last = if last then move Failed None else move Spoiled None

-- another number must stand behind
abbrev pub more_by : Bool → Place → ScanMove
more_by last place = if last then move Failed None else move (Number place None) None

-- the line must end here, and gives this
abbrev pub whole_by : Bool → Option Item → Stage → ScanMove
whole_by last item stage = if last then move (Start stage) item else move Spoiled None

-- this is given; the line may end here, or go on
abbrev pub open_by : Bool → Item → Place → Stage → ScanMove
open_by last item place stage = if last then move (Start stage) (Some item) else move (Number place None) (Some item)

-- the move, if the test holds
abbrev pub allowed : Bool → Bool → ScanMove → ScanMove
allowed test last move = if test then move else refusal last

-- a number from 1 to the most
abbrev pub within : ℕ → ℕ → Bool
within value most = nat_le 1 value && nat_le value most

-- a node's number after the one before it
abbrev pub follows : ℕ → ℕ → ℕ → Bool
follows n before value = nat_lt before value && nat_le value n

-- what an amount of a dual is below
abbrev pub amount_limit : TextVersion → ℕ
amount_limit First = 10 ^ 30
amount_limit version = 10 ^ 33

-- the number of the cut that begins; its part stands behind it, but in the first version, where it is 1
abbrev pub cut_by : TextVersion → ℕ → ℕ → Bool → ScanMove
cut_by First all number last = whole_by last (Some (cut_item number 1 last)) (first_dual_of all (number - 1))
cut_by version all number last = more_by last (CutPart all number)

-- the part of a cut, behind which the line ends; in the third version the word of a mark may stand behind it
abbrev pub part_by : TextVersion → MarkAt → Bool → ScanMove
part_by Third at false = move (Keyword (MarkWord at) 0) (Some (cut_item at.number at.part false))
part_by version at last = whole_by last (Some (cut_item at.number at.part last)) (first_dual_of at.all (at.number - 1))

-- behind the way of a proof that has these nodes, which count from 1
abbrev pub way_behind : DualAt → ℕ → ℕ → WaysAt
way_behind at from to = record { dual = at; from = from; to = to }

-- the nodes stand behind those of the way before
abbrev pub is_later_way : WaysAt → ℕ → ℕ → Bool
is_later_way at from to = nat_lt at.from from || (nat_eq at.from from && nat_lt at.to to)

-- the number at a place of a text of this shape, and behind it the line's end or a space
abbrev pub taken_by : Shape → Place → ℕ → Bool → ScanMove
taken_by s VersionNumber value last =
    allowed (is_version value) last (whole_by last (Some (version_item (version_of value))) Size)
taken_by s NodeCount value last = allowed (within value most_nodes) last (more_by last (CandidateCount value))
taken_by s (CandidateCount nodes) value last =
    allowed (within value nodes) last (whole_by last (Some (size_item nodes value)) Cost)
taken_by s CostAmount value last = allowed (is_short value) last (whole_by last (Some (cost_item value)) Bound)
taken_by s BoundAmount value last = allowed (is_short value) last (whole_by last (Some (bound_item value)) Hubs)
taken_by s (HubNode before) value last =
    allowed (follows s.n before value) last
    (open_by last (hub_item (value - 1) last) (HubNode value) (Route (commodity_by 0 0)))
taken_by s (RouteFrom c) value last = allowed (nat_eq value (c.from + 1)) last (more_by last (RouteTo c))
taken_by s (RouteTo c) value last = allowed (nat_eq value (c.to + 1)) last (more_by last (RouteFirst c))
taken_by s (RouteFirst c) value last = allowed (within value s.n) last (more_by last (RouteLast c (value - 1)))
taken_by s (RouteLast c k) value last =
    allowed (within value s.n) last
    (whole_by last (Some (route_item c.from c.to k (value - 1))) (stage_after_route s.n c))
taken_by s CutCount value last =
    allowed (nat_le value most_cuts) last (whole_by last (Some (cuts_item value)) (stage_after_cuts value))
taken_by s (CutNumber all before) value last =
    allowed (nat_eq value (before + 1) && nat_le value most_cuts) last (cut_by s.version all value last)
taken_by s (CutPart all number) value last =
    allowed (within value most_part) last (part_by s.version (record { all = all; number = number; part = value }) last)
taken_by s (MarkHub at before) value last =
    allowed (follows s.n before value) last
    (open_by last (core_item (value - 1) last) (MarkHub at value) (first_proved_of at.all (at.number - 1)))
taken_by s (DualFrom at) value last = allowed (nat_eq value (at.commodity.from + 1)) last (more_by last (DualTo at))
taken_by s (DualTo at) value last =
    allowed (nat_eq value (at.commodity.to + 1)) last (more_by last (DualPrice (Plain (alone at))))
taken_by s (RunFrom at) value last = allowed (nat_eq value (at.commodity.from + 1)) last (more_by last (RunTo at))
taken_by s (RunTo at) value last = allowed (nat_eq value (at.commodity.to + 1)) last (more_by last (RunLength at))
taken_by s (RunLength at) value last =
    allowed (nat_le 2 value && nat_le (at.commodity.to + value) s.n) last
    (more_by last (DualPrice (Plain (record { first = at; length = value }))))
taken_by s (ProvedFrom at) value last = allowed (nat_eq value (at.commodity.from + 1)) last (more_by last (ProvedTo at))
taken_by s (ProvedTo at) value last =
    allowed (nat_eq value (at.commodity.to + 1)) last (more_by last (DualPrice (Proved at)))
taken_by s (DualPrice subject) value last =
    let run = subject_run subject in
    allowed (nat_lt value (amount_limit s.version)) last
    (open_by last (dual_item run.first.commodity.from run.first.commodity.to run.length value last) (ValueNode subject 0)
    (stage_after_subject s.n subject))
taken_by s (ValueNode subject before) value last =
    allowed (follows s.n before value) last (more_by last (ValueAmount subject value))
taken_by s (ValueAmount subject number) value last =
    allowed (nat_le 1 value && nat_lt value (amount_limit s.version)) last
    (open_by last (pair_item (number - 1) value last) (ValueNode subject number) (stage_after_subject s.n subject))
taken_by s (ProofTurns at) value last = allowed (nat_le value most_turns) last (more_by last (ProofScale at value))
taken_by s (ProofScale at turns) value last =
    allowed (within value most_scale) last
    (open_by last (proof_item turns value last) (WayFrom (way_behind at 0 0)) (stage_after_proof s.n at))
taken_by s (WayFrom at) value last = allowed (within value s.n) last (more_by last (WayTo at value))
taken_by s (WayTo at from) value last =
    allowed (nat_le from value && (nat_le value s.n && is_later_way at from value)) last
    (more_by last (WayTaken (way_behind at.dual from value)))
taken_by s (WayTaken at) value last =
    allowed (within value most_taken) last
    (open_by last (way_item (at.from - 1) (at.to - 1) value last) (WayFrom at) (stage_after_proof s.n at.dual))
taken_by s LineCount value last =
    allowed (within value most_tree_lines) last
    (whole_by last (Some (nodes_item value)) (Tree (record { places = 1; left = value })))
taken_by s (BranchNode at) value last =
    allowed (within value s.n && nat_lt at.places (at.left - 1)) last
    (whole_by last (Some (branch_item (value - 1))) (stage_after_tree (at.places + 1) (at.left - 1)))
taken_by s (BlockFrom at) value last = allowed (within value s.n) last (more_by last (BlockTo at (value - 1)))
taken_by s (BlockTo at i) value last =
    allowed (within value s.n && may_fill at) last
    (whole_by last (Some (block_item i (value - 1))) (stage_after_filled at))
taken_by s (Denominator at) value last =
    allowed (within value most_denominator && may_fill at) last
    (open_by last (leaf_item value last) (WeightCut at 0) (stage_after_filled at))
taken_by s (WeightCut at before) value last =
    allowed (nat_lt before value && is_short value) last (more_by last (WeightAmount at value))
taken_by s (WeightAmount at number) value last =
    allowed (nat_le 1 value && is_short value) last
    (open_by last (weight_item number value last) (WeightCut at number) (stage_after_filled at))

-- ---- bytes

-- a byte that is not as wanted
abbrev pub spoiled_by : ℕ → ScanMove
spoiled_by byte = refusal (nat_eq byte 10)

-- the line's first number begins, if it has one
abbrev pub first_number_by : Option Place → ScanMove
first_number_by (Some place) = move (Number place None) None
first_number_by None = move Spoiled None

-- a line of the tree that fills a place ends behind its keyword, and gives this
abbrev pub bare_filled_by : TreeAt → Item → ScanMove
bare_filled_by at item = allowed (may_fill at) true (move (Start (stage_after_filled at)) (Some item))

-- a line with no number ends behind its keyword
abbrev pub bare_by : Head → ScanMove
bare_by (EmptyLine at) = bare_filled_by at empty_item
bare_by (CountLine at) = bare_filled_by at count_item
bare_by EndLine = move (Start Nothing) (Some end_item)
bare_by head = refusal true

-- a byte behind the whole first word
abbrev pub behind_keyword_by : Head → ℕ → ScanMove
behind_keyword_by head byte =
    if nat_eq byte 32 then first_number_by (first_place_of head)
    else (if nat_eq byte 10 then bare_by head else move Spoiled None)

-- a byte with which the first word of a line does not go on, where so many of its letters have come
abbrev pub unmatched_by : Head → ℕ → ℕ → ScanMove
unmatched_by head matched byte =
    if nat_lt matched (length (keyword_of head)) then spoiled_by byte else behind_keyword_by head byte

-- it may make the line another one
abbrev pub turned_or : Option Head → Head → ℕ → ℕ → ScanMove
turned_or (Some other) head matched byte = move (Keyword other (matched + 1)) None
turned_or None head matched byte = unmatched_by head matched byte

-- a byte where so many of the first word have come
abbrev pub keyword_by : TextVersion → Head → ℕ → ℕ → ScanMove
keyword_by version head matched byte =
    if nat_lt matched (length (keyword_of head)) && nat_eq byte (slice_index (keyword_of head) matched)
    then move (Keyword head (matched + 1)) None
    else turned_or (turned_by version head matched byte) head matched byte

-- the first byte of a line that is to be this
abbrev pub begun_as : TextVersion → Option Head → ℕ → ScanMove
begun_as version (Some head) byte = keyword_by version head 0 byte
begun_as version None byte = spoiled_by byte

-- the first byte of a line
abbrev pub begun_by : TextVersion → Stage → ℕ → ScanMove
begun_by version Nothing byte = refusal true
begun_by version stage byte = begun_as version (head_at version stage byte) byte

-- a number of less than 33 digits
abbrev pub nearly_longest : ℕ
nearly_longest = 10 ^ 32

-- the number that is spelled with a digit behind: none stands behind a zero, and no more than 33 in all
abbrev pub with_digit_of : Option ℕ → ℕ → Option ℕ
with_digit_of None digit = Some digit
with_digit_of (Some value) digit = if nat_le 1 value && nat_lt value nearly_longest then Some (value * 10 + digit) else None

-- the line goes on with the number that is spelled
abbrev pub spelled_by : Place → Option ℕ → ScanMove
spelled_by place (Some value) = move (Number place (Some value)) None
spelled_by place None = move Spoiled None

-- a byte behind the whole number at a place
abbrev pub behind_number_by : Shape → Place → Option ℕ → ℕ → ScanMove
behind_number_by s place None byte = spoiled_by byte
behind_number_by s place (Some value) byte =
    if nat_eq byte 10 then taken_by s place value true
    else (if nat_eq byte 32 then taken_by s place value false else move Spoiled None)

-- a byte of a number, or behind it
abbrev pub number_by : Shape → Place → Option ℕ → ℕ → ScanMove
number_by s place value byte =
    if nat_le 48 byte && nat_le byte 57 then spelled_by place (with_digit_of value (byte - 48)) else behind_number_by s place value byte

-- a byte of a text of this shape
abbrev pub moved_by : Shape → Position → ℕ → ScanMove
moved_by s (Start stage) byte = begun_by s.version stage byte
moved_by s (Keyword head matched) byte = keyword_by s.version head matched byte
moved_by s (Number place value) byte = number_by s place value byte
moved_by s Spoiled byte = spoiled_by byte
moved_by s Failed byte = refusal true
