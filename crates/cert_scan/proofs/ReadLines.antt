-- The numbers of a line that may stand there, read one after another, with the pieces that they are.
use Rattle.std.proofs.Common.{◌≡◌, ℕ, ◌+◌, ◌-◌, ◌^◌, ◌<◌, ◌≤◌, Bool, true, false, List, [], ◌∷◌, ◌++◌, decimal, Option, None, nat_lt, nat_le, refl, sym, ◌∙◌, subst, arith, ◌&&◌, map, Some, ap, nat_eq}
use Rattle.std.specs.Prelude.{option_to_list}
use Rattle.std.proofs.lemmas.Bool.{and_from, cond-true, le-leb, lt-ltb, and_parts, leb-true, ltb-true, eq-eqb}
use Rattle.cert_scan.specs.Moves.{move, taken_by, allowed, within, follows, more_by, open_by, commodity_by, amount_limit, stage_after_subject, first_proved_of, stage_after_filled, way_behind, is_later_way, stage_after_proof, whole_by, cut_by, part_by, may_fill, alone, subject_run, first_dual_of, stage_after_route, stage_after_tree}
use Rattle.cert_scan.specs.Scans.{shape_by, line_by}
use Rattle.cert_scan.proofs.Goes.{Walk, scanned, given_all, Goes, goes_number, goes_taken, goes_last, nil_front, given_all-append, state}
use Rattle.cert_scan.specs.Pieces.{Piece, word_piece, number_pieces, told_hubs, told_mark, told_values, told_weights, told_ways, told_numbers}
use Rattle.cert_scan.proofs.StagesAt.{IsAt, text_shape, first_commodity, first_proved_at, number_of, IsRunOf, IsCommodity, route_at, tree_at}
use Rattle.cert_scan.proofs.Passing.{Passes, PassAll}
use Rattle.cert_scan.specs.declared.items.Item.{Item}
use Rattle.cert_scan.specs.declared.bytes.ScanMove.{ScanMove}
use Rattle.cert_scan.specs.declared.bytes.Position.TheVariants.{Start, Number}
use Rattle.cert_scan.specs.declared.places.Place.{Place}
use Rattle.cert_scan.specs.declared.stages.Stage.{Stage}
use Rattle.cert_scan.specs.declared.stages.Shape.{Shape}
use Rattle.std.specs.List.{list_all}
use Rattle.hub_spec.specs.Limits.{most_nodes, most_part, most_denominator, most_cuts}
use Rattle.hub_spec.specs.Cuts.{Prices}
use Rattle.cert_spec.specs.Reading.{IsSize, ascends, is_amount, is_short, is_dual_text, is_first_dual, ways_ascend, is_way_text, is_proof_text}
use Rattle.cert_spec.specs.Grammar as grammar
use Rattle.cert_scan.specs.Versions.{version_number}
use Rattle.cert_scan.specs.Parts.{none_left}
use Rattle.cert_scan.proofs.Climbs.{Climbs, StartsAt, climbs_from, WaysClimb, is_behind, ways_from, starts_behind, way_is}
use Rattle.cert_scan.specs.declared.items.Version.TheVariants.{First, Second, Third}
use Rattle.cert_scan.specs.declared.items.Item.TheVariants.{Hub as hub_item, CoreHub as core_item, DualPair as pair_item, LeafPair as weight_item, Proof as proof_item, ProofPair as way_item, Size as size_item, Route as route_item, Cut as cut_item, Dual as dual_item, Branch as branch_item, Leaf as leaf_item, Block as block_item}
use Rattle.cert_scan.specs.declared.places.Place.TheVariants.{HubNode, MarkHub, ValueNode, ValueAmount, WeightCut, WeightAmount, ProofTurns, ProofScale, WayFrom, WayTo, WayTaken, NodeCount, CandidateCount, RouteFrom, RouteTo, RouteFirst, RouteLast, CutNumber, CutPart, DualFrom, DualTo, RunFrom, RunTo, RunLength, ProvedFrom, ProvedTo, DualPrice, BranchNode, BlockFrom, BlockTo, Denominator}
use Rattle.cert_scan.specs.declared.stages.TreeAt.{TreeAt}
use Rattle.cert_scan.specs.declared.stages.Stage.TheVariants.{Route, Cost}
use Rattle.cert_scan.specs.declared.items.Version.{Version as TextVersion}
use Rattle.cert_scan.specs.declared.stages.MarkAt.{MarkAt}
use Rattle.cert_scan.specs.declared.stages.Subject.{Subject}
use Rattle.core_spec.specs.CoreCuts.{Way, CoreProof}
use Rattle.core_spec.specs.MarkRanges.{most_turns, most_scale, most_taken}
use Rattle.cert_spec.specs.Lines.{says_proof}
use Rattle.cert_scan.specs.declared.stages.DualAt.{DualAt}
use Rattle.cert_scan.specs.declared.stages.Commodity.{Commodity}
use Rattle.cert_scan.specs.declared.stages.Subject.TheVariants.{Plain, Proved}
use Rattle.cert_scan.specs.declared.stages.LineRun.{LineRun}

-- pieces lead to the start of a line, where this is wanted
pub record Ends (a : Walk) (pieces : List Piece) (behind_it : grammar.Stage) : Type 0 where
  pub shape : Shape
  pub line : ℕ
  pub stage : Stage
  pub passes : PassAll a pieces (state shape line (Start stage))
  pub behind : IsAt shape stage behind_it

-- the number at a place is the last of the line, and tells this
pub record TakesLast (sh : Shape) (place : Place) (m : ℕ) (item : Option Item) (behind_it : grammar.Stage) : Type 0 where
  pub short : m < 10 ^ 33
  pub stage : Stage
  pub taken : taken_by sh place m true ≡ move (Start stage) item
  pub behind : IsAt (shape_by sh item) stage behind_it

-- another one stands behind it, at the next place
pub record TakesNext (sh : Shape) (place : Place) (m : ℕ) (item : Option Item) (next : Place) : Type 0 where
  pub short : m < 10 ^ 33
  pub taken : taken_by sh place m false ≡ move (Number next None) item
  pub same : shape_by sh item ≡ sh

-- the numbers may stand at this place and those behind it, and tell these items
pub Reads : Shape → Place → List (ℕ × Option Item) → grammar.Stage → Type 0
Reads sh place [] behind_it = ⊥
Reads sh place (t ∷ []) behind_it = TakesLast sh place t.0 t.1 behind_it
Reads sh place (t ∷ u ∷ rest) behind_it = (next : Place) × TakesNext sh place t.0 t.1 next × Reads sh next (u ∷ rest) behind_it

-- ---- pieces

pub last_passes : (sh : Shape) (line : ℕ) (place : Place) (m : ℕ) (item : Option Item) (stage : Stage) → m < 10 ^ 33 → taken_by sh place m true ≡ move (Start stage) item
    → Passes (state sh line (Number place None)) (word_piece (decimal m) [] item) (state (shape_by sh item) (line_by line (Start stage)) (Start stage))
last_passes sh line place m item stage short e = record {
  front = decimal m;
  last = 10;
  split = refl;
  quiet = (goes_number sh line place m short).items;
  goes = goes_last sh line place m (move (Start stage) item) short e;
}

pub next_passes : (sh : Shape) (line : ℕ) (place : Place) (m : ℕ) (item : Option Item) (u : ℕ × Option Item) (rest : List (ℕ × Option Item)) (next : Place) → TakesNext sh place m item next
    → Passes (state sh line (Number place None)) (word_piece (decimal m) (u ∷ rest) item) (state sh line (Number next None))
next_passes sh line place m item u rest next h = record {
  front = decimal m;
  last = 32;
  split = refl;
  quiet = (goes_number sh line place m h.short).items;
  goes = subst (λ x. Goes (state sh line (Number place None)) (decimal m ++ 32 ∷ []) (option_to_list item) (state x line (Number next None))) h.same
      (goes_taken sh line place m (move (Number next None) item) h.short h.taken);
}

pub keyword_passes : (a b : Walk) (word : List ℕ) (t : ℕ × Option Item) (rest : List (ℕ × Option Item)) → given_all a (word ++ 32 ∷ []) ≡ [] → scanned a (word ++ 32 ∷ []) ≡ b
    → Passes a (word_piece word (t ∷ rest) None) b
keyword_passes a b word t rest items scan = record {
  front = word;
  last = 32;
  split = refl;
  quiet = nil_front (given_all a word) (given_all (scanned a word) (32 ∷ [])) (sym (given_all-append a word (32 ∷ [])) ∙ items);
  goes = record { scan = scan; items = items };
}

pub ends_more : (a b : Walk) (p : Piece) (pieces : List Piece) (behind_it : grammar.Stage) → Passes a p b → Ends b pieces behind_it → Ends a (p ∷ pieces) behind_it
ends_more a b p pieces behind_it first more = record { shape = more.shape; line = more.line; stage = more.stage; passes = (b, first, more.passes); behind = more.behind }

pub ends_numbers : (sh : Shape) (line : ℕ) (place : Place) (ts : List (ℕ × Option Item)) (behind_it : grammar.Stage) → Reads sh place ts behind_it
    → Ends (state sh line (Number place None)) (number_pieces ts) behind_it
unfolding Reads
ends_numbers sh line place [] behind_it h = absurd h
ends_numbers sh line place (t ∷ []) behind_it h = record {
  shape = shape_by sh t.1;
  line = line_by line (Start h.stage);
  stage = h.stage;
  passes = (state (shape_by sh t.1) (line_by line (Start h.stage)) (Start h.stage), last_passes sh line place t.0 t.1 h.stage h.short h.taken, refl);
  behind = h.behind;
}
ends_numbers sh line place (t ∷ u ∷ rest) behind_it h =
    ends_more (state sh line (Number place None)) (state sh line (Number h.0 None)) (word_piece (decimal t.0) (u ∷ rest) t.1) (number_pieces (u ∷ rest)) behind_it
    (next_passes sh line place t.0 t.1 u rest h.0 h.1) (ends_numbers sh line h.0 (u ∷ rest) behind_it h.2)

-- a line of a keyword and numbers
pub ends_line : (sh : Shape) (line : ℕ) (stage : Stage) (place : Place) (word : List ℕ) (t : ℕ × Option Item) (rest : List (ℕ × Option Item)) (behind_it : grammar.Stage)
    → given_all (state sh line (Start stage)) (word ++ 32 ∷ []) ≡ [] → scanned (state sh line (Start stage)) (word ++ 32 ∷ []) ≡ state sh line (Number place None)
    → Reads sh place (t ∷ rest) behind_it → Ends (state sh line (Start stage)) (word_piece word (t ∷ rest) None ∷ number_pieces (t ∷ rest)) behind_it
ends_line sh line stage place word t rest behind_it items scan h =
    ends_more (state sh line (Start stage)) (state sh line (Number place None)) (word_piece word (t ∷ rest) None) (number_pieces (t ∷ rest)) behind_it
    (keyword_passes (state sh line (Start stage)) (state sh line (Number place None)) word t rest items scan) (ends_numbers sh line place (t ∷ rest) behind_it h)

-- a test that holds
pub allows : (test last : Bool) (next : ScanMove) → test ≡ true → allowed test last next ≡ next
allows test last next h = cond-true test next _ h

pub is_within : (value most : ℕ) → 1 ≤ value → value ≤ most → within value most ≡ true
is_within value most low high = and_from (nat_le 1 value) (nat_le value most) (le-leb 1 value low) (le-leb value most high)

pub does_follow : (n before value : ℕ) → before < value → value ≤ n → follows n before value ≡ true
does_follow n before value low high = and_from (nat_lt before value) (nat_le value n) (lt-ltb before value low) (le-leb value n high)

-- a number that is the last of the line
pub last_number : (sh : Shape) (place : Place) (m : ℕ) (item : Option Item) (stage : Stage) (behind_it : grammar.Stage) → m < 10 ^ 33 → taken_by sh place m true ≡ move (Start stage) item
    → IsAt (shape_by sh item) stage behind_it → Reads sh place ((m, item) ∷ []) behind_it
unfolding Reads
last_number sh place m item stage behind_it short e at = record { short = short; stage = stage; taken = e; behind = at }

-- the number of a node, less one, is the node
pub node_back : (k : ℕ) → k + 1 - 1 ≡ k
node_back k = omega arith

-- ---- what may stand at a place

-- a number behind which another one must stand
reads_more : (sh : Shape) (place next : Place) (v : ℕ) (ts : List (ℕ × Option Item)) (behind_it : grammar.Stage) (test : Bool)
    → taken_by sh place v false ≡ allowed test false (more_by false next) → test ≡ true → v < 10 ^ 33 → Reads sh next ts behind_it
    → Reads sh place ((v, None) ∷ ts) behind_it
unfolding Reads
reads_more sh place next v [] behind_it test e h short more = absurd more
reads_more sh place next v (t ∷ ts) behind_it test e h short more =
    (next, record { short = short; taken = e ∙ allows test false (more_by false next) h; same = refl }, more)

-- the rest of a list, of which nothing is left or something is
unfoldable pub ReadsOn : Shape → Place → Bool → List (ℕ × Option Item) → grammar.Stage → Type 0
ReadsOn sh place true [] behind_it = Unit {0}
ReadsOn sh place false (t ∷ ts) behind_it = Reads sh place (t ∷ ts) behind_it
ReadsOn sh place none ts behind_it = ⊥

-- a number behind which the line may end, or go on
reads_open : (sh : Shape) (place next : Place) (v : ℕ) (ts : List (ℕ × Option Item)) (item : Bool → Item) (stage : Stage) (behind_it : grammar.Stage) (test last : Bool)
    → ((last : Bool) → taken_by sh place v last ≡ allowed test last (open_by last (item last) next stage)) → test ≡ true → v < 10 ^ 33
    → ((last : Bool) → shape_by sh (Some (item last)) ≡ sh) → IsAt sh stage behind_it → ReadsOn sh next last ts behind_it
    → Reads sh place ((v, Some (item last)) ∷ ts) behind_it
unfolding Reads ReadsOn
reads_open sh place next v [] item stage behind_it test true e h short same at more = record {
  short = short;
  stage = stage;
  taken = e true ∙ allows test true (open_by true (item true) next stage) h;
  behind = subst (λ x. IsAt x stage behind_it) (sym (same true)) at;
}
reads_open sh place next v (t ∷ ts) item stage behind_it test false e h short same at more =
    (next, record { short = short; taken = e false ∙ allows test false (open_by false (item false) next stage) h; same = same false }, more)
reads_open sh place next v [] item stage behind_it test false e h short same at more = absurd more
reads_open sh place next v (t ∷ ts) item stage behind_it test true e h short same at more = absurd more

-- ---- lists

abbrev pub is_hub : ℕ → ℕ → Bool
is_hub n k = nat_lt k n

pub reads_hubs : (sh : Shape) (before : ℕ) (hubs : List ℕ) (high : ℕ) → IsSize sh.n → Climbs (is_hub sh.n) (λ x. x) before hubs high
    → ReadsOn sh (HubNode before) (none_left hubs) (told_hubs hubs) (grammar.want_route (text_shape sh) 0)
unfolding ReadsOn
reads_hubs sh before [] high size h = tt
reads_hubs sh before (k ∷ rest) high size h =
    let few = size.1 in
    let below : k < sh.n = ltb-true k sh.n h.1 in
    let test = follows sh.n before (k + 1) in
    reads_open sh (HubNode before) (HubNode (k + 1)) (k + 1) (told_hubs rest) (hub_item k) (Route (commodity_by 0 0)) (grammar.want_route (text_shape sh) 0) test (none_left rest)
    (λ last. ap (λ x. allowed test last (open_by last (hub_item x last) (HubNode (k + 1)) (Route (commodity_by 0 0)))) (node_back k))
    (does_follow sh.n before (k + 1) (omega (arith, h.0)) (omega arith)) (omega arith) (λ last. refl)
    (record { is = ap (grammar.want_route (text_shape sh)) (omega arith); names = first_commodity sh.n size.0 }) (reads_hubs sh (k + 1) rest high size h.2)

pub reads_mark : (sh : Shape) (at : MarkAt) (before : ℕ) (hubs : List ℕ) (high : ℕ) → IsSize sh.n → Climbs (is_hub sh.n) (λ x. x) before hubs high
    → ReadsOn sh (MarkHub at before) (none_left hubs) (told_mark hubs) (grammar.want_proved (text_shape sh) at.all (at.number - 1) 0)
unfolding ReadsOn
reads_mark sh at before [] high size h = tt
reads_mark sh at before (k ∷ rest) high size h =
    let few = size.1 in
    let below : k < sh.n = ltb-true k sh.n h.1 in
    let test = follows sh.n before (k + 1) in
    let stage = first_proved_of at.all (at.number - 1) in
    reads_open sh (MarkHub at before) (MarkHub at (k + 1)) (k + 1) (told_mark rest) (core_item k) stage (grammar.want_proved (text_shape sh) at.all (at.number - 1) 0) test (none_left rest)
    (λ last. ap (λ x. allowed test last (open_by last (core_item x last) (MarkHub at (k + 1)) stage)) (node_back k))
    (does_follow sh.n before (k + 1) (omega (arith, h.0)) (omega arith)) (omega arith) (λ last. refl)
    (first_proved_at sh at.all (at.number - 1) size.0) (reads_mark sh at (k + 1) rest high size h.2)

abbrev pub is_value : Shape → ℕ × ℕ → Bool
is_value sh e = nat_lt e.0 sh.n && (nat_le 1 e.1 && nat_lt e.1 (amount_limit sh.version))

abbrev pub node_of : ℕ × ℕ → ℕ
node_of e = e.0

-- an amount of any version has at most 33 digits
pub limit_most : (v : TextVersion) → amount_limit v ≤ 10 ^ 33
limit_most First = omega arith
limit_most v = omega arith

reads_values : (sh : Shape) (subject : Subject) (before : ℕ) (u : List (ℕ × ℕ)) (high : ℕ) (behind_it : grammar.Stage) → sh.n ≤ most_nodes
    → IsAt sh (stage_after_subject sh.n subject) behind_it → Climbs (is_value sh) node_of before u high
    → ReadsOn sh (ValueNode subject before) (none_left u) (told_values u) behind_it
unfolding ReadsOn
reads_values sh subject before [] high behind_it few at h = tt
reads_values sh subject before (e ∷ rest) high behind_it few at h =
    let some = nat_le 1 e.1 && nat_lt e.1 (amount_limit sh.version) in
    let k = and_parts (nat_lt e.0 sh.n) some h.1 in
    let node = ltb-true e.0 sh.n k.0 in
    let below = ltb-true e.1 (amount_limit sh.version) (and_parts (nat_le 1 e.1) (nat_lt e.1 (amount_limit sh.version)) k.1).1 in
    let stage = stage_after_subject sh.n subject in
    reads_more sh (ValueNode subject before) (ValueAmount subject (e.0 + 1)) (e.0 + 1) ((e.1, Some (pair_item e.0 e.1 (none_left rest))) ∷ told_values rest) behind_it
    (follows sh.n before (e.0 + 1)) refl (does_follow sh.n before (e.0 + 1) (omega (arith, h.0)) (omega arith)) (omega arith)
    (reads_open sh (ValueAmount subject (e.0 + 1)) (ValueNode subject (e.0 + 1)) e.1 (told_values rest) (pair_item e.0 e.1) stage behind_it some (none_left rest)
    (λ last. ap (λ x. allowed some last (open_by last (pair_item x e.1 last) (ValueNode subject (e.0 + 1)) stage)) (node_back e.0)) k.1
    (omega (arith, below, limit_most sh.version)) (λ last. refl) at (reads_values sh subject (e.0 + 1) rest high behind_it few at h.2))

abbrev pub is_weight : ℕ × ℕ → Bool
is_weight e = nat_le 1 e.0 && (is_short e.0 && (nat_le 1 e.1 && is_short e.1))

reads_weights : (sh : Shape) (t : TreeAt) (before : ℕ) (w : List (ℕ × ℕ)) (high : ℕ) (behind_it : grammar.Stage) → IsAt sh (stage_after_filled t) behind_it
    → Climbs is_weight node_of (before + 1) w high → ReadsOn sh (WeightCut t before) (none_left w) (told_weights w) behind_it
unfolding ReadsOn
reads_weights sh t before [] high behind_it at h = tt
reads_weights sh t before (e ∷ rest) high behind_it at h =
    let some = nat_le 1 e.1 && is_short e.1 in
    let k = and_parts (is_short e.0) some (and_parts (nat_le 1 e.0) (is_short e.0 && some) h.1).1 in
    let cut = ltb-true e.0 (10 ^ 30) k.0 in
    let below = ltb-true e.1 (10 ^ 30) (and_parts (nat_le 1 e.1) (is_short e.1) k.1).1 in
    reads_more sh (WeightCut t before) (WeightAmount t e.0) e.0 ((e.1, Some (weight_item e.0 e.1 (none_left rest))) ∷ told_weights rest) behind_it
    (nat_lt before e.0 && is_short e.0) refl (and_from (nat_lt before e.0) (is_short e.0) (lt-ltb before e.0 (omega (arith, h.0))) k.0) (omega arith)
    (reads_open sh (WeightAmount t e.0) (WeightCut t e.0) e.1 (told_weights rest) (weight_item e.0 e.1) (stage_after_filled t) behind_it some (none_left rest) (λ last. refl) k.1
    (omega arith) (λ last. refl) at (reads_weights sh t e.0 rest high behind_it at h.2))

reads_ways : (sh : Shape) (d : DualAt) (from to : ℕ) (ways : List Way) (first last : ℕ) (behind_it : grammar.Stage) → sh.n ≤ most_nodes
    → IsAt sh (stage_after_proof sh.n d) behind_it → WaysClimb sh.n from to ways first last
    → ReadsOn sh (WayFrom (way_behind d from to)) (none_left ways) (told_ways ways) behind_it
unfolding ReadsOn
reads_ways sh d from to [] first last behind_it few at h = tt
reads_ways sh d from to (w ∷ rest) first last behind_it few at h =
    let v = way_is sh.n w h.1 in
    let order = v.order in
    let node = v.node in
    let most = v.few in
    let place = way_behind d from to in
    let there = way_behind d (w.0 + 1) (w.1 + 1) in
    let told : ℕ × Option Item = (w.2, Some (way_item w.0 w.1 w.2 (none_left rest))) in
    let later = is_later_way place (w.0 + 1) (w.1 + 1) in
    reads_more sh (WayFrom place) (WayTo place (w.0 + 1)) (w.0 + 1) ((w.1 + 1, None) ∷ told ∷ told_ways rest) behind_it (within (w.0 + 1) sh.n) refl
    (is_within (w.0 + 1) sh.n (omega arith) (omega arith)) (omega arith)
    (reads_more sh (WayTo place (w.0 + 1)) (WayTaken there) (w.1 + 1) (told ∷ told_ways rest) behind_it
    (nat_le (w.0 + 1) (w.1 + 1) && (nat_le (w.1 + 1) sh.n && later)) refl
    (and_from (nat_le (w.0 + 1) (w.1 + 1)) (nat_le (w.1 + 1) sh.n && later) (le-leb (w.0 + 1) (w.1 + 1) (omega arith))
    (and_from (nat_le (w.1 + 1) sh.n) later (le-leb (w.1 + 1) sh.n (omega arith)) (is_behind from to (w.0 + 1) (w.1 + 1) h.0))) (omega arith)
    (reads_open sh (WayTaken there) (WayFrom there) w.2 (told_ways rest) (way_item w.0 w.1 w.2) (stage_after_proof sh.n d) behind_it (within w.2 most_taken) (none_left rest)
    (λ last. (λ i. allowed (within w.2 most_taken) last (open_by last (way_item (node_back w.0 i) (node_back w.1 i) w.2 last) (WayFrom there) (stage_after_proof sh.n d))))
    (is_within w.2 most_taken v.some v.few) (omega arith) (λ last. refl) at (reads_ways sh d (w.0 + 1) (w.1 + 1) rest first last behind_it few at h.2)))

-- ---- what a line may list

pub starts_low : (u : List (ℕ × ℕ)) → StartsAt node_of 0 u
starts_low [] = tt
starts_low (e ∷ u) = omega arith

-- a value that a dual can list in any version
abbrev pub is_listed : ℕ → ℕ × ℕ → Bool
is_listed sh e = nat_lt e.0 sh && (nat_le 1 e.1 && is_amount e.1)

abbrev pub is_short_value : ℕ × ℕ → Bool
is_short_value e = is_short e.1

-- an amount that the version can say
pub amount_below : (v : TextVersion) (a : ℕ) → is_amount a ≡ true → (version_number v ≡ 1 → is_short a ≡ true) → nat_lt a (amount_limit v) ≡ true
amount_below First a h short = short refl
amount_below Second a h short = h
amount_below Third a h short = h

-- in the first version it is short
pub value_listed : (sh : Shape) (e : ℕ × ℕ) → is_listed sh.n e ≡ true → (version_number sh.version ≡ 1 → is_short_value e ≡ true) → is_value sh e ≡ true
value_listed sh e h short =
    let k = and_parts (nat_lt e.0 sh.n) (nat_le 1 e.1 && is_amount e.1) h in
    let m = and_parts (nat_le 1 e.1) (is_amount e.1) k.1 in
    and_from (nat_lt e.0 sh.n) (nat_le 1 e.1 && nat_lt e.1 (amount_limit sh.version)) k.0
    (and_from (nat_le 1 e.1) (nat_lt e.1 (amount_limit sh.version)) m.0 (amount_below sh.version e.1 m.1 short))

pub values_listed : (sh : Shape) (u : List (ℕ × ℕ)) → list_all (is_listed sh.n) u ≡ true → (version_number sh.version ≡ 1 → list_all is_short_value u ≡ true)
    → list_all (is_value sh) u ≡ true
values_listed sh [] h short = refl
values_listed sh (e ∷ u) h short =
    let k = and_parts (is_listed sh.n e) (list_all (is_listed sh.n) u) h in
    let parts : version_number sh.version ≡ 1 → (is_short_value e ≡ true) × (list_all is_short_value u ≡ true) =
    λ first. and_parts (is_short_value e) (list_all is_short_value u) (short first) in
    and_from (is_value sh e) (list_all (is_value sh) u) (value_listed sh e k.0 (λ first. (parts first).0)) (values_listed sh u k.1 (λ first. (parts first).1))

-- the values of a dual that may stand climb, and its price is below its limit
pub record DualClimbs (sh : Shape) (dual : Prices) : Type 0 where
  pub high : ℕ
  pub climbs : Climbs (is_value sh) node_of 0 dual.u high
  pub price : dual.a < amount_limit sh.version

pub dual_climbs : (sh : Shape) (dual : Prices) → is_dual_text sh.n dual ≡ true → (version_number sh.version ≡ 1 → is_first_dual dual ≡ true) → DualClimbs sh dual
dual_climbs sh dual h first =
    let p = and_parts (is_amount dual.a) (ascends (map node_of dual.u) && list_all (is_listed sh.n) dual.u) h in
    let q = and_parts (ascends (map node_of dual.u)) (list_all (is_listed sh.n) dual.u) p.1 in
    let f : version_number sh.version ≡ 1 → (is_short dual.a ≡ true) × (list_all is_short_value dual.u ≡ true) =
    λ one. and_parts (is_short dual.a) (list_all is_short_value dual.u) (first one) in
    let climbs = climbs_from (is_value sh) node_of 0 dual.u (starts_low dual.u) q.0 (values_listed sh dual.u q.1 (λ one. (f one).1)) in
    record {
      high = climbs.0;
      climbs = climbs.1;
      price = ltb-true dual.a (amount_limit sh.version) (amount_below sh.version dual.a p.0 (λ one. (f one).0));
    }

pub starts_high : (w : List (ℕ × ℕ)) → list_all is_weight w ≡ true → StartsAt node_of 1 w
starts_high [] h = tt
starts_high (e ∷ w) h = leb-true 1 e.0 (and_parts (nat_le 1 e.0) _ (and_parts (is_weight e) (list_all is_weight w) h).0).0

pub reads_proof : (sh : Shape) (d : DualAt) (proof : CoreProof) (behind_it : grammar.Stage) → sh.n ≤ most_nodes → IsAt sh (stage_after_proof sh.n d) behind_it
    → is_proof_text sh.n proof ≡ true → Reads sh (ProofTurns d) (told_numbers (says_proof proof)) behind_it
reads_proof sh d proof behind_it few at ok =
    let lists = ways_ascend proof.ways && list_all (is_way_text sh.n) proof.ways in
    let a = and_parts (nat_le proof.turns most_turns) (nat_le 1 proof.scale && (nat_le proof.scale most_scale && lists)) ok in
    let b = and_parts (nat_le 1 proof.scale) (nat_le proof.scale most_scale && lists) a.1 in
    let c = and_parts (nat_le proof.scale most_scale) lists b.1 in
    let e = and_parts (ways_ascend proof.ways) (list_all (is_way_text sh.n) proof.ways) c.1 in
    let climb = ways_from sh.n 0 0 proof.ways (starts_behind proof.ways) e.0 e.1 in
    let most = leb-true proof.turns most_turns a.0 in
    let some = leb-true 1 proof.scale b.0 in
    let high = leb-true proof.scale most_scale c.0 in
    reads_more sh (ProofTurns d) (ProofScale d proof.turns) proof.turns ((proof.scale, Some (proof_item proof.turns proof.scale (none_left proof.ways))) ∷ told_ways proof.ways)
    behind_it (nat_le proof.turns most_turns) refl a.0 (omega arith)
    (reads_open sh (ProofScale d proof.turns) (WayFrom (way_behind d 0 0)) proof.scale (told_ways proof.ways) (proof_item proof.turns proof.scale) (stage_after_proof sh.n d) behind_it
    (within proof.scale most_scale) (none_left proof.ways) (λ last. refl) (is_within proof.scale most_scale some high) (omega arith) (λ last. refl) at
    (reads_ways sh d 0 0 proof.ways climb.first climb.last behind_it few at climb.climb))

-- the shapes of n nodes
abbrev pub first_shape : ℕ → Shape
first_shape n = record { version = First; n = n }

abbrev pub second_shape : ℕ → Shape
second_shape n = record { version = Second; n = n }

abbrev pub third_shape : ℕ → Shape
third_shape n = record { version = Third; n = n }

pub reads_size : (sh : Shape) (nodes q : ℕ) → 1 ≤ nodes → nodes ≤ most_nodes → 1 ≤ q → q ≤ nodes
    → Reads sh NodeCount ((nodes, None) ∷ (q, Some (size_item nodes q)) ∷ []) (grammar.want_cost (text_shape (record { version = sh.version; n = nodes })))
reads_size sh nodes q a b c d =
    let behind_it = grammar.want_cost (text_shape (record { version = sh.version; n = nodes })) in
    reads_more sh NodeCount (CandidateCount nodes) nodes ((q, Some (size_item nodes q)) ∷ []) behind_it (within nodes most_nodes) refl (is_within nodes most_nodes a b) (omega arith)
    (last_number sh (CandidateCount nodes) q (Some (size_item nodes q)) Cost behind_it (omega arith)
    (allows (within q nodes) true (whole_by true (Some (size_item nodes q)) Cost) (is_within q nodes c d)) (record { is = refl; names = tt }))

-- the nodes of a commodity
abbrev pub node_told : ℕ → ℕ × Option Item
node_told k = (k + 1, None)

reads_node : (sh : Shape) (place next : Place) (k : ℕ) (ts : List (ℕ × Option Item)) (behind_it : grammar.Stage) → k < sh.n → sh.n ≤ most_nodes
    → taken_by sh place (k + 1) false ≡ allowed (nat_eq (k + 1) (k + 1)) false (more_by false next) → Reads sh next ts behind_it
    → Reads sh place (node_told k ∷ ts) behind_it
reads_node sh place next k ts behind_it low few taken more =
    reads_more sh place next (k + 1) ts behind_it (nat_eq (k + 1) (k + 1)) taken (eq-eqb (k + 1) (k + 1) refl) (omega arith) more

-- what the last hub of a route gives, and where it leads to
abbrev pub route_move : Shape → Commodity → ℕ → ℕ → ScanMove
route_move sh c k m = whole_by true (Some (route_item c.from c.to k m)) (stage_after_route sh.n c)

pub reads_route : (sh : Shape) (c : Commodity) (k m : ℕ) → sh.n ≤ most_nodes → IsCommodity sh.n c → k < sh.n → m < sh.n
    → Reads sh (RouteFrom c) ((c.from + 1, None) ∷ (c.to + 1, None) ∷ (k + 1, None) ∷ (m + 1, Some (route_item c.from c.to k m)) ∷ [])
    (grammar.after_route (text_shape sh) (number_of sh.n c + 1))
reads_route sh c k m few h first last =
    let behind_it = grammar.after_route (text_shape sh) (number_of sh.n c + 1) in
    let told : ℕ × Option Item = (m + 1, Some (route_item c.from c.to k m)) in
    reads_node sh (RouteFrom c) (RouteTo c) c.from (node_told c.to ∷ (k + 1, None) ∷ told ∷ []) behind_it h.from few refl
    (reads_node sh (RouteTo c) (RouteFirst c) c.to ((k + 1, None) ∷ told ∷ []) behind_it h.to few refl
    (reads_more sh (RouteFirst c) (RouteLast c (k + 1 - 1)) (k + 1) (told ∷ []) behind_it (within (k + 1) sh.n) refl (is_within (k + 1) sh.n (omega arith) (omega arith)) (omega arith)
    (last_number sh (RouteLast c (k + 1 - 1)) (m + 1) (Some (route_item c.from c.to k m)) (stage_after_route sh.n c) behind_it (omega arith)
    (allows (within (m + 1) sh.n) true (route_move sh c (k + 1 - 1) (m + 1 - 1)) (is_within (m + 1) sh.n (omega arith) (omega arith))
    ∙ (λ i. route_move sh c (node_back k i) (node_back m i))) (route_at sh c h))))

-- the first dual of a cut is wanted
pub first_dual_at : (sh : Shape) (all before : ℕ) → IsSize sh.n → IsAt sh (first_dual_of all before) (grammar.want_dual (text_shape sh) all before 0 None)
first_dual_at sh all before size =
    record { is = ap (λ t. grammar.want_dual (text_shape sh) all before t None) (omega arith); names = first_commodity sh.n size.0 }

pub cut_fits : (all before : ℕ) → before < all → all ≤ most_cuts → (nat_eq (before + 1) (before + 1) && nat_le (before + 1) most_cuts) ≡ true
cut_fits all before low few =
    and_from (nat_eq (before + 1) (before + 1)) (nat_le (before + 1) most_cuts) (eq-eqb (before + 1) (before + 1) refl) (le-leb (before + 1) most_cuts (omega arith))

-- a cut of the first version
pub reads_whole_cut : (n all before : ℕ) → IsSize n → before < all → all ≤ most_cuts
    → Reads (first_shape n) (CutNumber all before) ((before + 1, Some (cut_item (before + 1) 1 true)) ∷ [])
    (grammar.want_dual (text_shape (first_shape n)) all before 0 None)
reads_whole_cut n all before size low few =
    let dual : ℕ → ScanMove = λ x. whole_by true (Some (cut_item (before + 1) 1 true)) (first_dual_of all x) in
    last_number (first_shape n) (CutNumber all before) (before + 1) (Some (cut_item (before + 1) 1 true)) (first_dual_of all before)
    (grammar.want_dual (text_shape (first_shape n)) all before 0 None) (omega arith)
    (allows (nat_eq (before + 1) (before + 1) && nat_le (before + 1) most_cuts) true (dual (before + 1 - 1)) (cut_fits all before low few)
    ∙ ap dual (node_back before))
    (first_dual_at (first_shape n) all before size)

-- and one of a later version, with its part
pub reads_cut_part : (sh : Shape) (all before part : ℕ) → IsSize sh.n → before < all → all ≤ most_cuts → 1 ≤ part → part ≤ most_part
    → cut_by sh.version all (before + 1) false ≡ more_by false (CutPart all (before + 1))
    → part_by sh.version (record { all = all; number = before + 1; part = part }) true
    ≡ whole_by true (Some (cut_item (before + 1) part true)) (first_dual_of all (before + 1 - 1))
    → Reads sh (CutNumber all before) ((before + 1, None) ∷ (part, Some (cut_item (before + 1) part true)) ∷ [])
    (grammar.want_dual (text_shape sh) all before 0 None)
reads_cut_part sh all before part size low few some most number_taken part_taken =
    let behind_it = grammar.want_dual (text_shape sh) all before 0 None in
    let dual : ℕ → ScanMove = λ x. whole_by true (Some (cut_item (before + 1) part true)) (first_dual_of all x) in
    let test = nat_eq (before + 1) (before + 1) && nat_le (before + 1) most_cuts in
    reads_more sh (CutNumber all before) (CutPart all (before + 1)) (before + 1) ((part, Some (cut_item (before + 1) part true)) ∷ []) behind_it test (ap (allowed test false) number_taken)
    (cut_fits all before low few) (omega arith)
    (last_number sh (CutPart all (before + 1)) part (Some (cut_item (before + 1) part true)) (first_dual_of all before) behind_it (omega arith)
    (allows (within part most_part) true (part_by sh.version (record { all = all; number = before + 1; part = part }) true) (is_within part most_part some most)
    ∙ part_taken ∙ ap dual (node_back before))
    (first_dual_at sh all before size))

-- the price of a run
abbrev pub told_price : LineRun → ℕ → Bool → ℕ × Option Item
told_price run a last = (a, Some (dual_item run.first.commodity.from run.first.commodity.to run.length a last))

reads_price : (sh : Shape) (subject : Subject) (a : ℕ) (u : List (ℕ × ℕ)) (high : ℕ) (behind_it : grammar.Stage) → sh.n ≤ most_nodes
    → IsAt sh (stage_after_subject sh.n subject) behind_it → a < amount_limit sh.version → Climbs (is_value sh) node_of 0 u high
    → Reads sh (DualPrice subject) (told_price (subject_run subject) a (none_left u) ∷ told_values u) behind_it
reads_price sh subject a u high behind_it few at short h =
    let run = subject_run subject in
    reads_open sh (DualPrice subject) (ValueNode subject 0) a (told_values u) (dual_item run.first.commodity.from run.first.commodity.to run.length a)
    (stage_after_subject sh.n subject) behind_it (nat_lt a (amount_limit sh.version)) (none_left u) (λ last. refl) (lt-ltb a (amount_limit sh.version) short)
    (omega (arith, short, limit_most sh.version)) (λ last. refl) at (reads_values sh subject 0 u high behind_it few at h)

pub reads_dual : (sh : Shape) (d : DualAt) (a : ℕ) (u : List (ℕ × ℕ)) (high : ℕ) (behind_it : grammar.Stage) → sh.n ≤ most_nodes → IsCommodity sh.n d.commodity
    → IsAt sh (stage_after_subject sh.n (Plain (alone d))) behind_it → a < amount_limit sh.version → Climbs (is_value sh) node_of 0 u high
    → Reads sh (DualFrom d) (node_told d.commodity.from ∷ node_told d.commodity.to ∷ told_price (alone d) a (none_left u) ∷ told_values u) behind_it
reads_dual sh d a u high behind_it few c at short h =
    let price = told_price (alone d) a (none_left u) in
    reads_node sh (DualFrom d) (DualTo d) d.commodity.from (node_told d.commodity.to ∷ price ∷ told_values u) behind_it c.from few refl
    (reads_node sh (DualTo d) (DualPrice (Plain (alone d))) d.commodity.to (price ∷ told_values u) behind_it c.to few refl
    (reads_price sh (Plain (alone d)) a u high behind_it few at short h))

-- and the dual of a marked cut
pub reads_proved : (sh : Shape) (d : DualAt) (a : ℕ) (u : List (ℕ × ℕ)) (high : ℕ) (behind_it : grammar.Stage) → sh.n ≤ most_nodes
    → IsCommodity sh.n d.commodity
    → IsAt sh (stage_after_subject sh.n (Proved d)) behind_it → a < amount_limit sh.version → Climbs (is_value sh) node_of 0 u high
    → Reads sh (ProvedFrom d) (node_told d.commodity.from ∷ node_told d.commodity.to ∷ told_price (alone d) a (none_left u) ∷ told_values u) behind_it
reads_proved sh d a u high behind_it few c at short h =
    let price = told_price (alone d) a (none_left u) in
    reads_node sh (ProvedFrom d) (ProvedTo d) d.commodity.from (node_told d.commodity.to ∷ price ∷ told_values u) behind_it c.from few refl
    (reads_node sh (ProvedTo d) (DualPrice (Proved d)) d.commodity.to (price ∷ told_values u) behind_it c.to few refl
    (reads_price sh (Proved d) a u high behind_it few at short h))

pub reads_run : (sh : Shape) (run : LineRun) (a : ℕ) (u : List (ℕ × ℕ)) (high : ℕ) (behind_it : grammar.Stage) → sh.n ≤ most_nodes → IsCommodity sh.n run.first.commodity
    → 2 ≤ run.length → IsRunOf sh run → IsAt sh (stage_after_subject sh.n (Plain run)) behind_it → a < amount_limit sh.version
    → Climbs (is_value sh) node_of 0 u high
    → Reads sh (RunFrom run.first)
    (node_told run.first.commodity.from ∷ node_told run.first.commodity.to ∷ (run.length, None) ∷ told_price run a (none_left u) ∷ told_values u) behind_it
reads_run sh run a u high behind_it few c several is at short h =
    let d = run.first in
    let price = told_price run a (none_left u) in
    let fits = is.within in
    reads_node sh (RunFrom d) (RunTo d) d.commodity.from (node_told d.commodity.to ∷ (run.length, None) ∷ price ∷ told_values u) behind_it c.from few refl
    (reads_node sh (RunTo d) (RunLength d) d.commodity.to ((run.length, None) ∷ price ∷ told_values u) behind_it c.to few refl
    (reads_more sh (RunLength d) (DualPrice (Plain run)) run.length (price ∷ told_values u) behind_it (nat_le 2 run.length && nat_le (d.commodity.to + run.length) sh.n) refl
    (and_from (nat_le 2 run.length) (nat_le (d.commodity.to + run.length) sh.n) (le-leb 2 run.length several) (le-leb (d.commodity.to + run.length) sh.n fits)) (omega arith)
    (reads_price sh (Plain run) a u high behind_it few at short h)))

-- what a branch gives, and where it leads to
abbrev pub branch_move : TreeAt → ℕ → ScanMove
branch_move t k = whole_by true (Some (branch_item k)) (stage_after_tree (t.places + 1) (t.left - 1))

pub reads_branch : (sh : Shape) (t : TreeAt) (k : ℕ) → sh.n ≤ most_nodes → k < sh.n → t.places + 1 ≤ t.left - 1
    → Reads sh (BranchNode t) ((k + 1, Some (branch_item k)) ∷ []) (grammar.after_tree (text_shape sh) (t.places + 1) (t.left - 1))
reads_branch sh t k few low room =
    last_number sh (BranchNode t) (k + 1) (Some (branch_item k)) (stage_after_tree (t.places + 1) (t.left - 1)) (grammar.after_tree (text_shape sh) (t.places + 1) (t.left - 1)) (omega arith)
    (allows (within (k + 1) sh.n && nat_lt t.places (t.left - 1)) true (branch_move t (k + 1 - 1))
    (and_from (within (k + 1) sh.n) (nat_lt t.places (t.left - 1)) (is_within (k + 1) sh.n (omega arith) (omega arith)) (lt-ltb t.places (t.left - 1) (omega arith)))
    ∙ ap (branch_move t) (node_back k)) (tree_at sh (t.places + 1) (t.left - 1))

pub reads_leaf : (sh : Shape) (t : TreeAt) (denom : ℕ) (w : List (ℕ × ℕ)) (high : ℕ) → 1 ≤ denom → denom ≤ most_denominator → may_fill t ≡ true → Climbs is_weight node_of 1 w high
    → Reads sh (Denominator t) ((denom, Some (leaf_item denom (none_left w))) ∷ told_weights w) (grammar.after_tree (text_shape sh) (t.places - 1) (t.left - 1))
reads_leaf sh t denom w high some few room h =
    let behind_it = grammar.after_tree (text_shape sh) (t.places - 1) (t.left - 1) in
    let at = tree_at sh (t.places - 1) (t.left - 1) in
    reads_open sh (Denominator t) (WeightCut t 0) denom (told_weights w) (leaf_item denom) (stage_after_filled t) behind_it (within denom most_denominator && may_fill t) (none_left w)
    (λ last. refl) (and_from (within denom most_denominator) (may_fill t) (is_within denom most_denominator some few) room) (omega arith) (λ last. refl) at
    (reads_weights sh t 0 w high behind_it at h)

-- what the last node of a commodity that is blocked gives, and where it leads to
abbrev pub block_move : TreeAt → ℕ → ℕ → ScanMove
block_move t i j = whole_by true (Some (block_item i j)) (stage_after_filled t)

pub reads_block : (sh : Shape) (t : TreeAt) (i j : ℕ) → sh.n ≤ most_nodes → i < sh.n → j < sh.n → may_fill t ≡ true
    → Reads sh (BlockFrom t) ((i + 1, None) ∷ (j + 1, Some (block_item i j)) ∷ []) (grammar.after_tree (text_shape sh) (t.places - 1) (t.left - 1))
reads_block sh t i j few first last room =
    let behind_it = grammar.after_tree (text_shape sh) (t.places - 1) (t.left - 1) in
    reads_more sh (BlockFrom t) (BlockTo t (i + 1 - 1)) (i + 1) ((j + 1, Some (block_item i j)) ∷ []) behind_it (within (i + 1) sh.n) refl (is_within (i + 1) sh.n (omega arith) (omega arith))
    (omega arith)
    (last_number sh (BlockTo t (i + 1 - 1)) (j + 1) (Some (block_item i j)) (stage_after_filled t) behind_it (omega arith)
    (allows (within (j + 1) sh.n && may_fill t) true (block_move t (i + 1 - 1) (j + 1 - 1))
    (and_from (within (j + 1) sh.n) (may_fill t) (is_within (j + 1) sh.n (omega arith) (omega arith)) room)
    ∙ (λ x. block_move t (node_back i x) (node_back j x))) (tree_at sh (t.places - 1) (t.left - 1)))
