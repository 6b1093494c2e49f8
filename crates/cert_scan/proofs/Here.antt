-- What the bytes of a line that have come say, and what one byte more may make of them.
use Rattle.std.proofs.Common.{◌≡◌, ℕ, ◌+◌, ◌^◌, ◌<◌, ◌≤◌, true, false, List, [], ◌∷◌, ◌++◌, length, take, map, flat_map, decimal, Option, Some, None, nat_eq, ◌⊎◌, inl, inr, refl, sym, ap, ◌∙◌, subst, append_assoc, append-nil, arith}
use Rattle.std.specs.Prelude.{◌-◌, IfSome, option_to_list}
use Rattle.std.specs.List.{join_with_byte}
use Rattle.std.proofs.lemmas.Bool.{false≢true}
use Rattle.std.proofs.lemmas.List.{map-append}
use Rattle.std.proofs.lemmas.List.Concat.{flat_map-append}
use Rattle.std.proofs.lemmas.List.Elements.{All-nil}
use Rattle.core_spec.specs.CoreCuts.{Way}
use Rattle.hub_spec.specs.Trees.{branch_on, leaf_of, no_hub, no_route, no_count}
use Rattle.cert_spec.specs.Lines.{Item as Line, says_version, says_size, says_cost, says_bound, says_hubs, says_route, says_cuts, says_cut, says_marked, says_dual, says_proof, says_nodes, says_tree, says_end, line_text}
use Rattle.cert_spec.specs.Text.{line_bytes}
use Rattle.cert_spec.specs.Grammar as grammar
use Rattle.cert_spec.specs.Grammar.{Wants, after, want_version, want_size, want_cost, want_bound, want_hubs, want_route, want_cuts, want_cut, want_dual, want_proved, want_proof, want_nodes, want_tree, want_end}
use Rattle.cert_spec.specs.Reading.{IsStage}
use Rattle.cert_scan.specs.Moves.{keyword_of, first_place_of, taken_by}
use Rattle.cert_scan.specs.Repeats.{ends_dual}
use Rattle.cert_scan.specs.Versions.{version_number}
use Rattle.cert_scan.specs.Scans.{shape_by}
use Rattle.cert_scan.specs.Parts.{parts_of, hub_parts, mark_parts, value_parts, way_parts, weight_parts, open_hubs, open_mark, open_values, open_ways, open_weights}
use Rattle.cert_scan.specs.Pieces.{pieces_of}
use Rattle.cert_scan.specs.Given.{IsBegun}
use Rattle.cert_scan.proofs.StagesAt.{stage_at, NamesNodes, IsAt}
use Rattle.cert_scan.proofs.Goes.{Walk, scanned, given_all, Goes, goes_append, goes_byte, state, moved}
use Rattle.cert_scan.proofs.Passing.{pass_all_goes, line_pieces_text, line_pieces_tell}
use Rattle.cert_scan.proofs.Accepts.{accepts}
use Rattle.cert_scan.proofs.Takes.{begins, led, led_takes, IsMark, stage_of_head, HasHead, front_of_head, given_of_head, front_text}
use Rattle.cert_scan.proofs.Said.{said}
use Rattle.cert_scan.proofs.Turns.{opened, is_open, InCut, Opens}
use Rattle.cert_scan.specs.declared.items.Item.{Item}
use Rattle.cert_scan.specs.declared.items.Item.TheVariants.{Hub, CoreHub, DualPair, ProofPair, LeafPair, Cut as cut_item, Dual as dual_item, Proof as proof_item, Leaf as leaf_item}
use Rattle.cert_scan.specs.declared.bytes.ScanMove.{ScanMove}
use Rattle.cert_scan.specs.declared.bytes.Position.{Position}
use Rattle.cert_scan.specs.declared.bytes.Position.TheVariants.{Start, Number, Keyword, Spoiled, Failed}
use Rattle.cert_scan.specs.declared.heads.Head.{Head}
use Rattle.cert_scan.specs.declared.heads.Head.TheVariants.{MarkWord}
use Rattle.cert_scan.specs.declared.places.Place.{Place}
use Rattle.cert_scan.specs.declared.stages.MarkAt.{MarkAt}
use Rattle.cert_scan.specs.declared.stages.Shape.{Shape}
use Rattle.cert_scan.specs.declared.stages.Stage.{Stage}
use Rattle.cert_scan.specs.declared.stages.Stage.TheVariants.{Hubs, Cut, Dual, ProvedDual, Proof, Tree, Nothing}

-- ---- what is given of a line

pub begun_none : (sh : Shape) (stage : Stage) → IsBegun (stage_at sh stage) []
begun_none sh Hubs = record { hubs = []; are = refl; ascend = λ k h. absurd (omega (arith, h)); nodes = All-nil (λ k. k < sh.n) }
begun_none sh (Cut all before) = inl refl
begun_none sh (Dual d) = inl refl
begun_none sh (ProvedDual d) = inl refl
begun_none sh (Proof d) = inl refl
begun_none sh (Tree t) = inl refl
begun_none sh stage = refl

pub begun_nothing : (sh : Shape) (stage : Stage) (given : List Item) → given ≡ [] → IsBegun (stage_at sh stage) given
begun_nothing sh stage given e = subst (IsBegun (stage_at sh stage)) (sym e) (begun_none sh stage)

-- of a marked cut, of which no hub has come
begun_mark : (sh : Shape) (at : MarkAt) → IsMark sh at → IsBegun (stage_at sh (Cut at.all (at.number - 1))) (cut_item at.number at.part false ∷ [])
begun_mark sh at mark =
    let some = mark.number in
    let is : at.number ≡ at.number - 1 + 1 = omega arith in
    inr (record {
      part = at.part;
      hubs = [];
      are = ap (λ number. cut_item number at.part false ∷ []) is;
      third = ap version_number mark.third;
      some = mark.some;
      most = mark.most;
      ascend = λ k h. absurd (omega (arith, h));
      nodes = All-nil (λ k. k < sh.n);
    })

-- the items of a list, where the line goes on behind each
opened_hubs : (hubs : List ℕ) → map opened (hub_parts hubs) ≡ open_hubs hubs
opened_hubs [] = refl
opened_hubs (k ∷ rest) = ap (λ l. Hub k false ∷ l) (opened_hubs rest)

opened_mark : (hubs : List ℕ) → map opened (mark_parts hubs) ≡ open_mark hubs
opened_mark [] = refl
opened_mark (k ∷ rest) = ap (λ l. CoreHub k false ∷ l) (opened_mark rest)

opened_values : (u : List (ℕ × ℕ)) → map opened (value_parts u) ≡ open_values u
opened_values [] = refl
opened_values (e ∷ rest) = ap (λ l. DualPair e.0 e.1 false ∷ l) (opened_values rest)

opened_ways : (ways : List Way) → map opened (way_parts ways) ≡ open_ways ways
opened_ways [] = refl
opened_ways (w ∷ rest) = ap (λ l. ProofPair w.0 w.1 w.2 false ∷ l) (opened_ways rest)

opened_weights : (w : List (ℕ × ℕ)) → map opened (weight_parts w) ≡ open_weights w
opened_weights [] = refl
opened_weights (e ∷ rest) = ap (λ l. LeafPair e.0 e.1 false ∷ l) (opened_weights rest)

-- one item alone is no item of a list
not_alone : (x item : Item) (given : List Item) → is_open x ≡ false → is_open item ≡ true → x ∷ [] ≡ given ++ item ∷ [] → ⊥
not_alone x item [] closed o e = (let same : x ≡ item = cc in false≢true (sym closed ∙ ap is_open same ∙ o))
not_alone x item (y ∷ []) closed o e = cc
not_alone x item (y ∷ z ∷ given) closed o e = cc

-- the items of a line that may stand there, where it goes on behind an item of a list
begun_open : (stage : grammar.Stage) (line : Line) (given : List Item) (item : Item) → Wants stage line → is_open item ≡ true
    → map opened (parts_of line) ≡ given ++ item ∷ [] → IsBegun stage (given ++ item ∷ [])
begun_open (want_hubs s) (says_hubs hubs) given item w o e = record { hubs = hubs; are = sym e ∙ opened_hubs hubs; ascend = w.1; nodes = w.2 }
begun_open (want_cut s all x) (says_marked number part hubs) given item w o e = inr (record {
  part = part;
  hubs = hubs;
  are = sym e ∙ (λ i. cut_item (w.0 i) part false ∷ opened_mark hubs i);
  third = w.1.0;
  some = w.1.1;
  most = w.1.2;
  ascend = w.1.3.ascend;
  nodes = w.1.3.nodes;
})
begun_open (want_dual s all x t before) (says_dual commodity run dual) given item w o e = inr (record {
  dual = dual;
  run = run;
  are = sym e ∙ (λ i. opened (dual_item (w.0 i).0 (w.0 i).1 run dual.a false) ∷ opened_values dual.u i);
  is_run = w.1;
  in_range = w.2;
  first = w.3;
})
begun_open (want_proved s all x t) (says_dual commodity run dual) given item w o e = inr (record {
  dual = dual;
  are = sym e ∙ (λ i. dual_item (w.0 i).0 (w.0 i).1 (w.1 i) dual.a false ∷ opened_values dual.u i);
  in_range = w.2;
})
begun_open (want_proof s all x t) (says_proof proof) given item w o e = inr (record {
  proof = proof;
  are = sym e ∙ ap (λ l. proof_item proof.turns proof.scale false ∷ l) (opened_ways proof.ways);
  in_range = w;
})
begun_open (want_tree s places left) (says_tree (leaf_of denom weights)) given item w o e = inr (record {
  denom = denom;
  weights = weights;
  are = sym e ∙ ap (λ l. leaf_item denom false ∷ l) (opened_weights weights);
  in_range = w.0;
})
begun_open want_version (says_version v) given item w o e = absurd (not_alone _ item given refl o e)
begun_open (want_size v) (says_size n q) given item w o e = absurd (not_alone _ item given refl o e)
begun_open (want_cost s) (says_cost c) given item w o e = absurd (not_alone _ item given refl o e)
begun_open (want_bound s) (says_bound b) given item w o e = absurd (not_alone _ item given refl o e)
begun_open (want_route s t) (says_route commodity route) given item w o e = absurd (not_alone _ item given refl o e)
begun_open (want_cuts s) (says_cuts all) given item w o e = absurd (not_alone _ item given refl o e)
begun_open (want_cut s all x) (says_cut number part) given item w o e = absurd (not_alone _ item given refl o e)
begun_open (want_nodes s) (says_nodes all) given item w o e = absurd (not_alone _ item given refl o e)
begun_open (want_tree s places left) (says_tree (branch_on k)) given item w o e = absurd (not_alone _ item given refl o e)
begun_open (want_tree s places left) (says_tree no_hub) given item w o e = absurd (not_alone _ item given refl o e)
begun_open (want_tree s places left) (says_tree (no_route commodity)) given item w o e = absurd (not_alone _ item given refl o e)
begun_open (want_tree s places left) (says_tree no_count) given item w o e = absurd (not_alone _ item given refl o e)
begun_open want_end says_end given item w o e = absurd (not_alone _ item given refl o e)
begun_open stage line given item w o e = absurd w

-- ---- the bytes of a line

pub front_more : (word ns : List ℕ) (m : ℕ) → front_text word ns ++ (decimal m ++ 32 ∷ []) ≡ front_text word (ns ++ m ∷ [])
front_more word ns m = append_assoc word (32 ∷ flat_map (λ m. decimal m ++ 32 ∷ []) ns) (decimal m ++ 32 ∷ [])
    ∙ ap (λ l. word ++ 32 ∷ l) (ap (λ l. flat_map (λ m. decimal m ++ 32 ∷ []) ns ++ l) (sym (append-nil (decimal m ++ 32 ∷ []))) ∙ sym (flat_map-append (λ m. decimal m ++ 32 ∷ []) ns (m ∷ [])))

front_end : (word ns : List ℕ) (m : ℕ) → front_text word ns ++ (decimal m ++ 10 ∷ []) ≡ join_with_byte 32 (word ∷ map decimal (ns ++ m ∷ [])) ++ 10 ∷ []
front_end word [] m = append_assoc word (32 ∷ []) (decimal m ++ 10 ∷ []) ∙ sym (append_assoc word (32 ∷ decimal m) (10 ∷ []))
front_end word (k ∷ ns) m =
    append_assoc word (32 ∷ flat_map (λ m. decimal m ++ 32 ∷ []) (k ∷ ns)) (decimal m ++ 10 ∷ [])
    ∙ ap (λ l. word ++ 32 ∷ (l ++ (decimal m ++ 10 ∷ []))) (append_assoc (decimal k) (32 ∷ []) (flat_map (λ m. decimal m ++ 32 ∷ []) ns))
    ∙ ap (λ l. word ++ 32 ∷ l) (front_end (decimal k) ns m)
    ∙ sym (append_assoc word (32 ∷ join_with_byte 32 (map decimal (k ∷ (ns ++ m ∷ [])))) (10 ∷ []))

pub line_ends : (line : Line) (word ns : List ℕ) (m : ℕ) → line_text line ≡ join_with_byte 32 (word ∷ map decimal (ns ++ m ∷ []))
    → front_text word ns ++ (decimal m ++ 10 ∷ []) ≡ line_bytes line
line_ends line word ns m text = front_end word ns m ∙ ap (λ l. l ++ 10 ∷ []) (sym text)

-- the digits of a number that have come
pub record DigitsAre (v : ℕ) (digits : List ℕ) : Type 0 where
  pub spelled : digits ≡ decimal v
  pub short : v < 10 ^ 33

abbrev pub IsSpelled : Option ℕ → List ℕ → Type 0
IsSpelled None digits = digits ≡ []
IsSpelled (Some v) digits = DigitsAre v digits

pub record KeywordIs (sh : Shape) (stage : Stage) (head : Head) (matched : ℕ) (bytes : List ℕ) (given : List Item) : Type 0 where
  pub stage_is : stage_of_head head ≡ stage
  pub known : HasHead sh head
  pub few : matched ≤ length (keyword_of head)
  pub text : bytes ≡ front_of_head head ++ take matched (keyword_of head)
  pub given_is : given ≡ given_of_head head

pub record NumberIs (sh : Shape) (stage : Stage) (place : Place) (value : Option ℕ) (bytes : List ℕ) (given : List Item) : Type 0 where
  pub head : Head
  pub stage_is : stage_of_head head ≡ stage
  pub known : HasHead sh head
  pub ns : List ℕ
  pub digits : List ℕ
  pub text : bytes ≡ front_text (front_of_head head ++ keyword_of head) ns ++ digits
  pub spelled : IsSpelled value digits
  pub leads : led sh (first_place_of head) ns ≡ Some place
  pub begun : IsBegun (stage_at sh stage) given
  pub still : map opened given ≡ given
  pub cut : InCut place head ns given

-- what was given before a word of the line
head_begun : (sh : Shape) (head : Head) → HasHead sh head → IsBegun (stage_at sh (stage_of_head head)) (given_of_head head)
head_begun sh (MarkWord at) known = begun_mark sh at known
head_begun sh head known = begun_none sh (stage_of_head head)

pub word_begun : (sh : Shape) (stage : Stage) (head : Head) (given : List Item) → stage_of_head head ≡ stage → HasHead sh head → given ≡ given_of_head head
    → IsBegun (stage_at sh stage) given
word_begun sh stage head given is known given_is =
    subst (λ x. IsBegun (stage_at sh x) given) is (subst (IsBegun (stage_at sh (stage_of_head head))) (sym given_is) (head_begun sh head known))

-- what the bytes of a line at this stage, which have led to a position, say
abbrev pub Here : Shape → Stage → Position → List ℕ → List Item → Type 0
Here sh stage (Start at) bytes given = (at ≡ stage) × (bytes ≡ []) × (given ≡ [])
Here sh stage (Keyword head matched) bytes given = KeywordIs sh stage head matched bytes given
Here sh stage (Number place value) bytes given = NumberIs sh stage place value bytes given
Here sh stage position bytes given = IsBegun (stage_at sh stage) given

pub here_begun : (sh : Shape) (stage : Stage) (position : Position) (bytes : List ℕ) (given : List Item) → Here sh stage position bytes given
    → IsBegun (stage_at sh stage) given
here_begun sh stage (Start at) bytes given h = begun_nothing sh stage given h.2
here_begun sh stage (Keyword head matched) bytes given h = word_begun sh stage head given h.stage_is h.known h.given_is
here_begun sh stage (Number place value) bytes given h = h.begun
here_begun sh stage Spoiled bytes given h = h
here_begun sh stage Failed bytes given h = h

-- ---- the end of a line

-- the bytes of a line are one that may stand there, and gave its items; the stage is that behind it
pub record LineEnds (sh : Shape) (stage : Stage) (bytes : List ℕ) (given : List Item) (next : ScanMove) : Type 0 where
  pub line : Line
  pub wanted : Wants (stage_at sh stage) line
  pub text : bytes ≡ line_bytes line
  pub parts : given ≡ parts_of line
  pub at : Stage
  pub position : next.position ≡ Start at
  pub behind : IsAt (shape_by sh next.item) at (after (stage_at sh stage) line)

ends_there : (sh : Shape) (stage : Stage) (bytes : List ℕ) (given : List Item) (next : ScanMove) (line : Line) → IsStage (stage_at sh stage) → NamesNodes sh stage
    → Wants (stage_at sh stage) line → bytes ≡ line_bytes line → Goes (state sh 0 (Start stage)) bytes given (moved sh 0 next)
    → LineEnds sh stage bytes given next
ends_there sh stage bytes given next line s names w text g =
    let start = state sh 0 (Start stage) in
    let ends = accepts sh 0 stage line names s w in
    let goes = pass_all_goes (state sh 0 (Start stage)) (state ends.shape ends.line (Start ends.stage)) (pieces_of line) ends.passes in
    let same = text ∙ sym (line_pieces_text line) in
    let end : moved sh 0 next ≡ state ends.shape ends.line (Start ends.stage) = sym g.scan ∙ ap (scanned (state sh 0 (Start stage))) same ∙ goes.scan in
    record {
      line = line;
      wanted = w;
      text = text;
      parts = sym g.items ∙ ap (given_all (state sh 0 (Start stage))) same ∙ goes.items ∙ line_pieces_tell line;
      at = ends.stage;
      position = ap (λ (a : Walk). a.position) end;
      behind = subst (λ x. IsAt x ends.stage (after (stage_at sh stage) line)) (sym (ap (λ (a : Walk). a.shape) end)) ends.behind;
    }

-- the line may end behind a number
pub number_ends : (sh : Shape) (stage : Stage) (place : Place) (v : ℕ) (bytes : List ℕ) (given : List Item) → IsStage (stage_at sh stage) → NamesNodes sh stage
    → NumberIs sh stage place (Some v) bytes given → Goes (state sh 0 (Start stage)) bytes given (state sh 0 (Number place (Some v)))
    → begins (taken_by sh place v true).position ≡ true
    → LineEnds sh stage (bytes ++ 10 ∷ []) (given ++ option_to_list (taken_by sh place v true).item) (taken_by sh place v true)
number_ends sh stage place v bytes given s names h g b =
    let next = taken_by sh place v true in
    let word = front_of_head h.head ++ keyword_of h.head in
    let takes = led_takes sh (first_place_of h.head) h.ns place v h.leads b in
    let names_there = subst (NamesNodes sh) (sym h.stage_is) names in
    let is = said sh h.head (h.ns ++ v ∷ []) h.known names_there takes in
    let text : bytes ++ 10 ∷ [] ≡ front_text (front_of_head h.head ++ keyword_of h.head) h.ns ++ (decimal v ++ 10 ∷ []) =
    ap (λ b. b ++ 10 ∷ []) (h.text ∙ ap (λ d. front_text word h.ns ++ d) h.spelled.spelled) ∙ append_assoc (front_text word h.ns) (decimal v) (10 ∷ []) in
    ends_there sh stage (bytes ++ 10 ∷ []) (given ++ option_to_list (taken_by sh place v true).item) (taken_by sh place v true) is.line s names
    (subst (λ x. Wants (stage_at sh x) is.line) h.stage_is is.wanted) (text ∙ line_ends is.line word h.ns v is.text)
    (goes_append (state sh 0 (Start stage)) (state sh 0 (Number place (Some v))) (moved sh 0 (taken_by sh place v true)) bytes (10 ∷ []) given
    (option_to_list (taken_by sh place v true).item) g (goes_byte sh 0 (Number place (Some v)) 10 (taken_by sh place v true) refl))

-- where an item of a list is given, its line may also end there
pub opens_begun : (sh : Shape) (stage : Stage) (place next : Place) (v : ℕ) (bytes : List ℕ) (given : List Item) (item : Item) → IsStage (stage_at sh stage)
    → NamesNodes sh stage → NumberIs sh stage place (Some v) bytes given → Goes (state sh 0 (Start stage)) bytes given (state sh 0 (Number place (Some v)))
    → Opens sh (taken_by sh place v true) next item → IsBegun (stage_at sh stage) (given ++ item ∷ [])
opens_begun sh stage place next v bytes given item s names h g o =
    let e = number_ends sh stage place v bytes given s names h g o.may_end in
    let last : given ++ option_to_list (taken_by sh place v true).item ≡ given ++ o.last ∷ [] = ap (λ x. given ++ option_to_list x) o.gives in
    begun_open (stage_at sh stage) e.line given item e.wanted o.listed
    (ap (map opened) (sym e.parts ∙ last) ∙ map-append opened given (o.last ∷ []) ∙ (λ i. h.still i ++ o.is_opened i ∷ []))

-- ---- what one byte more makes of a line

-- the line has ended, and may stand there
pub record Whole (sh : Shape) (stage at : Stage) (byte : ℕ) (bytes : List ℕ) (given : List Item) (item : Option Item) : Type 0 where
  pub feed : byte ≡ 10
  pub line : Line
  pub wanted : Wants (stage_at sh stage) line
  pub text : bytes ≡ line_bytes line
  pub parts : given ++ option_to_list item ≡ parts_of line
  pub behind : IsAt (shape_by sh item) at (after (stage_at sh stage) line)

-- it has ended, or nothing may stand there
pub record Bad (sh : Shape) (stage : Stage) (byte : ℕ) (given : List Item) (item : Option Item) : Type 0 where
  pub ends : (byte ≡ 10) ⊎ (stage ≡ Nothing)
  pub none : item ≡ None
  pub begun : IsBegun (stage_at sh stage) given

-- it goes on
pub record Goes_on (sh : Shape) (stage : Stage) (byte : ℕ) (position : Position) (bytes : List ℕ) (given : List Item) (item : Option Item) : Type 0 where
  pub no_feed : nat_eq byte 10 ≡ false
  pub some : stage ≡ Nothing → ⊥
  pub same : shape_by sh item ≡ sh
  pub quiet : IfSome item (λ x. ends_dual x ≡ false)
  pub here : Here sh stage position bytes (given ++ option_to_list item)

abbrev pub AfterAt : Shape → Stage → ℕ → List ℕ → List Item → Option Item → Position → Type 0
AfterAt sh stage byte bytes given item (Start at) = Whole sh stage at byte bytes given item
AfterAt sh stage byte bytes given item Failed = Bad sh stage byte given item
AfterAt sh stage byte bytes given item position = Goes_on sh stage byte position bytes given item

-- what a move by a byte makes of the line; the bytes are those with it
abbrev pub After : Shape → Stage → ℕ → List ℕ → List Item → ScanMove → Type 0
After sh stage byte bytes given next = AfterAt sh stage byte bytes given next.item next.position
