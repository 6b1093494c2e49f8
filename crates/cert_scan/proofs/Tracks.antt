-- How far a text has been scanned.
use Rattle.std.proofs.Common.{◌≡◌, ◌≢◌, true, ◌&&◌, ◌||◌, Some, ℕ, ◌+◌, ◌-◌, ◌^◌, ◌<◌, ◌≤◌, false, List, [], ◌∷◌, ◌++◌, length, flat_map, All, Option, None, nat_lt, nat_eq, ◌⊎◌, inl, inr, refl, sym, ap, ◌∙◌, subst, append_assoc, append-nil, arith}
use Rattle.std.specs.Prelude.{IfSome, option_to_list}
use Rattle.std.specs.List.{AllByRecursion}
use Rattle.std.proofs.lemmas.Bool.{cond-true, cond_both, lt-ltb, false≢true}
use Rattle.std.proofs.lemmas.List.{length-append}
use Rattle.std.proofs.lemmas.List.Concat.{flat_map-append}
use Rattle.std.proofs.lemmas.List.Elements.{All-nil, All-cons, All-append}
use Rattle.cert_spec.specs.Lines.{Item as Line, line_text}
use Rattle.cert_spec.specs.Text.{line_bytes}
use Rattle.cert_spec.specs.Grammar as grammar
use Rattle.cert_spec.specs.Grammar.{want_version, Wants, after, Leads, IsLine}
use Rattle.cert_spec.specs.Reading.{IsStage}
use Rattle.cert_spec.proofs.Leads.{Leads-append}
use Rattle.cert_spec.proofs.Wanted.{one_item, line_has_no_feed}
use Rattle.cert_spec.proofs.Stages.{stage_after}
use Rattle.cert_scan.specs.Moves.{moved_by, refusal}
use Rattle.cert_scan.specs.Scans as scan
use Rattle.cert_scan.specs.Scans.{new_shape, shape_by, line_by, new_scan}
use Rattle.cert_scan.specs.Repeats.{DualSoFar, no_dual, ends_dual, is_repeated, noted, noted_by, repeats_by}
use Rattle.cert_scan.proofs.Goes.{Walk, stepped, scanned, given_all, scanned-append, given_all-append, state}
use Rattle.cert_scan.proofs.Repeated.{noted_all, noted_all-append, shape_all, shape_all-append, repeats_in, repeats_in-append, line_repeats, dual_repeats, noted_one, none_repeats, repeats_one, shape_one}
use Rattle.cert_scan.proofs.Tight.{wanted_at, Agrees, agrees_next, untight, tight_wants, wanted_repeats, wanted_stage, wanted_begun, wanted_next}
use Rattle.cert_scan.specs.Parts.{parts_of}
use Rattle.cert_scan.specs.Pieces.{pieces_of}
use Rattle.cert_scan.specs.Given.{IsBegun, IsGiven}
use Rattle.cert_scan.specs.Scanned.{HasScanned}
use Rattle.cert_scan.proofs.StagesAt.{stage_at, NamesNodes}
use Rattle.cert_scan.proofs.Passing.{pass_all_goes, line_pieces_text}
use Rattle.cert_scan.proofs.Accepts.{accepts}
use Rattle.cert_scan.proofs.Here.{begun_none, Here, here_begun, Whole, Goes_on, AfterAt, After}
use Rattle.cert_scan.proofs.OneByte.{moves}
use Rattle.cert_scan.specs.declared.items.Item.{Item}
use Rattle.cert_scan.specs.declared.bytes.ScanMove.{ScanMove}
use Rattle.cert_scan.specs.declared.bytes.Position.{Position}
use Rattle.cert_scan.specs.declared.bytes.Position.TheVariants.{Start, Failed}
use Rattle.cert_scan.specs.declared.items.Version.{Version as TextVersion}
use Rattle.cert_scan.specs.declared.items.Version.TheVariants.{First, Second, Third}
use Rattle.cert_scan.specs.declared.stages.Shape.{Shape}
use Rattle.cert_scan.specs.declared.stages.Stage.{Stage}
use Rattle.cert_scan.specs.declared.stages.Stage.TheVariants.{Version, Nothing}
use Rattle.cert_scan.specs.declared.scanner.Scan.{Scan}

-- bytes without a line feed
abbrev pub ArePlain : List ℕ → Type 0
ArePlain bytes = All (λ b. nat_eq b 10 ≡ false) bytes

-- a line of which bytes have come is one that may stand there
abbrev pub Busy : Stage → Position → Type 0
Busy stage (Start at) = Unit {0}
Busy stage position = stage ≡ Nothing → ⊥

-- a line stands, of which these bytes have come, behind lines of this shape with this dual held
pub record InLine (start : Shape) (held : DualSoFar) (stage : Stage) (sh : Shape) (so_far : DualSoFar) (position : Position) (sofar : List ℕ) (more : List Item) : Type 0 where
  pub same : sh ≡ start
  pub here : Here start stage position sofar more
  pub busy : Busy stage position
  pub plain : ArePlain sofar
  pub came : (line : ℕ) → scanned (state start line (Start stage)) sofar ≡ state start line position
  pub gave : given_all (state start 0 (Start stage)) sofar ≡ more
  pub holds : so_far ≡ noted_all start held more
  pub quiet : repeats_in start held more ≡ false
  pub kept : shape_all start more ≡ start

-- these bytes begin with a whole line that may not stand at this stage of the grammar
pub record BadLineAt (wanted : grammar.Stage) (sofar : List ℕ) : Type 0 where
  pub part : List ℕ
  pub rest : List ℕ
  pub text : sofar ≡ part ++ 10 ∷ rest
  pub plain : ArePlain part
  pub none : (item : Line) → IsLine wanted part item → ⊥

-- a line was bad, or something stands behind the last line
abbrev pub HasFailed : grammar.Stage → Stage → List ℕ → Type 0
HasFailed wanted stage sofar = BadLineAt wanted sofar ⊎ ((stage ≡ Nothing) × (sofar ≢ []))

abbrev pub Now : Shape → DualSoFar → Stage → Shape → DualSoFar → List ℕ → List Item → Position → Type 0
Now start held stage sh so_far sofar more Failed = HasFailed (wanted_at start held stage) stage sofar
Now start held stage sh so_far sofar more position = InLine start held stage sh so_far position sofar more

-- whole lines have come, and some bytes behind them
pub record Tracks (bytes : List ℕ) (given : List Item) (sh : Shape) (line : ℕ) (position : Position) (so_far : DualSoFar) : Type 0 where
  pub lines : List Line
  -- the shape and the dual behind the lines
  pub shape : Shape
  pub held : DualSoFar
  pub stage : Stage
  pub sofar : List ℕ
  pub more : List Item
  pub lead : Leads want_version lines (wanted_at shape held stage)
  pub names : NamesNodes shape stage
  pub agrees : Agrees (stage_at shape stage) held
  pub front : bytes ≡ flat_map line_bytes lines ++ sofar
  pub parts : given ≡ flat_map parts_of lines ++ more
  pub begun : IsBegun (wanted_at shape held stage) more
  pub count : length lines ≤ length bytes
  pub line_is : length bytes < 2 ^ 64 - 1 → line ≡ length lines + 1
  pub now : Now shape held stage sh so_far sofar more position

pub stage_led : (first last : grammar.Stage) (items : List Line) → IsStage first → Leads first items last → IsStage last
stage_led first last [] s h = subst IsStage h s
stage_led first last (item ∷ items) s h = stage_led (after first item) last items (stage_after first item s h.0) h.1

line_begins : (sh : Shape) (so_far : DualSoFar) (stage : Stage) → InLine sh so_far stage sh so_far (Start stage) [] []
line_begins sh so_far stage = record {
  same = refl;
  here = (refl, refl, refl);
  busy = tt;
  plain = All-nil (λ b. nat_eq b 10 ≡ false);
  came = λ line. refl;
  gave = refl;
  holds = refl;
  quiet = refl;
  kept = refl;
}

pub tracks_new : Tracks [] [] new_shape 1 (Start Version) no_dual
tracks_new = record {
  lines = [];
  shape = new_shape;
  held = no_dual;
  stage = Version;
  sofar = [];
  more = [];
  lead = refl;
  names = tt;
  agrees = tt;
  front = refl;
  parts = refl;
  begun = refl;
  count = omega arith;
  line_is = λ few. refl;
  now = line_begins new_shape no_dual Version;
}

-- ---- one byte more

snoc_front : (bytes front sofar : List ℕ) (byte : ℕ) → bytes ≡ front ++ sofar → bytes ++ byte ∷ [] ≡ front ++ (sofar ++ byte ∷ [])
snoc_front bytes front sofar byte e = ap (λ b. b ++ byte ∷ []) e ∙ append_assoc front sofar (byte ∷ [])

more_given : (given front more : List Item) (item : Option Item) → given ≡ front ++ more → given ++ option_to_list item ≡ front ++ (more ++ option_to_list item)
more_given given front more item e = ap (λ g. g ++ option_to_list item) e ∙ append_assoc front more (option_to_list item)

counted : (line lines : ℕ) (s : Stage) → line ≡ lines + 1 → lines + 1 < 2 ^ 64 - 1 → line_by line (Start s) ≡ lines + 1 + 1
counted line lines s e few = cond-true (nat_lt line 18446744073709551615) (line + 1) line (lt-ltb line 18446744073709551615 (omega arith)) ∙ omega arith

-- ---- what an item leaves

-- with an item in a line
item_noted : {start sh : Shape} {held so_far : DualSoFar} {stage : Stage} {position : Position} {sofar : List ℕ} {more : List Item} (item : Option Item)
    → InLine start held stage sh so_far position sofar more → noted_by sh.version so_far item ≡ noted_all start held (more ++ option_to_list item)
item_noted {start = start} {held = held} {more = more} item now =
    (λ i. noted_by (now.same i).version (now.holds i) item) ∙ sym (noted_one start (noted_all start held more) item)
    ∙ ap (λ s. noted_all s (noted_all start held more) (option_to_list item)) (sym now.kept) ∙ sym (noted_all-append start held more (option_to_list item))

item_repeats : {start sh : Shape} {held so_far : DualSoFar} {stage : Stage} {position : Position} {sofar : List ℕ} {more : List Item} (item : Option Item)
    → InLine start held stage sh so_far position sofar more → repeats_in start held (more ++ option_to_list item) ≡ repeats_by sh.version so_far item
item_repeats {start = start} {held = held} {so_far = so_far} {more = more} item now =
    repeats_in-append start held more (option_to_list item)
    ∙ (λ i. now.quiet i || repeats_in (now.kept i) (sym now.holds i) (option_to_list item)) ∙ repeats_one start so_far item
    ∙ (λ i. repeats_by (sym now.same i).version so_far item)

item_shape : {start sh : Shape} {held so_far : DualSoFar} {stage : Stage} {position : Position} {sofar : List ℕ} {more : List Item} (item : Option Item)
    → InLine start held stage sh so_far position sofar more → shape_all start (more ++ option_to_list item) ≡ shape_by start item
item_shape {start = start} {more = more} item now =
    shape_all-append start more (option_to_list item) ∙ ap (λ s. shape_all s (option_to_list item)) now.kept ∙ shape_one start item

-- ---- a line has ended

line_ended : {bytes : List ℕ} {given : List Item} {sh : Shape} {line : ℕ} {position : Position} {so_far : DualSoFar} (byte : ℕ) (item : Option Item) (s : Stage)
    (h : Tracks bytes given sh line position so_far) → InLine h.shape h.held h.stage sh so_far position h.sofar h.more → IsStage (stage_at h.shape h.stage)
    → repeats_by sh.version so_far item ≡ false → Whole h.shape h.stage s byte (h.sofar ++ byte ∷ []) h.more item
    → Tracks (bytes ++ byte ∷ []) (given ++ option_to_list item) (shape_by sh item) (line_by line (Start s)) (Start s) (noted_by sh.version so_far item)
line_ended {bytes = bytes} {given = given} {sh = sh} {line = line} {so_far = so_far} byte item s h now size quiet w =
    let next = noted_by sh.version so_far item in
    let repeats : dual_repeats h.shape.version h.held w.line ≡ false =
    sym (line_repeats h.shape h.held w.line) ∙ ap (repeats_in h.shape h.held) (sym w.parts) ∙ item_repeats item now ∙ quiet in
    let held : noted_all h.shape h.held (parts_of w.line) ≡ noted_by sh.version so_far item =
    ap (noted_all h.shape h.held) (sym w.parts) ∙ sym (item_noted item now) in
    let told : shape_by h.shape item ≡ shape_by sh item = ap (λ x. shape_by x item) (sym now.same) in
    let behind : after (wanted_at h.shape h.held h.stage) w.line ≡ wanted_at (shape_by sh item) (noted_by sh.version so_far item) s =
    wanted_next h.shape (shape_by h.shape item) h.held h.stage s w.line size w.wanted w.behind ∙ (λ i. wanted_at (told i) (held i) s) in
    record {
      lines = h.lines ++ w.line ∷ [];
      shape = shape_by sh item;
      held = noted_by sh.version so_far item;
      stage = s;
      sofar = [];
      more = [];
      lead = Leads-append want_version (wanted_at h.shape h.held h.stage) (wanted_at (shape_by sh item) next s) h.lines (w.line ∷ []) h.lead
          (tight_wants h.shape h.held h.stage w.line w.wanted repeats h.agrees, behind);
      names = subst (λ x. NamesNodes x s) told w.behind.names;
      agrees = subst (λ x. Agrees (stage_at x s) (noted_by sh.version so_far item)) told (subst (Agrees (stage_at (shape_by h.shape item) s)) held
          (agrees_next h.shape (shape_by h.shape item) h.held h.stage s w.line w.wanted h.agrees w.behind));
      front = snoc_front bytes (flat_map line_bytes h.lines) h.sofar byte h.front ∙ ap (λ t. flat_map line_bytes h.lines ++ t) (w.text ∙ sym (append-nil (line_bytes w.line)))
          ∙ sym (flat_map-append line_bytes h.lines (w.line ∷ [])) ∙ sym (append-nil (flat_map line_bytes (h.lines ++ w.line ∷ [])));
      parts = more_given given (flat_map parts_of h.lines) h.more item h.parts ∙ ap (λ t. flat_map parts_of h.lines ++ t) (w.parts ∙ sym (append-nil (parts_of w.line)))
          ∙ sym (flat_map-append parts_of h.lines (w.line ∷ [])) ∙ sym (append-nil (flat_map parts_of (h.lines ++ w.line ∷ [])));
      begun = wanted_begun (shape_by sh item) next s [] (begun_none (shape_by sh item) s);
      count = omega (arith, length-append h.lines (w.line ∷ []), length-append bytes (byte ∷ []), h.count);
      line_is = λ few. (let long = length-append bytes (byte ∷ []) in
          let fits : length bytes < 2 ^ 64 - 1 = omega arith in
          let count = h.count in
          counted line (length h.lines) s (h.line_is fits) (omega arith) ∙ omega (arith, length-append h.lines (w.line ∷ [])));
      now = line_begins (shape_by sh item) next s;
    }

-- what stays where no line has ended
abbrev stays : {bytes : List ℕ} {given : List Item} {sh : Shape} {line : ℕ} {position : Position} {so_far : DualSoFar} (byte : ℕ) (item : Option Item) (m : Shape) (l : ℕ)
    (next : Position) (held : DualSoFar) (h : Tracks bytes given sh line position so_far) → (length bytes < 2 ^ 64 - 1 → l ≡ length h.lines + 1)
    → IsBegun (wanted_at h.shape h.held h.stage) (h.more ++ option_to_list item)
    → Now h.shape h.held h.stage m held (h.sofar ++ byte ∷ []) (h.more ++ option_to_list item) next
    → Tracks (bytes ++ byte ∷ []) (given ++ option_to_list item) m l next held
stays {bytes = bytes} {given = given} byte item m l next held h line begun now = record {
  lines = h.lines;
  shape = h.shape;
  held = h.held;
  stage = h.stage;
  sofar = h.sofar ++ byte ∷ [];
  more = h.more ++ option_to_list item;
  lead = h.lead;
  names = h.names;
  agrees = h.agrees;
  front = snoc_front bytes (flat_map line_bytes h.lines) h.sofar byte h.front;
  parts = more_given given (flat_map parts_of h.lines) h.more item h.parts;
  begun = begun;
  count = omega (arith, length-append bytes (byte ∷ []), h.count);
  line_is = λ few. (let long = length-append bytes (byte ∷ []) in let fits : length bytes < 2 ^ 64 - 1 = omega arith in line fits);
  now = now;
}

came_more : (nodes : Shape) (stage : Stage) (position : Position) (sofar : List ℕ) (byte line : ℕ) (next : Walk) → scanned (state nodes line (Start stage)) sofar ≡ state nodes line position
    → stepped (state nodes line position) byte ≡ next → scanned (state nodes line (Start stage)) (sofar ++ byte ∷ []) ≡ next
came_more nodes stage position sofar byte line next came e =
    scanned-append (state nodes line (Start stage)) sofar (byte ∷ []) ∙ ap (λ s. scanned s (byte ∷ [])) came ∙ e

gave_more : (nodes : Shape) (stage : Stage) (position : Position) (sofar : List ℕ) (more : List Item) (byte : ℕ) (item : Option Item)
    → scanned (state nodes 0 (Start stage)) sofar ≡ state nodes 0 position → given_all (state nodes 0 (Start stage)) sofar ≡ more
    → (moved_by nodes position byte).item ≡ item → given_all (state nodes 0 (Start stage)) (sofar ++ byte ∷ []) ≡ more ++ option_to_list item
gave_more nodes stage position sofar more byte item came gave gives =
    given_all-append (state nodes 0 (Start stage)) sofar (byte ∷ []) ∙ (λ i. gave i ++ given_all (came i) (byte ∷ []))
    ∙ ap (λ l. more ++ l) (append-nil (option_to_list (moved_by nodes position byte).item) ∙ ap option_to_list gives)

plain_more : (sofar : List ℕ) (byte : ℕ) → ArePlain sofar → nat_eq byte 10 ≡ false → ArePlain (sofar ++ byte ∷ [])
plain_more sofar byte h e = All-append (λ b. nat_eq b 10 ≡ false) sofar (byte ∷ []) h (All-cons (λ b. nat_eq b 10 ≡ false) byte [] e (All-nil (λ b. nat_eq b 10 ≡ false)))

-- a line that ended and led to no further line may not stand there
none_there : (start : Shape) (held : DualSoFar) (stage : Stage) (part : List ℕ) (end : Walk) → NamesNodes start stage → IsStage (stage_at start stage)
    → scanned (state start 0 (Start stage)) (part ++ 10 ∷ []) ≡ end → end.position ≡ Failed → (item : Line) → IsLine (wanted_at start held stage) part item → ⊥
none_there start held stage part end names s e failed item is =
    let ends = accepts start 0 stage item names s (untight start held stage item is.wanted) in
    let bytes : line_bytes item ≡ part ++ 10 ∷ [] = ap (λ b. b ++ 10 ∷ []) (sym is.text) in
    let goes = pass_all_goes (state start 0 (Start stage)) (state ends.shape ends.line (Start ends.stage)) (pieces_of item) ends.passes in
    let start_is : Start ends.stage ≡ end.position =
    ap (λ x. x.position) (sym goes.scan ∙ ap (scanned (state start 0 (Start stage))) (line_pieces_text item ∙ bytes) ∙ e) in
    cc

none_empty : (sofar : List ℕ) (byte : ℕ) → sofar ++ byte ∷ [] ≢ []
none_empty [] byte e = cc
none_empty (b ∷ bs) byte e = cc

has_failed : (start : Shape) (held : DualSoFar) (stage : Stage) (sh : Shape) (so_far : DualSoFar) (position : Position) (sofar : List ℕ) (more : List Item) (byte : ℕ) (next : ScanMove)
    → NamesNodes start stage → IsStage (stage_at start stage) → InLine start held stage sh so_far position sofar more → moved_by start position byte ≡ next
    → next.position ≡ Failed → (byte ≡ 10) ⊎ (stage ≡ Nothing) → HasFailed (wanted_at start held stage) stage (sofar ++ byte ∷ [])
has_failed start held stage sh so_far position sofar more byte next names s now e failed (inl feed) = inl (record {
  part = sofar;
  rest = [];
  text = ap (λ b. sofar ++ b ∷ []) feed;
  plain = now.plain;
  none = none_there start held stage sofar (stepped (state start 0 position) 10) names s
      (came_more start stage position sofar 10 0 (stepped (state start 0 position) 10) (now.came 0) refl)
      (ap (λ b. (moved_by start position b).position) (sym feed) ∙ ap (λ m. m.position) e ∙ failed);
})
has_failed start held stage sh so_far position sofar more byte next names s now e failed (inr over) = inr (over, none_empty sofar byte)

busy_next : (stage : Stage) (position : Position) → (stage ≡ Nothing → ⊥) → Busy stage position
busy_next stage (Start at) h = tt
busy_next stage position h = h

step_is : (start : Shape) (position : Position) (byte : ℕ) (item : Option Item) (next : Position) → moved_by start position byte ≡ record { position = next; item = item }
    → ((l : ℕ) → line_by l next ≡ l) → shape_by start item ≡ start → (l : ℕ) → stepped (state start l position) byte ≡ state start l next
step_is start position byte item next e line same l =
    ap (λ (m : ScanMove). state (shape_by start m.item) (line_by l m.position) m.position) e ∙ (λ i. state (same i) (line l i) next)

-- what is given of a line that goes on
more_begun : {bytes : List ℕ} {given : List Item} {sh : Shape} {line : ℕ} {position : Position} {so_far : DualSoFar} (byte : ℕ) (item : Option Item) (next : Position)
    (h : Tracks bytes given sh line position so_far) → Goes_on h.shape h.stage byte next (h.sofar ++ byte ∷ []) h.more item
    → IsBegun (wanted_at h.shape h.held h.stage) (h.more ++ option_to_list item)
more_begun byte item next h a =
    wanted_begun h.shape h.held h.stage (h.more ++ option_to_list item)
    (here_begun h.shape h.stage next (h.sofar ++ byte ∷ []) (h.more ++ option_to_list item) a.here)

-- the line goes on
goes_on : {bytes : List ℕ} {given : List Item} {sh : Shape} {line : ℕ} {position : Position} {so_far : DualSoFar} (byte : ℕ) (item : Option Item) (next : Position)
    (h : Tracks bytes given sh line position so_far) → InLine h.shape h.held h.stage sh so_far position h.sofar h.more
    → ((l : ℕ) → stepped (state h.shape l position) byte ≡ state h.shape l next) → (moved_by h.shape position byte).item ≡ item
    → repeats_by sh.version so_far item ≡ false → Goes_on h.shape h.stage byte next (h.sofar ++ byte ∷ []) h.more item
    → InLine h.shape h.held h.stage (shape_by sh item) (noted_by sh.version so_far item) next (h.sofar ++ byte ∷ []) (h.more ++ option_to_list item)
goes_on {position = position} byte item next h now step gives quiet g = record {
  same = ap (λ x. shape_by x item) now.same ∙ g.same;
  here = g.here;
  busy = busy_next h.stage next g.some;
  plain = plain_more h.sofar byte now.plain g.no_feed;
  came = λ l. came_more h.shape h.stage position h.sofar byte l (state h.shape l next) (now.came l) (step l);
  gave = gave_more h.shape h.stage position h.sofar h.more byte item (now.came 0) now.gave gives;
  holds = item_noted item now;
  quiet = item_repeats item now ∙ quiet;
  kept = item_shape item now ∙ g.same;
}

-- where a move leads that repeats no dual, by the position behind it
moved_at : {bytes : List ℕ} {given : List Item} {sh : Shape} {line : ℕ} {position : Position} {so_far : DualSoFar} (byte : ℕ) (item : Option Item) (next : Position)
    (h : Tracks bytes given sh line position so_far) → InLine h.shape h.held h.stage sh so_far position h.sofar h.more → IsStage (stage_at h.shape h.stage)
    → moved_by h.shape position byte ≡ record { position = next; item = item } → repeats_by sh.version so_far item ≡ false
    → AfterAt h.shape h.stage byte (h.sofar ++ byte ∷ []) h.more item next
    → Tracks (bytes ++ byte ∷ []) (given ++ option_to_list item) (shape_by sh item) (line_by line next) next (noted_by sh.version so_far item)
moved_at byte item (Start s) h now stage e quiet a = line_ended byte item s h now stage quiet a
moved_at {sh = sh} {line = line} {position = position} {so_far = so_far} byte item Failed h now stage e quiet a =
    stays byte item (shape_by sh item) line Failed (noted_by sh.version so_far item) h h.line_is
    (subst (λ x. IsBegun (wanted_at h.shape h.held h.stage) (h.more ++ option_to_list x)) (sym a.none)
    (subst (IsBegun (wanted_at h.shape h.held h.stage)) (sym (append-nil h.more)) (wanted_begun h.shape h.held h.stage h.more a.begun)))
    (has_failed h.shape h.held h.stage sh so_far position h.sofar h.more byte (record { position = Failed; item = item }) h.names stage now e refl a.ends)
moved_at {sh = sh} {line = line} {position = position} {so_far = so_far} byte item next h now stage e quiet a =
    stays byte item (shape_by sh item) line next (noted_by sh.version so_far item) h h.line_is (more_begun byte item next h a)
    (goes_on byte item next h now (step_is h.shape position byte item next e (λ l. refl) a.same) (ap (λ m. m.item) e) quiet a)

-- ---- a dual that repeats the one before it

-- the item does not end a dual
abbrev pub IsOpen : Item → Type 0
IsOpen item = ends_dual item ≡ false

only_open : (item : Option Item) → IfSome item IsOpen → AllByRecursion IsOpen (option_to_list item)
only_open None h = tt
only_open (Some x) h = (h, tt)

pub open_quiet : (v : TextVersion) (so_far : DualSoFar) (item : Option Item) → AllByRecursion IsOpen (option_to_list item) → repeats_by v so_far item ≡ false
open_quiet First so_far item h = refl
open_quiet Second so_far None h = refl
open_quiet Second so_far (Some x) h = ap (λ b. b && is_repeated (noted so_far x).left) h.0
open_quiet Third so_far None h = refl
open_quiet Third so_far (Some x) h = ap (λ b. b && is_repeated (noted so_far x).left) h.0

-- where the line goes on, no dual ends
goes_quiet : {bytes : List ℕ} {given : List Item} {sh : Shape} {line : ℕ} {position : Position} {so_far : DualSoFar} (byte : ℕ) (item : Option Item) (next : Position)
    (h : Tracks bytes given sh line position so_far) → Goes_on h.shape h.stage byte next (h.sofar ++ byte ∷ []) h.more item → repeats_by sh.version so_far item ≡ false
goes_quiet {sh = sh} {so_far = so_far} byte item next h a =
    open_quiet sh.version so_far item (only_open item a.quiet)

-- a whole line that repeats a dual may not stand there
repeated_line : {bytes : List ℕ} {given : List Item} {sh : Shape} {line : ℕ} {position : Position} {so_far : DualSoFar} (byte : ℕ) (item : Option Item) (s : Stage)
    (h : Tracks bytes given sh line position so_far) → InLine h.shape h.held h.stage sh so_far position h.sofar h.more → IsStage (stage_at h.shape h.stage)
    → repeats_by sh.version so_far item ≡ true → Whole h.shape h.stage s byte (h.sofar ++ byte ∷ []) h.more item
    → BadLineAt (wanted_at h.shape h.held h.stage) (h.sofar ++ byte ∷ [])
repeated_line byte item s h now size repeats w =
    let is : dual_repeats h.shape.version h.held w.line ≡ true =
    sym (line_repeats h.shape h.held w.line) ∙ ap (repeats_in h.shape h.held) (sym w.parts) ∙ item_repeats item now ∙ repeats in
    record {
      part = line_text w.line;
      rest = [];
      text = w.text;
      plain = line_has_no_feed (stage_at h.shape h.stage) w.line size w.wanted;
      none = λ other line. (let there = untight h.shape h.held h.stage other line.wanted in
          let same : other ≡ w.line = one_item (stage_at h.shape h.stage) (line_text w.line) other w.line size (record { wanted = there; text = line.text })
          (record { wanted = w.wanted; text = refl }) in
          false≢true (sym (wanted_repeats h.shape h.held h.stage other line.wanted h.agrees) ∙ ap (dual_repeats h.shape.version h.held) same ∙ is));
    }

repeated_at : {bytes : List ℕ} {given : List Item} {sh : Shape} {line : ℕ} {position : Position} {so_far : DualSoFar} (byte : ℕ) (item : Option Item) (next : Position)
    (h : Tracks bytes given sh line position so_far) → InLine h.shape h.held h.stage sh so_far position h.sofar h.more → IsStage (stage_at h.shape h.stage)
    → repeats_by sh.version so_far item ≡ true → AfterAt h.shape h.stage byte (h.sofar ++ byte ∷ []) h.more item next
    → BadLineAt (wanted_at h.shape h.held h.stage) (h.sofar ++ byte ∷ [])
repeated_at byte item (Start s) h now stage repeats a = repeated_line byte item s h now stage repeats a
repeated_at {sh = sh} {so_far = so_far} byte item Failed h now stage repeats a =
    absurd (false≢true (sym (ap (repeats_by sh.version so_far) a.none ∙ none_repeats sh.version so_far) ∙ repeats))
repeated_at byte item next h now stage repeats a = absurd (false≢true (sym (goes_quiet byte item next h a) ∙ repeats))

-- ---- any byte

line_failed : (g : grammar.Stage) (stage : Stage) (sofar : List ℕ) (byte : ℕ) → HasFailed g stage sofar → HasFailed g stage (sofar ++ byte ∷ [])
line_failed g stage sofar byte (inl bad) = inl (record {
  part = bad.part;
  rest = bad.rest ++ byte ∷ [];
  text = ap (λ b. b ++ byte ∷ []) bad.text ∙ append_assoc bad.part (10 ∷ bad.rest) (byte ∷ []);
  plain = bad.plain;
  none = bad.none;
})
line_failed g stage sofar byte (inr over) = inr (over.0, none_empty sofar byte)

-- a scan by its parts
abbrev scan_at : Shape → ℕ → Position → DualSoFar → Scan
scan_at sh line position so_far = record { shape = sh; line = line; position = position; so_far = so_far }

-- what a move leaves
abbrev Behind : List ℕ → List Item → Shape → ℕ → Position → DualSoFar → ℕ → Option Item → ScanMove → Type 0
Behind bytes given sh line position so_far byte item kept =
    Tracks (bytes ++ byte ∷ []) (given ++ option_to_list kept.item) (shape_by sh kept.item) (line_by line kept.position) kept.position (noted_by sh.version so_far item)

-- one byte more, at any position
step_at : {bytes : List ℕ} {given : List Item} (sh : Shape) (line : ℕ) (position : Position) (so_far : DualSoFar) (byte : ℕ) (next : ScanMove)
    (h : Tracks bytes given sh line position so_far) → (position ≡ Failed → ⊥) → InLine h.shape h.held h.stage sh so_far position h.sofar h.more → moved_by sh position byte ≡ next
    → Behind bytes given sh line position so_far byte next.item (scan.sifted (scan_at sh line position so_far) next)
step_at {bytes = bytes} {given = given} sh line position so_far byte next h no_failure now e =
    let size = wanted_stage h.shape h.held h.stage (stage_led want_version (wanted_at h.shape h.held h.stage) h.lines tt h.lead) in
    let there : moved_by h.shape position byte ≡ next = ap (λ x. moved_by x position byte) (sym now.same) ∙ e in
    let after = moves h.shape h.stage position byte h.sofar h.more size h.names no_failure (λ is. subst (Busy h.stage) is now.busy) now.here
    (record { scan = now.came 0; items = now.gave }) in
    let came = subst (After h.shape h.stage byte (h.sofar ++ byte ∷ []) h.more) there after in
    cond_both (repeats_by sh.version so_far next.item) (refusal true) next (Behind bytes given sh line position so_far byte next.item)
    (λ repeats. stays byte None sh line Failed (noted_by sh.version so_far next.item) h h.line_is
    (subst (IsBegun (wanted_at h.shape h.held h.stage)) (sym (append-nil h.more)) h.begun)
    (inl (repeated_at byte next.item next.position h now size repeats came)))
    (λ quiet. moved_at byte next.item next.position h now size there quiet came)

track_step : {bytes : List ℕ} {given : List Item} (sh : Shape) (line : ℕ) (position : Position) (so_far : DualSoFar) (byte : ℕ) → Tracks bytes given sh line position so_far
    → Behind bytes given sh line position so_far byte (moved_by sh position byte).item (scan.sifted (scan_at sh line position so_far) (moved_by sh position byte))
track_step {bytes = bytes} {given = given} sh line Failed so_far byte h =
    cond_both (repeats_by sh.version so_far None) (refusal true) (refusal true) (Behind bytes given sh line Failed so_far byte None)
    (λ repeats. absurd (false≢true (sym (none_repeats sh.version so_far) ∙ repeats)))
    (λ quiet. stays byte None sh line Failed (noted_by sh.version so_far None) h h.line_is
    (subst (IsBegun (wanted_at h.shape h.held h.stage)) (sym (append-nil h.more)) h.begun)
    (line_failed (wanted_at h.shape h.held h.stage) h.stage h.sofar byte h.now))
track_step sh line position so_far byte h = step_at sh line position so_far byte (moved_by sh position byte) h (λ e. cc) h.now refl

-- ---- all bytes

tracks_more : (bytes rest : List ℕ) (given : List Item) (s : Scan) → Tracks bytes given s.shape s.line s.position s.so_far
    → Tracks (bytes ++ rest) (given ++ scan.given_all s rest) (scan.scanned s rest).shape (scan.scanned s rest).line (scan.scanned s rest).position (scan.scanned s rest).so_far
tracks_more bytes [] given s h =
    subst (λ b. Tracks b (given ++ []) s.shape s.line s.position s.so_far) (sym (append-nil bytes))
    (subst (λ g. Tracks bytes g s.shape s.line s.position s.so_far) (sym (append-nil given)) h)
tracks_more bytes (byte ∷ rest) given s h =
    let next = scan.stepped s byte in
    let more = tracks_more (bytes ++ byte ∷ []) rest (given ++ option_to_list (scan.given_by s byte)) (scan.stepped s byte)
    (track_step s.shape s.line s.position s.so_far byte h) in
    let end = scan.scanned (scan.stepped s byte) rest in
    subst (λ b. Tracks b (given ++ (option_to_list (scan.given_by s byte) ++ scan.given_all (scan.stepped s byte) rest)) end.shape end.line end.position end.so_far)
    (append_assoc bytes (byte ∷ []) rest)
    (subst (λ g. Tracks ((bytes ++ byte ∷ []) ++ rest) g end.shape end.line end.position end.so_far)
    (append_assoc given (option_to_list (scan.given_by s byte)) (scan.given_all (scan.stepped s byte) rest)) more)

pub scanned_tracks : (bytes : List ℕ) (given : List Item) (s : Scan) → HasScanned bytes given s → Tracks bytes given s.shape s.line s.position s.so_far
scanned_tracks bytes given s h =
    let all = tracks_more [] bytes [] new_scan tracks_new in
    let end = scan.scanned new_scan bytes in
    subst (λ x. Tracks bytes given x.shape x.line x.position x.so_far) h.reached
    (subst (λ g. Tracks bytes g end.shape end.line end.position end.so_far) h.gives all)

-- what is given at any time
pub scanned_given : (bytes : List ℕ) (given : List Item) (s : Scan) → HasScanned bytes given s → IsGiven given
scanned_given bytes given s h =
    let t = scanned_tracks bytes given s h in
    record { lines = t.lines; stage = wanted_at t.shape t.held t.stage; more = t.more; lead = t.lead; are = t.parts; begun = t.begun }
