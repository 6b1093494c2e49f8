-- What is taken at once: a pair of a dual, a way of a proof, and the start of the line of a dual or of a proof.
use Rattle.std.proofs.Common.{◌≡◌, ℕ, ◌+◌, ◌-◌, ◌^◌, ◌&&◌, ◌<◌, ◌≤◌, Bool, true, false, List, length, take, drop, Option, Some, None, nat_le, nat_lt, refl, sym, ap, ◌∙◌, subst, arith, if◌then◌else◌, codes, get_or, nat_eq, inl, inr}
use Rattle.std.proofs.lemmas.List.{length-drop, length-take-le}
use Rattle.std.proofs.lemmas.Bool.{cond_both, cond-true, and_from, le-leb, lt-ltb, cond-false, eq-eqb}
use Rattle.cert_scan.specs.Moves.{taken_by, move, refusal, open_by, amount_limit, stage_after_subject, follows, within, way_behind, is_later_way, stage_after_proof, moved_by, subject_run}
use Rattle.cert_scan.specs.Repeats.{repeats_by, DualSoFar, noted_by}
use Rattle.cert_scan.specs.Scans.{put, with_item, sifted, moved}
use Rattle.cert_scan.specs.Runs.{Takes, Runs, GoesOn}
use Rattle.cert_scan.specs.Ahead.{IsNumberAt, IsPairAhead, IsWayAhead}
use Rattle.cert_scan.proofs.Tracks.{open_quiet}
use Rattle.cert_scan.proofs.NumberRuns.{number_begins, number_run, number_takes, number_gives, takes_quietly}
use Rattle.cert_scan.proofs.Stepping.{HasRun, run_digits, takes_run, run_end, failed_after, failed_nothing, run_byte}
use Rattle.cert_scan.specs.declared.items.Version.{Version as TextVersion}
use Rattle.cert_scan.specs.declared.items.Version.TheVariants.{First, Second, Third}
use Rattle.cert_scan.specs.declared.stages.Stage.{Stage}
use Rattle.cert_scan.specs.declared.items.Item.{Item}
use Rattle.cert_scan.specs.declared.items.Item.TheVariants.{DualPair as pair_item, ProofPair as way_item, Dual as dual_item, Proof as proof_item}
use Rattle.cert_scan.specs.declared.bytes.ScanMove.{ScanMove}
use Rattle.cert_scan.specs.declared.bytes.Position.{Position}
use Rattle.cert_scan.specs.declared.bytes.Position.TheVariants.{Number, Failed, Start, Keyword}
use Rattle.cert_scan.specs.declared.places.Place.{Place}
use Rattle.cert_scan.specs.declared.places.Place.TheVariants.{ValueNode, ValueAmount, WayFrom, WayTo, WayTaken, DualFrom, DualTo, RunFrom, RunTo, RunLength, ProvedFrom, ProvedTo, DualPrice, ProofTurns, ProofScale}
use Rattle.cert_scan.specs.declared.stages.Subject.{Subject}
use Rattle.cert_scan.specs.declared.stages.Shape.{Shape}
use Rattle.cert_scan.specs.declared.pairs.Pair.{Pair}
use Rattle.cert_scan.specs.declared.scanner.Scan.{Scan}
use Rattle.core_spec.specs.MarkRanges.{most_taken, most_turns, most_scale}
use Rattle.cert_scan.specs.declared.stages.WaysAt.{WaysAt}
use Rattle.cert_scan.specs.declared.proof_ways.Way.{Way}
use Rattle.cert_scan.specs.Fronts.{AreNodesAt, IsDualAhead, AreDualsAhead, IsPlainAhead, IsProofAhead}
use Rattle.cert_scan.proofs.ScanBytes.{quiet_step, quiet_gives}
use Rattle.cert_scan.proofs.LineRuns.{word_run, space_run, word_goes}
use Rattle.cert_scan.specs.declared.heads.Head.TheVariants.{DualLine, DualsLine, ProvedLine, ProofLine}
use Rattle.cert_scan.specs.declared.stages.DualAt.{DualAt}
use Rattle.cert_scan.specs.declared.stages.LineRun.{LineRun}
use Rattle.cert_scan.specs.declared.stages.Subject.TheVariants.{Plain, Proved}
use Rattle.cert_scan.specs.declared.stages.Stage.TheVariants.{Dual, ProvedDual, Proof}
use Rattle.cert_scan.specs.declared.fronts.DualFront.{DualFront}
use Rattle.cert_scan.specs.declared.fronts.ProofFront.{ProofFront}
use Rattle.cert_scan.proofs.Repeated.{other_item}

-- the space behind a node's number
value_node_goes : (sh : Shape) (before number : ℕ) (subject : Subject) → before < number → number ≤ sh.n
    → taken_by sh (ValueNode subject before) number false ≡ move (Number (ValueAmount subject number) None) None
value_node_goes sh before number subject above within =
    cond-true (follows sh.n before number) _ _ (and_from (nat_lt before number) (nat_le number sh.n) (lt-ltb before number above) (le-leb number sh.n within))

-- where a scan stands, by what was matched
same_subject : (subject of : Subject) (before other : ℕ) (value : Option ℕ) → Number (ValueNode subject before) None ≡ Number (ValueNode of other) value
    → subject ≡ of
same_subject subject of before other value e = cc

pub stands_at : (position : Position) (subject of : Subject) (before other : ℕ) (place : Place) (value : Option ℕ)
    → position ≡ Number (ValueNode subject before) None
    → position ≡ Number place value → place ≡ ValueNode of other → position ≡ Number (ValueNode of before) None
stands_at position subject of before other place value at is e =
    at ∙ ap (λ r. Number (ValueNode r before) None) (same_subject subject of before other value (sym at ∙ is ∙ ap (λ p. Number p value) e))

-- the node of the pair
pair_node : (old : Scan) (subject : Subject) (before : ℕ) (bytes : List ℕ) (pair : Pair) → old.position ≡ Number (ValueNode subject before) None
    → (ahead : IsPairAhead old.shape.n before bytes pair) → HasRun old bytes ahead.at (put old (Number (ValueAmount subject pair.number) None))
pair_node old subject before bytes pair is ahead =
    number_run old bytes 0 pair.number ahead.at (ValueNode subject before) (ValueAmount subject pair.number) (number_begins old bytes (ValueNode subject before) is)
    ahead.node (value_node_goes old.shape before pair.number subject ahead.above ahead.within)

-- the pair is taken
pair_takes : (old new : Scan) (subject : Subject) (before : ℕ) (bytes : List ℕ) (pair : Pair) (item : Option Item) (next : ScanMove)
    → old.position ≡ Number (ValueNode subject before) None → IsPairAhead old.shape.n before bytes pair
    → next ≡ taken_by old.shape (ValueAmount subject pair.number) pair.value pair.last → item ≡ (sifted old next).item → new ≡ moved old next
    → Takes old bytes pair.behind item new
pair_takes old new subject before bytes pair item next is ahead taken gives after =
    number_takes old new bytes ahead.at pair.value pair.last pair.behind (ValueAmount subject pair.number) item next (pair_node old subject before bytes pair is ahead)
    ahead.amount taken gives after

-- and gives its item
pub pair_runs : (old new : Scan) (subject : Subject) (before : ℕ) (bytes : List ℕ) (pair : Pair) (item : Option Item) (next : ScanMove)
    → old.position ≡ Number (ValueNode subject before) None → IsPairAhead old.shape.n before bytes pair
    → next ≡ taken_by old.shape (ValueAmount subject pair.number) pair.value pair.last → item ≡ (sifted old next).item → new ≡ moved old next
    → (item ≡ None → ⊥) → Runs old bytes pair.behind item new
pair_runs old new subject before bytes pair item next is ahead taken gives after some =
    takes_run old new bytes pair.behind item (pair_takes old new subject before bytes pair item next is ahead taken gives after) some

pub limit_least : (v : TextVersion) → 2 ^ 64 ≤ amount_limit v
limit_least First = omega arith
limit_least v = omega arith

open_given : (last : Bool) (item : Item) (place : Place) (stage : Stage) → (open_by last item place stage).item ≡ None → ⊥
open_given true item place stage e = cc
open_given false item place stage e = cc

-- a value in range gives an item
value_fits : (sh : Shape) (value : ℕ) → 1 ≤ value → value < 2 ^ 64 → (nat_le 1 value && nat_lt value (amount_limit sh.version)) ≡ true
value_fits sh value some few =
    and_from (nat_le 1 value) (nat_lt value (amount_limit sh.version)) (le-leb 1 value some)
    (lt-ltb value (amount_limit sh.version) (omega (arith, few, limit_least sh.version)))

value_given : (sh : Shape) (subject : Subject) (number value : ℕ) (last : Bool) → 1 ≤ value → value < 2 ^ 64
    → (taken_by sh (ValueAmount subject number) value last).item ≡ None → ⊥
value_given sh subject number value last some few e =
    open_given last (pair_item (number - 1) value last) (ValueNode subject number) (stage_after_subject sh.n subject)
    (sym (ap (λ (m : ScanMove). m.item) (cond-true (nat_le 1 value && nat_lt value (amount_limit sh.version)) _ (refusal last) (value_fits sh value some few))) ∙ e)

value_moves : (sh : Shape) (subject : Subject) (number value : ℕ) → 1 ≤ value → value < 2 ^ 64
    → taken_by sh (ValueAmount subject number) value false ≡ move (Number (ValueNode subject number) None) (Some (pair_item (number - 1) value false))
value_moves sh subject number value some few =
    cond-true (nat_le 1 value && nat_lt value (amount_limit sh.version)) _ (refusal false) (value_fits sh value some few)

-- a move with an item that is not given fails
sifted_failed : (s : Scan) (next : ScanMove) → (next.item ≡ None → ⊥) → (sifted s next).item ≡ None → (sifted s next).position ≡ Failed
sifted_failed s next some none =
    cond_both (repeats_by s.shape.version s.so_far next.item) (refusal true) next (λ m. m.item ≡ None → m.position ≡ Failed)
    (λ e n. refl) (λ e n. absurd (some n)) none

-- where it gives none, its dual repeats the one before it, and the line was bad
pub pair_fails : (old new : Scan) (subject : Subject) (before : ℕ) (bytes : List ℕ) (pair : Pair) (item : Option Item) (next : ScanMove)
    → old.position ≡ Number (ValueNode subject before) None → IsPairAhead old.shape.n before bytes pair
    → next ≡ taken_by old.shape (ValueAmount subject pair.number) pair.value pair.last → item ≡ (sifted old next).item → new ≡ moved old next
    → item ≡ None → Runs old bytes (length bytes) None new
pair_fails old new subject before bytes pair item next is ahead taken gives after none =
    let count = pair.behind in
    let rest = take (length bytes - count) (take (length bytes - count) (drop count bytes)) in
    let takes = pair_takes old new subject before bytes pair item next is ahead taken gives after in
    let within = takes.within in
    let some : next.item ≡ None → ⊥ =
    λ e. value_given old.shape subject pair.number pair.value pair.last ahead.some ahead.few (sym (ap (λ (m : ScanMove). m.item) taken) ∙ e) in
    let failed : new.position ≡ Failed = ap (λ s. s.position) after ∙ sifted_failed old next some (sym gives ∙ none) in
    let long : length (take (length bytes - count) (drop count bytes)) ≡ length bytes - count =
    length-take-le (length bytes - count) (drop count bytes) (omega (arith, length-drop count bytes)) in
    let all : HasRun old bytes (count + (length bytes - count)) new =
    run_digits old new new bytes count (length bytes - count) (takes_quietly old new bytes pair.behind item takes none) (omega (arith, long))
    (failed_after new rest failed) (failed_nothing new rest failed) in
    let whole : count + (length bytes - count) ≡ length bytes = omega (arith, within) in
    run_end old new bytes (length bytes) (subst (λ k. HasRun old bytes k new) whole all) (omega arith)

-- a pair behind which the line goes on
pub pair_lists : (old new : Scan) (subject : Subject) (before : ℕ) (bytes : List ℕ) (pair : Pair) (item : Item)
    → old.position ≡ Number (ValueNode subject before) None → IsPairAhead old.shape.n before bytes pair → pair.last ≡ false
    → item ≡ pair_item (pair.number - 1) pair.value false
    → new ≡ with_item (put old (Number (ValueNode subject pair.number) None)) item
    → Runs old bytes pair.behind (Some item) new
pair_lists old new subject before bytes pair item is ahead more given after =
    let listed : Item = pair_item (pair.number - 1) pair.value false in
    number_gives old new bytes ahead.at pair.value pair.behind (ValueAmount subject pair.number) (ValueNode subject pair.number) item
    (pair_node old subject before bytes pair is ahead) (subst (λ last. IsNumberAt bytes ahead.at pair.value last pair.behind) more ahead.amount)
    (value_moves old.shape subject pair.number pair.value ahead.some ahead.few ∙ ap (λ x. move (Number (ValueNode subject pair.number) None) (Some x)) (sym given))
    (ap (λ x. repeats_by old.shape.version old.so_far (Some x)) given ∙ open_quiet old.shape.version old.so_far (Some listed) (refl, tt)) after

-- where a scan stands, by what was matched
way_of : (at before : WaysAt) (value : Option ℕ) → Number (WayFrom at) None ≡ Number (WayFrom before) value → at ≡ before
way_of at before value e = cc

pub same_way : (position : Position) (at before : WaysAt) (place : Place) (value : Option ℕ) → position ≡ Number (WayFrom at) None
    → position ≡ Number place value → place ≡ WayFrom before → at ≡ before
same_way position at before place value is found e = way_of at before value (sym is ∙ found ∙ ap (λ p. Number p value) e)

-- the space behind the first node
first_goes : (sh : Shape) (at : WaysAt) (from : ℕ) → 1 ≤ from → from ≤ sh.n → taken_by sh (WayFrom at) from false ≡ move (Number (WayTo at from) None) None
first_goes sh at from some fits =
    cond-true (within from sh.n) _ _ (and_from (nat_le 1 from) (nat_le from sh.n) (le-leb 1 from some) (le-leb from sh.n fits))

-- and behind the second
second_goes : (sh : Shape) (at : WaysAt) (from to : ℕ) → from ≤ to → to ≤ sh.n → is_later_way at from to ≡ true
    → taken_by sh (WayTo at from) to false ≡ move (Number (WayTaken (way_behind at.dual from to)) None) None
second_goes sh at from to order fits later =
    cond-true (nat_le from to && (nat_le to sh.n && is_later_way at from to)) _ _
    (and_from (nat_le from to) (nat_le to sh.n && is_later_way at from to) (le-leb from to order)
    (and_from (nat_le to sh.n) (is_later_way at from to) (le-leb to sh.n fits) later))

-- the nodes
way_nodes : (old : Scan) (at : WaysAt) (bytes : List ℕ) (way : Way) → old.position ≡ Number (WayFrom at) None → (ahead : IsWayAhead old.shape.n at bytes way)
    → HasRun old bytes ahead.next (put old (Number (WayTaken (way_behind at.dual way.from way.to)) None))
way_nodes old at bytes way is ahead =
    let order = ahead.order in
    let fits = ahead.within in
    number_run old bytes ahead.between way.to ahead.next (WayTo at way.from) (WayTaken (way_behind at.dual way.from way.to))
    (number_run old bytes 0 way.from ahead.between (WayFrom at) (WayTo at way.from) (number_begins old bytes (WayFrom at) is) ahead.first
    (first_goes old.shape at way.from ahead.node (omega arith)))
    ahead.second (second_goes old.shape at way.from way.to order fits ahead.behind)

-- nothing is held of a way, nor of a proof
way_other : (v : TextVersion) (so_far : DualSoFar) (k m y : ℕ) (last : Bool)
    → (repeats_by v so_far (Some (way_item k m y last)) ≡ false) × (noted_by v so_far (Some (way_item k m y last)) ≡ so_far)
way_other v so_far k m y last = other_item v so_far (way_item k m y last) (record { ends = refl; same = λ s. refl })

way_kept : (s : Scan) (next : ScanMove) (k m y : ℕ) (last : Bool) → next.item ≡ Some (way_item k m y last) → sifted s next ≡ next
way_kept s next k m y last e =
    cond-false (repeats_by s.shape.version s.so_far next.item) (refusal true) next
    (ap (repeats_by s.shape.version s.so_far) e ∙ (way_other s.shape.version s.so_far k m y last).0)

open_item : (last : Bool) (item : Item) (place : Place) (stage : Stage) → (open_by last item place stage).item ≡ Some item
open_item true item place stage = refl
open_item false item place stage = refl

-- how often it is taken is in range
taken_moves : (sh : Shape) (at : WaysAt) (taken : ℕ) (last : Bool) → 1 ≤ taken → taken ≤ most_taken
    → taken_by sh (WayTaken at) taken last ≡ open_by last (way_item (at.from - 1) (at.to - 1) taken last) (WayFrom at) (stage_after_proof sh.n at.dual)
taken_moves sh at taken last some few =
    cond-true (within taken most_taken) _ (refusal last)
    (and_from (nat_le 1 taken) (nat_le taken most_taken) (le-leb 1 taken some) (le-leb taken most_taken few))

none_given : (item : Option Item) (listed : Item) → item ≡ Some listed → item ≡ None → ⊥
none_given item listed given none = cc

-- a way behind which the line ends, or goes on
pub way_ends : (old new : Scan) (at : WaysAt) (bytes : List ℕ) (way : Way) (item : Option Item) (next : ScanMove)
    → old.position ≡ Number (WayFrom at) None → IsWayAhead old.shape.n at bytes way
    → next ≡ taken_by old.shape (WayTaken (way_behind at.dual way.from way.to)) way.taken way.last → item ≡ (sifted old next).item
    → new ≡ moved old next → Runs old bytes way.behind item new
way_ends old new at bytes way item next is ahead taken gives after =
    let listed : Item = way_item (way.from - 1) (way.to - 1) way.taken way.last in
    let place = way_behind at.dual way.from way.to in
    let told : next.item ≡ Some (way_item (way.from - 1) (way.to - 1) way.taken way.last) =
    ap (λ (m : ScanMove). m.item) (taken ∙ taken_moves old.shape place way.taken way.last ahead.some ahead.few)
    ∙ open_item way.last listed (WayFrom place) (stage_after_proof old.shape.n at.dual) in
    let kept = way_kept old next (way.from - 1) (way.to - 1) way.taken way.last told in
    let given : item ≡ Some (way_item (way.from - 1) (way.to - 1) way.taken way.last) = gives ∙ ap (λ (m : ScanMove). m.item) kept ∙ told in
    takes_run old new bytes way.behind item
    (number_takes old new bytes ahead.next way.taken way.last way.behind (WayTaken place) item next (way_nodes old at bytes way is ahead) ahead.third taken gives after)
    (λ none. none_given item listed given none)

-- a way behind which the line goes on
pub way_lists : (old new : Scan) (at : WaysAt) (bytes : List ℕ) (way : Way) (item : Item)
    → old.position ≡ Number (WayFrom at) None → IsWayAhead old.shape.n at bytes way → way.last ≡ false
    → item ≡ way_item (way.from - 1) (way.to - 1) way.taken false
    → new ≡ put old (Number (WayFrom (way_behind at.dual way.from way.to)) None)
    → Runs old bytes way.behind (Some item) new
way_lists old new at bytes way item is ahead more given after =
    let place = way_behind at.dual way.from way.to in
    let next = put old (Number (WayFrom place) None) in
    let listed : Item = way_item (way.from - 1) (way.to - 1) way.taken false in
    let noted : put old (Number (WayFrom place) None) ≡ with_item next listed = λ i. record {
      shape = old.shape;
      line = old.line;
      position = Number (WayFrom place) None;
      so_far = sym ((way_other old.shape.version old.so_far (way.from - 1) (way.to - 1) way.taken false).1) i;
    } in
    number_gives old new bytes ahead.next way.taken way.behind (WayTaken place) (WayFrom place) item (way_nodes old at bytes way is ahead)
    (subst (λ last. IsNumberAt bytes ahead.next way.taken last way.behind) more ahead.third)
    (taken_moves old.shape place way.taken false ahead.some ahead.few ∙ ap (λ x. move (Number (WayFrom place) None) (Some x)) (sym given))
    (ap (λ x. repeats_by old.shape.version old.so_far (Some x)) given
    ∙ (way_other old.shape.version old.so_far (way.from - 1) (way.to - 1) way.taken false).0)
    (after ∙ noted ∙ ap (with_item next) (sym given))

-- the nodes of a commodity
node_goes : (sh : Shape) (node : ℕ) (place next : Place)
    → taken_by sh place (node + 1) false ≡ (if nat_eq (node + 1) (node + 1) then move (Number next None) None else refusal false)
    → taken_by sh place (node + 1) false ≡ move (Number next None) None
node_goes sh node place next e = e ∙ cond-true (nat_eq (node + 1) (node + 1)) _ _ (eq-eqb (node + 1) (node + 1) refl)

nodes_run : (old : Scan) (bytes : List ℕ) (at behind : ℕ) (d : DualAt) (first second third : Place) → HasRun old bytes at (put old (Number first None))
    → AreNodesAt bytes at d.commodity behind
    → taken_by old.shape first (d.commodity.from + 1) false
    ≡ (if nat_eq (d.commodity.from + 1) (d.commodity.from + 1) then move (Number second None) None else refusal false)
    → taken_by old.shape second (d.commodity.to + 1) false
    ≡ (if nat_eq (d.commodity.to + 1) (d.commodity.to + 1) then move (Number third None) None else refusal false)
    → HasRun old bytes behind (put old (Number third None))
nodes_run old bytes at behind d first second third before are from to =
    number_run old bytes are.between (d.commodity.to + 1) behind second third
    (number_run old bytes at (d.commodity.from + 1) are.between first second before are.from (node_goes old.shape d.commodity.from first second from))
    are.to (node_goes old.shape d.commodity.to second third to)

-- ---- duals

abbrev run_at : DualAt → ℕ → LineRun
run_at at count = record { first = at; length = count }

abbrev priced : LineRun → ℕ → Item
priced run price = dual_item run.first.commodity.from run.first.commodity.to run.length price false

price_goes : (sh : Shape) (subject : Subject) (price : ℕ) → price < 2 ^ 64
    → taken_by sh (DualPrice subject) price false ≡ move (Number (ValueNode subject 0) None) (Some (priced (subject_run subject) price))
price_goes sh subject price low =
    cond-true (nat_lt price (amount_limit sh.version)) _ (refusal false) (lt-ltb price (amount_limit sh.version) (omega (arith, low, limit_least sh.version)))

price_gives : (old new : Scan) (bytes : List ℕ) (at : ℕ) (d : DualAt) (subject : Subject) (front : DualFront) (item : Item)
    → HasRun old bytes at (put old (Number (DualPrice subject) None)) → IsNumberAt bytes at front.price false front.count → front.price < 2 ^ 64
    → subject_run subject ≡ run_at d front.length → item ≡ priced (run_at d front.length) front.price
    → new ≡ with_item (put old (Number (ValueNode subject 0) None)) item → Runs old bytes front.count (Some item) new
price_gives old new bytes at d subject front item before is low run gives after =
    let listed : item ≡ priced (subject_run subject) front.price = gives ∙ ap (λ r. priced r front.price) (sym run) in
    let quiet : repeats_by old.shape.version old.so_far (Some item) ≡ false =
    ap (λ x. repeats_by old.shape.version old.so_far (Some x)) gives
    ∙ open_quiet old.shape.version old.so_far (Some (priced (run_at d front.length) front.price)) (refl, tt) in
    number_gives old new bytes at front.price front.count (DualPrice subject) (ValueNode subject 0) item before is
    (price_goes old.shape subject front.price low ∙ ap (λ x. move (Number (ValueNode subject 0) None) (Some x)) (sym listed)) quiet after

pub proved_gives : (old new : Scan) (d : DualAt) (bytes : List ℕ) (front : DualFront) (item : Item) → old.position ≡ Start (ProvedDual d)
    → IsDualAhead d.commodity bytes front → item ≡ priced (run_at d front.length) front.price
    → new ≡ with_item (put old (Number (ValueNode (Proved d) 0) None)) item → Runs old bytes front.count (Some item) new
proved_gives old new d bytes front item is ahead gives after =
    let room = ahead.nodes.from.room in
    let word = word_goes old (ProvedDual d) (ProvedLine d) (ProvedFrom d) bytes 4 is refl refl ahead.word (omega arith) (omega (arith, room)) ahead.space in
    let nodes = nodes_run old bytes 5 ahead.at d (ProvedFrom d) (ProvedTo d) (DualPrice (Proved d)) word ahead.nodes refl refl in
    price_gives old new bytes ahead.at d (Proved d) front item nodes ahead.price ahead.low (ap (run_at d) (sym ahead.alone)) gives after

-- a dual of a plain cut
alone_gives : (old new : Scan) (d : DualAt) (bytes : List ℕ) (front : DualFront) (item : Item) → old.position ≡ Start (Dual d)
    → IsDualAhead d.commodity bytes front → item ≡ priced (run_at d front.length) front.price
    → new ≡ with_item (put old (Number (ValueNode (Plain (run_at d front.length)) 0) None)) item → Runs old bytes front.count (Some item) new
alone_gives old new d bytes front item is ahead gives after =
    let room = ahead.nodes.from.room in
    let word = word_goes old (Dual d) (DualLine d) (DualFrom d) bytes 4 is refl refl ahead.word (omega arith) (omega (arith, room)) ahead.space in
    let nodes = nodes_run old bytes 5 ahead.at d (DualFrom d) (DualTo d) (DualPrice (Plain (run_at d 1))) word ahead.nodes refl refl in
    price_gives old new bytes ahead.at d (Plain (run_at d front.length)) front item
    (subst (λ k. HasRun old bytes ahead.at (put old (Number (DualPrice (Plain (run_at d k))) None))) (sym ahead.alone) nodes)
    ahead.price ahead.low refl gives after

-- the letter that makes the line one of several duals
letter_moves : (v : TextVersion) (n : ℕ) (d : DualAt) → (v ≡ First → ⊥)
    → moved_by (record { version = v; n = n }) (Keyword (DualLine d) 4) 115 ≡ move (Keyword (DualsLine d) 5) None
letter_moves First n d other = absurd (other refl)
letter_moves Second n d other = refl
letter_moves Third n d other = refl

duals_word : (old : Scan) (d : DualAt) (bytes : List ℕ) → old.position ≡ Start (Dual d) → (old.shape.version ≡ First → ⊥) → GoesOn (codes "dual") 0 (take 4 bytes)
    → get_or bytes 4 0 ≡ 115 → get_or bytes 5 0 ≡ 32 → 5 < length bytes → HasRun old bytes 6 (put old (Number (RunFrom d) None))
duals_word old d bytes is other letters letter space fits =
    let begun = put old (Keyword (DualLine d) 4) in
    let turned = put old (Keyword (DualsLine d) 5) in
    let moves = letter_moves old.shape.version old.shape.n d other in
    let four = word_run old (Dual d) (DualLine d) bytes 4 is refl letters (omega arith) (omega (arith, fits)) in
    let five : HasRun old bytes 5 (put old (Keyword (DualsLine d) 5)) =
    run_byte old begun turned bytes 4 115 None four (omega (arith, fits)) (sym letter)
    (sym (quiet_gives begun 115 (Keyword (DualsLine d) 5) moves)) (sym (quiet_step begun 115 (Keyword (DualsLine d) 5) moves)) refl in
    space_run old (DualsLine d) (RunFrom d) bytes 5 five refl (omega arith) fits space

length_goes : (sh : Shape) (d : DualAt) (count : ℕ) → 2 ≤ count → d.commodity.to + count ≤ sh.n
    → taken_by sh (RunLength d) count false ≡ move (Number (DualPrice (Plain (run_at d count))) None) None
length_goes sh d count several fits =
    cond-true (nat_le 2 count && nat_le (d.commodity.to + count) sh.n) _ _
    (and_from (nat_le 2 count) (nat_le (d.commodity.to + count) sh.n) (le-leb 2 count several) (le-leb (d.commodity.to + count) sh.n fits))

-- a run of them
run_gives : (old new : Scan) (d : DualAt) (bytes : List ℕ) (front : DualFront) (item : Item) → old.position ≡ Start (Dual d) → (old.shape.version ≡ First → ⊥)
    → AreDualsAhead old.shape.n d.commodity bytes front → item ≡ priced (run_at d front.length) front.price
    → new ≡ with_item (put old (Number (ValueNode (Plain (run_at d front.length)) 0) None)) item → Runs old bytes front.count (Some item) new
run_gives old new d bytes front item is other ahead gives after =
    let room = ahead.nodes.from.room in
    let word = duals_word old d bytes is other ahead.word ahead.letter ahead.space (omega (arith, room)) in
    let nodes = nodes_run old bytes 6 ahead.at d (RunFrom d) (RunTo d) (RunLength d) word ahead.nodes refl refl in
    let length_run = number_run old bytes ahead.at front.length ahead.behind (RunLength d) (DualPrice (Plain (run_at d front.length))) nodes ahead.run
    (length_goes old.shape d front.length ahead.several ahead.within) in
    price_gives old new bytes ahead.behind d (Plain (run_at d front.length)) front item length_run ahead.price ahead.low refl gives after

pub plain_gives : (old new : Scan) (d : DualAt) (bytes : List ℕ) (front : DualFront) (item : Item) → old.position ≡ Start (Dual d)
    → IsPlainAhead old.shape d.commodity bytes front → item ≡ priced (run_at d front.length) front.price
    → new ≡ with_item (put old (Number (ValueNode (Plain (run_at d front.length)) 0) None)) item → Runs old bytes front.count (Some item) new
plain_gives old new d bytes front item is (inl ahead) gives after = alone_gives old new d bytes front item is ahead gives after
plain_gives old new d bytes front item is (inr ahead) gives after = run_gives old new d bytes front item is ahead.0 ahead.1 gives after

-- ---- proofs

pub proof_gives : (old : Scan) (d : DualAt) (bytes : List ℕ) (front : ProofFront) → old.position ≡ Start (Proof d) → IsProofAhead bytes front
    → Runs old bytes front.count (Some (proof_item front.turns front.scale false)) (put old (Number (WayFrom (way_behind d 0 0)) None))
proof_gives old d bytes front is ahead =
    let room = ahead.turns.room in
    let listed : Item = proof_item front.turns front.scale false in
    let next = put old (Number (WayFrom (way_behind d 0 0)) None) in
    let other = other_item old.shape.version old.so_far (proof_item front.turns front.scale false) (record { ends = refl; same = λ s. refl }) in
    let word = word_goes old (Proof d) (ProofLine d) (ProofTurns d) bytes 5 is refl refl ahead.word (omega arith) (omega (arith, room)) ahead.space in
    let turns = number_run old bytes 6 front.turns ahead.at (ProofTurns d) (ProofScale d front.turns) word ahead.turns
    (cond-true (nat_le front.turns most_turns) _ _ (le-leb front.turns most_turns ahead.few)) in
    let scale = cond-true (within front.scale most_scale) _ (refusal false)
    (and_from (nat_le 1 front.scale) (nat_le front.scale most_scale) (le-leb 1 front.scale ahead.some) (le-leb front.scale most_scale ahead.most)) in
    let noted : put old (Number (WayFrom (way_behind d 0 0)) None) ≡ with_item next listed = λ i. record {
      shape = old.shape;
      line = old.line;
      position = Number (WayFrom (way_behind d 0 0)) None;
      so_far = sym other.1 i;
    } in
    number_gives old next bytes ahead.at front.scale front.count (ProofScale d front.turns) (WayFrom (way_behind d 0 0)) listed turns ahead.scale scale
    other.0 noted
