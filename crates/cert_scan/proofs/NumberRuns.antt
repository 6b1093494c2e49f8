-- A run over numbers of a line that stand whole in the bytes at hand.
use Rattle.std.proofs.Common.{◌≡◌, ℕ, ◌+◌, Bool, true, false, List, take, drop, get_or, Option, Some, None, refl, sym, ap, ◌∙◌, subst, arith}
use Rattle.std.specs.Prelude.{option_to_list}
use Rattle.std.proofs.lemmas.Bool.{cond-false}
use Rattle.cert_scan.specs.Moves.{move, moved_by, taken_by, refusal}
use Rattle.cert_scan.specs.Repeats.{noted_by, repeats_by}
use Rattle.cert_scan.specs.Scans.{shape_by, line_by, put, with_item, sifted, moved}
use Rattle.cert_scan.specs.Runs.{Takes, Runs}
use Rattle.cert_scan.specs.Ahead.{byte_behind, IsNumberAt}
use Rattle.cert_scan.proofs.ScanBytes.{quiet_step, quiet_gives}
use Rattle.cert_scan.proofs.Stepping.{HasRun, digits_scanned, digits_give, run_more, run_byte, takes_byte, takes_run}
use Rattle.cert_scan.specs.declared.items.Item.{Item}
use Rattle.cert_scan.specs.declared.bytes.ScanMove.{ScanMove}
use Rattle.cert_scan.specs.declared.bytes.Position.TheVariants.{Number}
use Rattle.cert_scan.specs.declared.places.Place.{Place}
use Rattle.cert_scan.specs.declared.stages.Shape.{Shape}
use Rattle.cert_scan.specs.declared.scanner.Scan.{Scan}

-- the byte behind a number
byte_goes : (sh : Shape) (place : Place) (value : ℕ) (last : Bool) → moved_by sh (Number place (Some value)) (byte_behind last) ≡ taken_by sh place value last
byte_goes sh place value true = refl
byte_goes sh place value false = refl

-- where a number begins, nothing has come of it
pub number_begins : (old : Scan) (bytes : List ℕ) (place : Place) → old.position ≡ Number place None → HasRun old bytes 0 (put old (Number place None))
number_begins old bytes place is = record { within = omega arith; after = ap (put old) (sym is); nothing = refl }

digits_run : (old : Scan) (bytes : List ℕ) (at value : ℕ) (last : Bool) (behind : ℕ) (place : Place) → HasRun old bytes at (put old (Number place None))
    → (is : IsNumberAt bytes at value last behind) → HasRun old bytes (at + is.digits) (put old (Number place (Some value)))
digits_run old bytes at value last behind place before is =
    let room = is.room in
    let digits = take is.digits (drop at bytes) in
    run_more old (put old (Number place None)) (put old (Number place (Some value))) bytes at is.digits before (omega (arith, room))
    (sym (digits_scanned old place None digits (Some value) is.spells)) (digits_give old place None digits (Some value) is.spells)

-- a number behind which another one stands
pub number_run : (old : Scan) (bytes : List ℕ) (at value behind : ℕ) (place next : Place) → HasRun old bytes at (put old (Number place None))
    → IsNumberAt bytes at value false behind → taken_by old.shape place value false ≡ move (Number next None) None
    → HasRun old bytes behind (put old (Number next None))
number_run old bytes at value behind place next before is goes =
    let whole = put old (Number place (Some value)) in
    let digits = digits_run old bytes at value false behind place before is in
    subst (λ k. HasRun old bytes k (put old (Number next None))) (sym is.ends)
    (run_byte old whole (put old (Number next None)) bytes (at + is.digits) 32 None digits is.room (sym is.byte)
    (sym (quiet_gives whole 32 (Number next None) goes)) (sym (quiet_step whole 32 (Number next None) goes)) refl)

-- any number, with what is made of it
pub number_takes : (old new : Scan) (bytes : List ℕ) (at value : ℕ) (last : Bool) (behind : ℕ) (place : Place) (item : Option Item) (next : ScanMove)
    → HasRun old bytes at (put old (Number place None)) → IsNumberAt bytes at value last behind → next ≡ taken_by old.shape place value last
    → item ≡ (sifted old next).item → new ≡ moved old next → Takes old bytes behind item new
number_takes old new bytes at value last behind place item next before is taken gives after =
    let whole = put old (Number place (Some value)) in
    let goes : next ≡ moved_by old.shape (Number place (Some value)) (get_or bytes (at + is.digits) 0) =
    taken ∙ sym (ap (moved_by old.shape (Number place (Some value))) is.byte ∙ byte_goes old.shape place value last) in
    subst (λ k. Takes old bytes k item new) (sym is.ends)
    (takes_byte old whole new bytes (at + is.digits) (get_or bytes (at + is.digits) 0) item (digits_run old bytes at value last behind place before is) is.room refl
    (gives ∙ ap (λ m. (sifted old m).item) goes) (after ∙ ap (moved old) goes))

-- one that gives an item, behind which the line goes on
pub number_gives : (old new : Scan) (bytes : List ℕ) (at value behind : ℕ) (place next : Place) (item : Item) → HasRun old bytes at (put old (Number place None))
    → IsNumberAt bytes at value false behind → taken_by old.shape place value false ≡ move (Number next None) (Some item)
    → repeats_by old.shape.version old.so_far (Some item) ≡ false → new ≡ with_item (put old (Number next None)) item → Runs old bytes behind (Some item) new
number_gives old new bytes at value behind place next item before is goes quiet after =
    let given : ScanMove = move (Number next None) (Some item) in
    let kept : sifted old given ≡ given = cond-false (repeats_by old.shape.version old.so_far (Some item)) (refusal true) given quiet in
    let there : with_item (put old (Number next None)) item ≡ moved old given = λ i. record {
      shape = shape_by old.shape (sym kept i).item;
      line = line_by old.line (sym kept i).position;
      position = (sym kept i).position;
      so_far = noted_by old.shape.version old.so_far (Some item);
    } in
    takes_run old new bytes behind (Some item)
    (number_takes old new bytes at value false behind place (Some item) given before is (sym goes) (ap (λ (m : ScanMove). m.item) (sym kept)) (after ∙ there)) (λ e. cc)

-- what gave nothing
pub takes_quietly : (old new : Scan) (bytes : List ℕ) (taken : ℕ) (item : Option Item) → Takes old bytes taken item new → item ≡ None → HasRun old bytes taken new
takes_quietly old new bytes taken item t none = record { within = t.within; after = sym t.after; nothing = t.given ∙ ap option_to_list none }
