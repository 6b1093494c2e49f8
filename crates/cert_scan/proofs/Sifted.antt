-- A scan gives what its walk gives, where no dual repeats the one before it.
use Rattle.std.proofs.Common.{◌≡◌, ℕ, Bool, true, false, ◌||◌, List, [], ◌∷◌, ◌++◌, Option, refl, sym, ap, ◌∙◌}
use Rattle.std.specs.Prelude.{option_to_list}
use Rattle.std.proofs.lemmas.Bool.{cond-false, false≢true}
use Rattle.cert_scan.specs.Moves.{refusal, moved_by}
use Rattle.cert_scan.specs.Scans as scan
use Rattle.cert_scan.specs.Scans.{shape_by}
use Rattle.cert_scan.specs.Repeats.{DualSoFar, noted_by, repeats_by}
use Rattle.cert_scan.proofs.Goes.{Walk, walk_of, given_by, stepped, scanned, given_all}
use Rattle.cert_scan.proofs.Repeated.{noted_all, shape_all, shape_all-append, repeats_in, repeats_in-append, noted_one, repeats_one, shape_one}
use Rattle.cert_scan.specs.declared.items.Item.{Item}
use Rattle.cert_scan.specs.declared.bytes.ScanMove.{ScanMove}
use Rattle.cert_scan.specs.declared.scanner.Scan.{Scan}

-- the shape of a walk is what its items tell
pub shape_told : (a : Walk) (bytes : List ℕ) → shape_all a.shape (given_all a bytes) ≡ (scanned a bytes).shape
shape_told a [] = refl
shape_told a (byte ∷ bytes) =
    let item = given_by a byte in
    shape_all-append a.shape (option_to_list (given_by a byte)) (given_all (stepped a byte) bytes)
    ∙ ap (λ s. shape_all s (given_all (stepped a byte) bytes)) (shape_one a.shape item) ∙ shape_told (stepped a byte) bytes

-- neither, where not one of both
record Neither (a b : Bool) : Type 0 where
  left : a ≡ false
  right : b ≡ false

neither : (a b : Bool) → (a || b) ≡ false → Neither a b
neither true b e = absurd (false≢true (sym e))
neither false b e = record { left = refl; right = e }

pub quiet_front : (a : Walk) (so_far : DualSoFar) (xs ys : List Item) → repeats_in a.shape so_far (xs ++ ys) ≡ false → repeats_in a.shape so_far xs ≡ false
quiet_front a so_far xs ys e =
    (neither (repeats_in a.shape so_far xs) (repeats_in (shape_all a.shape xs) (noted_all a.shape so_far xs) ys) (sym (repeats_in-append a.shape so_far xs ys) ∙ e)).left

pub given_same : (s : Scan) (bytes : List ℕ) → repeats_in s.shape s.so_far (given_all (walk_of s) bytes) ≡ false → scan.given_all s bytes ≡ given_all (walk_of s) bytes
given_same s [] e = refl
given_same s (byte ∷ bytes) e =
    let next : ScanMove = moved_by s.shape s.position byte in
    let item : Option Item = (moved_by s.shape s.position byte).item in
    let rest = given_all (stepped (walk_of s) byte) bytes in
    let split = neither (repeats_in s.shape s.so_far (option_to_list item))
    (repeats_in (shape_all s.shape (option_to_list item)) (noted_all s.shape s.so_far (option_to_list item)) rest)
    (sym (repeats_in-append s.shape s.so_far (option_to_list item) rest) ∙ e) in
    let quiet : repeats_by s.shape.version s.so_far item ≡ false = sym (repeats_one s.shape s.so_far item) ∙ split.left in
    let kept : scan.sifted s next ≡ next = cond-false (repeats_by s.shape.version s.so_far item) (refusal true) next quiet in
    let later : Scan = record {
      shape = shape_by s.shape item;
      line = scan.line_by s.line next.position;
      position = next.position;
      so_far = noted_by s.shape.version s.so_far item;
    } in
    let there : scan.stepped s byte ≡ later = λ i. record {
      shape = shape_by s.shape (kept i).item;
      line = scan.line_by s.line (kept i).position;
      position = (kept i).position;
      so_far = noted_by s.shape.version s.so_far item;
    } in
    let more : repeats_in later.shape later.so_far rest ≡ false =
    (λ i. repeats_in (sym (shape_one s.shape item) i) (sym (noted_one s.shape s.so_far item) i) rest) ∙ split.right in
    (λ i. option_to_list (kept i).item ++ scan.given_all (there i) bytes) ∙ ap (λ l. option_to_list item ++ l) (given_same later bytes more)
