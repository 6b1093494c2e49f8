-- Bytes that a scan takes.
use Rattle.std.proofs.Common.{◌≡◌, ℕ, true, List, [], ◌∷◌, ◌++◌, None, refl, sym, ap, ◌∙◌, append_assoc}
use Rattle.std.specs.Prelude.{option_to_list}
use Rattle.std.proofs.lemmas.Bool.{cond-false}
use Rattle.cert_scan.specs.Moves.{move, refusal, moved_by}
use Rattle.cert_scan.specs.Scans.{shape_by, line_by, sifted, moved, given_by, stepped, scanned, given_all}
use Rattle.cert_scan.specs.Repeats.{DualSoFar, noted_by, repeats_by}
use Rattle.cert_scan.proofs.Repeated.{noted_none, none_repeats}
use Rattle.cert_scan.specs.declared.bytes.ScanMove.{ScanMove}
use Rattle.cert_scan.specs.declared.bytes.Position.{Position}
use Rattle.cert_scan.specs.declared.stages.Shape.{Shape}
use Rattle.cert_scan.specs.declared.scanner.Scan.{Scan}

pub scanned-append : (a : Scan) (xs ys : List ℕ) → scanned a (xs ++ ys) ≡ scanned (scanned a xs) ys
scanned-append a [] ys = refl
scanned-append a (x ∷ xs) ys = scanned-append (stepped a x) xs ys

pub given_all-append : (a : Scan) (xs ys : List ℕ) → given_all a (xs ++ ys) ≡ given_all a xs ++ given_all (scanned a xs) ys
given_all-append a [] ys = refl
given_all-append a (x ∷ xs) ys =
    ap (λ l. option_to_list (given_by a x) ++ l) (given_all-append (stepped a x) xs ys)
    ∙ sym (append_assoc (option_to_list (given_by a x)) (given_all (stepped a x) xs) (given_all (scanned a (x ∷ xs)) ys))

-- a scan by its parts
abbrev pub scan_at : Shape → ℕ → Position → DualSoFar → Scan
scan_at sh line position so_far = record { shape = sh; line = line; position = position; so_far = so_far }

-- a move that gives nothing repeats nothing
pub sifted_quiet : (s : Scan) (position : Position) → sifted s (move position None) ≡ move position None
sifted_quiet s position =
    cond-false (repeats_by s.shape.version s.so_far None) (refusal true) (move position None) (none_repeats s.shape.version s.so_far)

pub moved_quiet : (s : Scan) (position : Position) → moved s (move position None) ≡ scan_at s.shape (line_by s.line position) position s.so_far
moved_quiet s position =
    let kept = sifted_quiet s position in
    let next : Scan = record { shape = s.shape; line = line_by s.line position; position = position; so_far = noted_by s.shape.version s.so_far None } in
    let first : moved s (move position None) ≡ next = λ i. record {
      shape = shape_by s.shape (kept i).item;
      line = line_by s.line (kept i).position;
      position = (kept i).position;
      so_far = noted_by s.shape.version s.so_far None;
    } in
    first ∙ ap (scan_at s.shape (line_by s.line position) position) (sym (noted_none s.shape.version s.so_far))

-- a byte that gives nothing
pub quiet_step : (s : Scan) (byte : ℕ) (position : Position) → moved_by s.shape s.position byte ≡ move position None
    → stepped s byte ≡ scan_at s.shape (line_by s.line position) position s.so_far
quiet_step s byte position e = ap (moved s) e ∙ moved_quiet s position

pub quiet_gives : (s : Scan) (byte : ℕ) (position : Position) → moved_by s.shape s.position byte ≡ move position None → given_by s byte ≡ None
quiet_gives s byte position e = ap (λ m. (sifted s m).item) e ∙ ap (λ (m : ScanMove). m.item) (sifted_quiet s position)

-- and behind it others
pub quiet_scanned : (s end : Scan) (byte : ℕ) (position : Position) (bytes : List ℕ) → moved_by s.shape s.position byte ≡ move position None
    → scanned (scan_at s.shape (line_by s.line position) position s.so_far) bytes ≡ end → scanned s (byte ∷ bytes) ≡ end
quiet_scanned s end byte position bytes e more = ap (λ x. scanned x bytes) (quiet_step s byte position e) ∙ more

pub quiet_given : (s : Scan) (byte : ℕ) (position : Position) (bytes : List ℕ) → moved_by s.shape s.position byte ≡ move position None
    → given_all (scan_at s.shape (line_by s.line position) position s.so_far) bytes ≡ [] → given_all s (byte ∷ bytes) ≡ []
quiet_given s byte position bytes e more =
    (λ i. option_to_list (quiet_gives s byte position e i) ++ given_all (quiet_step s byte position e i) bytes) ∙ more
