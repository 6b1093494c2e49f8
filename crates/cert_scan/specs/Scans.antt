-- A scan as the bytes that have come make it.
use Rattle.std.specs.Prelude.{ℕ, ◌+◌, true, List, [], ◌∷◌, ◌++◌, Option, Some, None, option_to_list, nat_lt, if◌then◌else◌}
use Rattle.cert_scan.specs.Moves.{refusal, moved_by}
use Rattle.cert_scan.specs.Repeats.{no_dual, noted_by, repeats_by}
use Rattle.cert_scan.specs.declared.items.Item.{Item}
use Rattle.cert_scan.specs.declared.items.Item.TheVariants.{Version as version_item, Size as size_item}
use Rattle.cert_scan.specs.declared.items.Fault.{Fault}
use Rattle.cert_scan.specs.declared.items.Fault.TheVariants.{BadLine, Ended}
use Rattle.cert_scan.specs.declared.stages.Stage.TheVariants.{Version, Nothing}
use Rattle.cert_scan.specs.declared.items.Version.TheVariants.{First}
use Rattle.cert_scan.specs.declared.stages.Shape.{Shape}
use Rattle.cert_scan.specs.declared.bytes.ScanMove.{ScanMove}
use Rattle.cert_scan.specs.declared.bytes.Position.{Position}
use Rattle.cert_scan.specs.declared.bytes.Position.TheVariants.{Start, Failed}
use Rattle.cert_scan.specs.declared.scanner.Scan.{Scan}

-- what is held of a text that has told nothing
abbrev pub new_shape : Shape
new_shape = record { version = First; n = 0 }

-- the scan of no bytes
abbrev pub new_scan : Scan
new_scan = record { shape = new_shape; line = 1; position = Start Version; so_far = no_dual }

-- the version and the number of nodes, once an item tells them
abbrev pub shape_by : Shape → Option Item → Shape
shape_by s (Some (version_item version)) = record { version = version; n = s.n }
shape_by s (Some (size_item nodes q)) = record { version = s.version; n = nodes }
shape_by s item = s

-- the next line begins; numbers end at 2^64 - 1
abbrev pub line_by : ℕ → Position → ℕ
line_by line (Start stage) = if nat_lt line 18446744073709551615 then line + 1 else line
line_by line position = line

-- the move, but that a line is not as wanted that ends with a dual which repeats the one before it
abbrev pub sifted : Scan → ScanMove → ScanMove
sifted scan next = if repeats_by scan.shape.version scan.so_far next.item then refusal true else next

-- the scan at another position
abbrev pub put : Scan → Position → Scan
put scan position = record { shape = scan.shape; line = scan.line; position = position; so_far = scan.so_far }

-- the scan that has noted an item
abbrev pub with_item : Scan → Item → Scan
with_item scan item = record {
  shape = shape_by scan.shape (Some item);
  line = scan.line;
  position = scan.position;
  so_far = noted_by scan.shape.version scan.so_far (Some item);
}

-- the scan behind a move
abbrev pub moved : Scan → ScanMove → Scan
moved scan next =
    let kept = sifted scan next in
    record {
      shape = shape_by scan.shape kept.item;
      line = line_by scan.line kept.position;
      position = kept.position;
      so_far = noted_by scan.shape.version scan.so_far next.item;
    }

-- the item that a byte gives, if any
abbrev pub given_by : Scan → ℕ → Option Item
given_by scan byte = (sifted scan (moved_by scan.shape scan.position byte)).item

-- the scan with one byte more
abbrev pub stepped : Scan → ℕ → Scan
stepped scan byte = moved scan (moved_by scan.shape scan.position byte)

-- the fault where the bytes end
abbrev pub fault_at : ℕ → Position → Option Fault
fault_at line (Start Nothing) = None
fault_at line Failed = Some (BadLine line)
fault_at line position = Some (Ended line)

abbrev pub fault_by : Scan → Option Fault
fault_by scan = fault_at scan.line scan.position

-- the scan after these bytes
abbrev pub scanned : Scan → List ℕ → Scan
scanned scan [] = scan
scanned scan (byte ∷ bytes) = scanned (stepped scan byte) bytes

-- the items that they give
abbrev pub given_all : Scan → List ℕ → List Item
given_all scan [] = []
given_all scan (byte ∷ bytes) = option_to_list (given_by scan byte) ++ given_all (stepped scan byte) bytes
