-- What a shelf in memory holds and has left.
use Rattle.std.specs.Prelude.{◌≡◌, ◌<◌, ℕ, min, max, List, Bool, Option, None, Some, IsSome, length, take, drop, find, option_map, slice_get, bytes_eq, string_bytes}
use Rattle.std.specs.Io.KnownBytes.{Consumes, IsAtEnd}
use Rattle.hub_io.specs.Outside.{Starts}
use Rattle.hub_io.specs.declared.mem_shelf.MemFile.{MemFile}
use Rattle.hub_io.specs.declared.mem_shelf.ShelfPlace.{ShelfPlace}

-- whether the file has this name
abbrev pub has_name : List ℕ → MemFile → Bool
has_name name file = bytes_eq (string_bytes file.name) name

-- the bytes of the first file of that name
abbrev pub held_bytes : List MemFile → List ℕ → Option (List ℕ)
held_bytes files name = option_map (λ f. f.bytes.items) (find (has_name name) files)

-- the bytes from a place on
abbrev pub left_bytes : List MemFile → Option ShelfPlace → Option (List ℕ)
left_bytes files None = None
left_bytes files (Some place) = option_map (λ f. drop place.byte f.bytes.items) (slice_get files place.file)

-- the file of that number is the first of that name and is at its first byte, or no file has the name
abbrev pub Finds : List MemFile → List ℕ → Option ℕ → Type 0
Finds files name None = held_bytes files name ≡ None
Finds files name (Some file) = Starts (Some (held_bytes files)) name (left_bytes files (Some (record { file = file; byte = 0 })))

-- how many bytes a read gives at most that asks for so many, where a length may bound it
abbrev pub most_given : Option ℕ → ℕ → ℕ
most_given None asked = asked
most_given (Some most) asked = min (max most 1) asked

-- Bytes were read from what was left, as `Shelf` says it, or nothing was begun. `left_at` is what is left from a place
-- on.
abbrev pub ReadsOn : Option (List ℕ) → (ShelfPlace → Option (List ℕ)) → Option (ShelfPlace × ℕ) → List ℕ → Type 0
ReadsOn left left_at None into = left ≡ None
ReadsOn left left_at (Some r) into = IsSome left × IsSome (left_at r.0) × Consumes left (left_at r.0) (take r.1 into) × (r.1 ≡ 0 → 0 < length into → IsAtEnd (left_at r.0))
