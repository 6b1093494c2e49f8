-- The matrices and fixed costs of a file, and what they are read as.
use Rattle.std.specs.Prelude.{ℕ, ◌≤◌, List, length, map, None, slice_index}
use Rattle.std.specs.List.{range_with_len}
use Rattle.file_spec.specs.Options.{Order, flow_first, distance_first}
use Rattle.file_spec.specs.Contents.{Contents}
use Rattle.file_spec.specs.Places.{Wanted, a_flow, a_distance, a_cost}
use Rattle.file_spec.specs.Files.{divided_distance}
use Rattle.token_reader.specs.Unread.{Unread, later, value_here}
use Rattle.instance_cab.specs.declared.kinds.ListKind.{ListKind}
use Rattle.instance_cab.specs.declared.kinds.ListKind.TheVariants.{Flow, Distance, Cost}

-- what the numbers of this kind are to be
abbrev pub places_of : ListKind → ℕ
places_of Flow = 6
places_of (Distance divide) = 3
places_of Cost = 6

abbrev pub wanted_of : ListKind → Wanted
wanted_of Flow = a_flow
wanted_of (Distance divide) = a_distance
wanted_of Cost = a_cost

-- distances are divided by 1 or more
abbrev pub IsKind : ListKind → Type 0
IsKind Flow = Unit {0}
IsKind (Distance divide) = 1 ≤ divide
IsKind Cost = Unit {0}

-- what is kept of the number s of its list, with n nodes
abbrev pub kept_of : ListKind → ℕ → ℕ → ℕ → ℕ
kept_of Flow n s read = read
kept_of (Distance divide) n s read = divided_distance divide n s read
kept_of Cost n s read = read

-- what is kept of the next m numbers of a list
unfoldable pub kept_front : ListKind → ℕ → ℕ → Unread → List ℕ
kept_front kind n m r = map (λ s. kept_of kind n s (value_here (places_of kind) (later s r))) (range_with_len 0 m)

-- a list of distances, divided, with n nodes
unfoldable pub divided_list : ℕ → ℕ → List ℕ → List ℕ
divided_list divide n read = map (λ s. divided_distance divide n s (slice_index read s)) (range_with_len 0 (length read))

-- the kinds of the two matrices, in the order of the file
abbrev pub first_kind : Order → ℕ → ListKind
first_kind flow_first divide = Flow
first_kind distance_first divide = Distance divide

abbrev pub second_kind : Order → ℕ → ListKind
second_kind flow_first divide = Distance divide
second_kind distance_first divide = Flow

-- the contents of a file with these matrices, in the order of the file
abbrev pub contents_with : Order → ℕ → List ℕ → List ℕ → Contents
contents_with flow_first n first second = record { size = n; flows = first; distances = second; collect = 1000; trunk = 1000; deliver = 1000; listed_p = None; costs = None }
contents_with distance_first n first second = record { size = n; flows = second; distances = first; collect = 1000; trunk = 1000; deliver = 1000; listed_p = None; costs = None }
