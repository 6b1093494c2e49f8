-- A row of the row layout, and the map that holds what the rows so far say.
use Rattle.std.specs.Prelude.{◌≡◌, ℕ, ◌+◌, ◌-◌, ◌*◌, ◌/◌, ◌%◌, ◌<◌, ◌≤◌, Bool, true, not, ◌&&◌, List, map, length, find, Option, Some, None, option_map, is_some, nat_eq, ◌⊎◌, cond}
use Rattle.std.specs.Ordering.{nat_cmp}
use Rattle.std.specs.List.{range_with_len}
use Rattle.std.specs.BTreeMap.{BTreeMap, get}
use Rattle.file_spec.specs.Faults.{Fault, repeated, missing_pair}
use Rattle.text_spec.specs.Tokens.{Token, tokens_of}
use Rattle.file_spec.specs.Places.{field_wanted, value_at}
use Rattle.file_spec.specs.RowLayout.{row_start, row_count, row_fault, row_of}
use Rattle.file_spec.specs.Files.{file_size, divided_distance}
use Rattle.hub_model.specs.Faults.{fault_of}
use Rattle.hub_model.specs.declared.faults.Refusal.{Refusal}
use Rattle.hub_model.specs.declared.faults.Refusal.TheVariants.{Fault as of_fault, OutOfMemory}
use Rattle.token_reader.specs.Unread.{Unread, later, fault_here, value_here}
use Rattle.instance_cab.specs.declared.rows.Listed.{Listed}

-- the number of the commodity that the next row is of
unfoldable pub commodity_here : ℕ → Unread → ℕ
commodity_here n r = (value_here 0 r - 1) * n + (value_here 0 (later 1 r) - 1)

-- what the next row says of it
unfoldable pub listed_here : Unread → Listed
listed_here r = record { flow = value_here 6 (later 2 r); distance = value_here 3 (later 3 r) }

-- the four tokens of the next row have no fault
pub record IsRowLegal (n : ℕ) (r : Unread) : Type 0 where
  pub each : (field : ℕ) → field < 4 → fault_here (field_wanted n field) (later field r) ≡ None

-- the first fault of the four tokens of the next row
pub record IsRowFault (n : ℕ) (r : Unread) (fault : Fault) : Type 0 where
  pub field : ℕ
  pub within : field < 4
  pub before : (earlier : ℕ) → earlier < field → fault_here (field_wanted n earlier) (later earlier r) ≡ None
  pub here : fault_here (field_wanted n field) (later field r) ≡ Some fault

-- what the rows so far say of each commodity, by its number
abbrev pub Taken : Type 0
Taken = BTreeMap ℕ Listed

abbrev pub taken_at : Taken → ℕ → Option Listed
taken_at taken s = get nat_cmp taken s

-- one more row is taken
abbrev pub TakesIn : Taken → Taken → ℕ → Listed → Type 0
TakesIn old new s listed = (q : ℕ) → taken_at new q ≡ cond (nat_eq s q) (Some listed) (taken_at old q)

-- the next row is legal by itself, and its commodity has a row already
pub record IsRepeat (n : ℕ) (r : Unread) (taken : Taken) (fault : Fault) : Type 0 where
  pub legal : IsRowLegal n r
  pub stands : is_some (taken_at taken (commodity_here n r)) ≡ true
  pub is : fault ≡ repeated (commodity_here n r / n) (commodity_here n r % n)

-- the next row was refused for its fault; want of memory says nothing
abbrev pub IsRowRefused : ℕ → Unread → Taken → Refusal → Type 0
IsRowRefused n r taken (of_fault f) = IsRowFault n r (fault_of f) ⊎ IsRepeat n r taken (fault_of f)
IsRowRefused n r taken OutOfMemory = Unit {0}

-- the flow and the distance of a commodity, 0 where no row is of it
abbrev pub flow_of : Option Listed → ℕ
flow_of None = 0
flow_of (Some listed) = listed.flow

abbrev pub distance_of : Option Listed → ℕ
distance_of None = 0
distance_of (Some listed) = listed.distance

-- the flows and the divided distances of the first m commodities
unfoldable pub listed_flows : Taken → ℕ → List ℕ
listed_flows taken m = map (λ s. flow_of (taken_at taken s)) (range_with_len 0 m)

unfoldable pub listed_distances : ℕ → ℕ → Taken → ℕ → List ℕ
listed_distances divide n taken m = map (λ s. divided_distance divide n s (distance_of (taken_at taken s))) (range_with_len 0 m)

-- the commodity leads from one node to another, and no row is of it
abbrev pub lacks : ℕ → Taken → ℕ → Bool
lacks n taken s = not (nat_eq (s / n) (s % n)) && not (is_some (taken_at taken s))

-- the first of the first m commodities that lacks its row
unfoldable pub first_lack : ℕ → Taken → ℕ → Option ℕ
first_lack n taken m = find (lacks n taken) (range_with_len 0 m)

-- the file was refused for the first commodity that lacks its row; want of memory says nothing
abbrev pub IsLack : ℕ → Taken → Refusal → Type 0
IsLack n taken (of_fault f) = option_map (λ s. missing_pair (s / n) (s % n)) (first_lack n taken (n * n)) ≡ Some (fault_of f)
IsLack n taken OutOfMemory = Unit {0}

-- what row r of the file says of its commodity
unfoldable pub listed_at : List Token → ℕ → Listed
listed_at tokens r = record { flow = value_at tokens 6 (row_start r + 2); distance = value_at tokens 3 (row_start r + 3) }

-- the file has n nodes and whole rows, none of its tokens has a fault, and this is what its rows say
pub record IsListing (bytes : List ℕ) (n : ℕ) (taken : Taken) : Type 0 where
  pub size : n ≡ file_size (tokens_of bytes)
  pub whole_rows : length (tokens_of bytes) ≡ 1 + 4 * row_count (tokens_of bytes)
  pub legal : (t : ℕ) → 1 ≤ t → t ≤ length (tokens_of bytes) → row_fault n (tokens_of bytes) t ≡ None
  pub holds : (s : ℕ) → taken_at taken s ≡ option_map (listed_at (tokens_of bytes)) (row_of n (tokens_of bytes) s)
