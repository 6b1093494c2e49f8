-- Numbers that stand whole in the bytes at hand.
use Rattle.std.specs.Prelude.{◌≡◌, ℕ, ◌+◌, ◌^◌, ◌<◌, ◌≤◌, Bool, true, false, List, length, take, drop, slice_index, Some, None, if◌then◌else◌}
use Rattle.cert_scan.specs.Runs.{SpellsOn}
use Rattle.core_spec.specs.MarkRanges.{most_taken}
use Rattle.cert_scan.specs.Moves.{is_later_way}
use Rattle.cert_scan.specs.declared.stages.WaysAt.{WaysAt}
use Rattle.cert_scan.specs.declared.proof_ways.Way.{Way}
use Rattle.cert_scan.specs.declared.pairs.Pair.{Pair}

-- the byte behind a number: a line feed behind the last one of a line, and else a space
abbrev pub byte_behind : Bool → ℕ
byte_behind last = if last then 10 else 32

-- the number stands at this place with the byte that ends it, and other bytes from there on
pub record IsNumberAt (bytes : List ℕ) (at value : ℕ) (last : Bool) (behind : ℕ) : Type 0 where
  pub digits : ℕ
  pub room : at + digits < length bytes
  pub spells : SpellsOn None (take digits (drop at bytes)) (Some value)
  pub byte : slice_index bytes (at + digits) ≡ byte_behind last
  pub ends : behind ≡ at + digits + 1

-- the number of one of n nodes after the one before it, and a value
pub record IsPairAhead (n before : ℕ) (bytes : List ℕ) (pair : Pair) : Type 0 where
  pub at : ℕ
  pub node : IsNumberAt bytes 0 pair.number false at
  pub above : before < pair.number
  pub within : pair.number ≤ n
  pub amount : IsNumberAt bytes at pair.value pair.last pair.behind
  pub some : 1 ≤ pair.value
  pub few : pair.value < 2 ^ 64

-- the numbers of two of n nodes, of which the first is not above the second, behind the way before, and how often that way
-- is taken
pub record IsWayAhead (n : ℕ) (at : WaysAt) (bytes : List ℕ) (way : Way) : Type 0 where
  pub between : ℕ
  pub next : ℕ
  pub first : IsNumberAt bytes 0 way.from false between
  pub second : IsNumberAt bytes between way.to false next
  pub node : 1 ≤ way.from
  pub order : way.from ≤ way.to
  pub within : way.to ≤ n
  pub behind : is_later_way at way.from way.to ≡ true
  pub third : IsNumberAt bytes next way.taken way.last way.behind
  pub some : 1 ≤ way.taken
  pub few : way.taken ≤ most_taken
