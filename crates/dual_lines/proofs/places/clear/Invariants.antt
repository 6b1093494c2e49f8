use Rattle.std.proofs.Common.{◌≡◌, ℕ, ◌≤◌, length, drop, get_or}
use Rattle.hub_spec.specs.Cuts.{value_at}
use Rattle.dual_lines.specs.Places.{IsPlaceOf, IsWithinListed}
use Rattle.dual_lines.proofs.places.clear.Given as goal

abbrev pub invariant-loop-entry : goal.invariant-loop-entry
invariant-loop-entry l = record {
  amounts : (k : ℕ) → get_or l.amounts k 0 ≤ value_at (drop l.entry-index l.listed) k;
  long : length l.amounts ≡ length l.places;
  places : length l.units ≡ length l.fn.units;
  units : (node : ℕ → ℕ) → IsPlaceOf (length l.fn.units) node l.places → IsWithinListed (length l.fn.units) node l.listed l.fn.units
      → IsWithinListed (length l.fn.units) node (drop l.entry-index l.listed) l.units;
}
