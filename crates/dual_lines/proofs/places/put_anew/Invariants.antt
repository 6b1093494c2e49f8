use Rattle.std.proofs.Common.{ℕ, map}
use Rattle.std.specs.List.Sorted.{IsStrictlyIncreasing}
use Rattle.hub_spec.specs.Problem.{Problem}
use Rattle.hub_spec.specs.Cuts.{value_at}
use Rattle.dual_lines.specs.Places.{ArePlaces}
use Rattle.dual_lines.specs.Units.{AreUnits}
use Rattle.dual_lines.proofs.UnitsAnew.{ArePutUpTo}
use Rattle.dual_lines.proofs.places.put_anew.Given as goal

abbrev pub invariant-loop-entry : goal.invariant-loop-entry
invariant-loop-entry l = (p : Problem) (before : ℕ) → ArePlaces p l.places → IsStrictlyIncreasing (map (λ (e : ℕ × ℕ). e.0) l.listed)
    → AreUnits p before (value_at l.listed) l.fn.units → ArePutUpTo p l.carried l.listed l.entry-index l.units
