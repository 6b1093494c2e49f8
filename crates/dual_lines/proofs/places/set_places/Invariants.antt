use Rattle.dual_lines.proofs.SetPlaces.{ArePlacesUpTo}
use Rattle.dual_lines.proofs.places.set_places.Given as goal

abbrev pub invariant-loop-x : goal.invariant-loop-x
invariant-loop-x l = ArePlacesUpTo l.instance l.x l.places
