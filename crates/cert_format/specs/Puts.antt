-- Lines put through a buffer.
use Rattle.std.specs.Prelude.{ℕ, List, Option, Result, flat_map}
use Rattle.cert_spec.specs.Lines.{Item}
use Rattle.cert_spec.specs.Text.{line_bytes}
use Rattle.hub_io.specs.Outside.{PutsThrough}

-- the line of this item was put behind what waited
abbrev pub PutsLine : {K E : Type 0} → (K → Option (List ℕ)) → (K → ℕ) → K → K → List ℕ → List ℕ → Result (Unit {0}) E → Item → Type 0
PutsLine taken faults old new waiting rest result item = PutsThrough taken faults old new waiting rest result (line_bytes item)

-- the lines of these items were put behind what waited
abbrev pub PutsLines : {K E : Type 0} → (K → Option (List ℕ)) → (K → ℕ) → K → K → List ℕ → List ℕ → Result (Unit {0}) E → List Item → Type 0
PutsLines taken faults old new waiting rest result items = PutsThrough taken faults old new waiting rest result (flat_map line_bytes items)
