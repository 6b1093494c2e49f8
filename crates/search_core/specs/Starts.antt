-- What a search begins again with, as its definition has it.
use Rattle.search_spec.specs.Again.{Start}
use Rattle.search_core.specs.declared.starts.Start as model

-- the cuts and the hubs of it
abbrev pub start_seen : model.Start → Start
start_seen s = record { cuts = s.cuts.items; hubs = s.hubs.items }
