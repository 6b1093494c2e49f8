-- What an explicit cut holds.
use Rattle.std.specs.Prelude.{All}
use Rattle.hub_spec.specs.Cuts.{Cut}
use Rattle.cut_model.specs.Runs.{run_duals, IsRunOf, HaveEnds}
use Rattle.cut_model.specs.declared.cuts.StatedCut.TheInside.{Inside}

-- the cut that is held
abbrev pub held_cut : Inside → Cut
held_cut s = record { part = s.part; duals = run_duals s.values.items s.runs.items }

-- its runs stand among its values, and have their ends
pub record IsHeldCut (s : Inside) : Type 0 where
  pub runs : All (IsRunOf s.values.items) s.runs.items
  pub ends : HaveEnds s.runs.items s.count
