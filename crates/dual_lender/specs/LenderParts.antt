-- The parts of a workspace for duals of stored cuts.
use Rattle.std.specs.Prelude.{◌≡◌, ◌*◌, ◌≤◌, length, vec_len}
use Rattle.hub_spec.specs.Cuts.{Prices}
use Rattle.pareto_cuts.specs.Scratches.{ScratchParts}
use Rattle.dual_lender.specs.Lenders.{RoomState, LenderState, no_dual}
use Rattle.dual_lender.specs.declared.value_rooms.ValueRoom.TheInside.{Inside}

-- they are for the nodes and the candidates of the problem of the tables
pub record IsValueRoom (s : Inside) : Type 0 where
  pub rows : vec_len s.rows ≡ s.tables.now.size * length s.tables.now.candidates
  pub prices : vec_len s.prices ≡ s.tables.now.size
  pub scratch : s.scratch ≡ length s.tables.now.candidates
  pub made : length s.tables.now.candidates ≤ s.made.room

-- a workspace with what makes the duals, that holds none yet
abbrev pub lender_with : RoomState → ScratchParts → (stated : Prices) → LenderState
lender_with values sets stated = record { values = values; sets = sets; stated = stated; held = no_dual }
