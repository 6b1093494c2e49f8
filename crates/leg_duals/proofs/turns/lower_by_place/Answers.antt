use Rattle.std.proofs.Common.{List, ℕ, slice_index, subst}
use Rattle.unit_duals.specs.Cells.{cell}
use Rattle.leg_duals.specs.Ways.{IsWay}
use Rattle.leg_duals.specs.Lowered.{IsLowered}
use Rattle.leg_duals.proofs.PlaceWays.{lowered_by_place}
use Rattle.leg_duals.proofs.turns.lower_by_place.Goals as goal

pub returns-clause-lowered : goal.returns-clause-lowered
returns-clause-lowered c =
    let w = c.args.ways.now in
    lowered_by_place w c.args.reaches.now (cell w.size c.args.values.now) c.args.t c.args.prices.now (slice_index c.lower.new.items)
    (slice_index c.lower_to_hubs.new.least) (slice_index c.lower_from_hubs.new.least) (slice_index c.lower_to_earlier.new.least)
    (slice_index c.lower_from_earlier.new.least) c.requires.reached c.requires.place c.requires.prices c.requires.before (record {
      one = subst (λ (items : List ℕ). IsLowered w.size (IsWay w c.args.t c.args.t) (slice_index items) (slice_index c.lower.new.items))
          c.requires.least c.lower.ensures.lowered;
      hubs_last = c.lower_to_hubs.ensures.lowered;
      hubs_first = c.lower_from_hubs.ensures.lowered;
      places_last = c.lower_to_earlier.ensures.lowered;
      places_first = c.lower_from_earlier.ensures.lowered;
    })
