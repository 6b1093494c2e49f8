use Rattle.std.proofs.Common.{◌≡◌, ℕ, List, length, subst, sym, arith}
use Rattle.unit_duals.specs.Lengths.{stops}
use Rattle.unit_duals.specs.Lowered.{AreRows, AreLowered}
use Rattle.unit_duals.specs.Values.{reach_leg}
use Rattle.unit_duals.proofs.LegRows.{whole_leg_row, reach_leg_limit}
use Rattle.unit_duals.proofs.LoweredRows.{trunk_rows, reach_lowered}
use Rattle.unit_duals.proofs.lengths.set_reach.Goals as goal

pub lower_by_hubs-requires-clause-rows : goal.lower_by_hubs-requires-clause-rows
lower_by_hubs-requires-clause-rows c =
    let l = c.args.tables.now.legs in
    let first = c.args.first.now in
    let n = length c.copy_from_slice.new.self in
    subst (AreRows n first) (sym c.trunk.ensures.value)
    (trunk_rows l first n (omega (arith, c.copy_from_slice.auto.self, c.requires.long)) c.trunk.ensures.legs c.requires.first)

pub returns-then-count-gt0-clause-legs : goal.returns-then-count-gt0-clause-legs
returns-then-count-gt0-clause-legs c =
    let l = c.args.tables.now.legs in
    let first = c.args.first.now in
    let copied = c.copy_from_slice.new.self in
    let reach = c.lower_by_hubs.new.items in
    let long : length copied ≡ stops l = omega (arith, c.copy_from_slice.auto.self, c.requires.long) in
    let lowered : AreLowered (length copied) first l.trunk l.count l.hubs first reach =
    subst (λ (old : List ℕ). AreLowered (length copied) first l.trunk l.count l.hubs old reach) c.copy_from_slice.ensures.after
    (rw (sym c.trunk.ensures.value, sym c.count-then-count-gt0.ensures.value, sym c.hubs.ensures.value) c.lower_by_hubs.ensures) in
    let row = whole_leg_row (stops l) (reach_leg l first) reach (omega (arith, c.lower_by_hubs.auto.items, long))
    (reach_lowered l first (length copied) reach long lowered)
    (λ k below. reach_leg_limit l first k c.requires.first below) in
    record { long = row.long; limit = row.limit }

pub returns-then-count-gt0-clause-each : goal.returns-then-count-gt0-clause-each
returns-then-count-gt0-clause-each c =
    let l = c.args.tables.now.legs in
    let first = c.args.first.now in
    let copied = c.copy_from_slice.new.self in
    let reach = c.lower_by_hubs.new.items in
    let long : length copied ≡ stops l = omega (arith, c.copy_from_slice.auto.self, c.requires.long) in
    let lowered : AreLowered (length copied) first l.trunk l.count l.hubs first reach =
    subst (λ (old : List ℕ). AreLowered (length copied) first l.trunk l.count l.hubs old reach) c.copy_from_slice.ensures.after
    (rw (sym c.trunk.ensures.value, sym c.count-then-count-gt0.ensures.value, sym c.hubs.ensures.value) c.lower_by_hubs.ensures) in
    λ k place. reach_lowered l first (length copied) reach long lowered k (omega (arith, place))
