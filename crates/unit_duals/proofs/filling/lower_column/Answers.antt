use Rattle.std.proofs.Common.{◌≡◌, ℕ, List, length, subst, sym, arith}
use Rattle.unit_duals.specs.Lengths.{stops}
use Rattle.unit_duals.specs.Lowered.{AreLowered}
use Rattle.unit_duals.specs.Values.{back_leg}
use Rattle.unit_duals.proofs.LegRows.{whole_leg_row, back_leg_limit}
use Rattle.unit_duals.proofs.TableColumns.{turned_rows, column_lowered}
use Rattle.unit_duals.proofs.filling.lower_column.Goals as goal

pub lower_by_hubs-requires-clause-rows : goal.lower_by_hubs-requires-clause-rows
lower_by_hubs-requires-clause-rows c =
    turned_rows c.args.legs.now c.args.straight.now c.args.turned.now c.args.j (length c.copy_from_slice.new.self)
    (omega (arith, c.copy_from_slice.auto.self, c.requires.column)) c.count.ensures.legs c.requires.straight c.requires.turned_long c.requires.turned

pub returns : goal.returns
returns c =
    let l = c.args.legs.now in
    let straight = c.args.straight.now in
    let copied = c.copy_from_slice.new.self in
    let column = c.lower_by_hubs.new.items in
    let long : length copied ≡ stops l = omega (arith, c.copy_from_slice.auto.self, c.requires.column) in
    let lowered : AreLowered (length copied) straight c.args.turned.now l.count l.hubs straight column =
    subst (λ (old : List ℕ). AreLowered (length copied) straight c.args.turned.now l.count l.hubs old column) c.copy_from_slice.ensures.after
    (rw (sym c.count.ensures.value, sym c.hubs.ensures.value) c.lower_by_hubs.ensures) in
    whole_leg_row (stops l) (λ k. back_leg l k c.args.j) column (omega (arith, c.lower_by_hubs.auto.items, long))
    (column_lowered l straight c.args.turned.now column c.args.j (length copied) long c.requires.straight c.requires.turned_long c.requires.turned lowered)
    (λ k below. back_leg_limit l k c.args.j c.count.ensures.legs below c.requires.destination)
