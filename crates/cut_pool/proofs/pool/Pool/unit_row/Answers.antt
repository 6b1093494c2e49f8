use Rattle.std.proofs.Common.{◌≡◌, ◌+◌, ◌/◌, map, get_or, sym, ap, ap₂, ◌∙◌, arith}
use Rattle.cut_pool.specs.Entries.{PoolState, Entry, entry_at, entry_part}
use Rattle.cut_pool.specs.PoolParts.{state_of}
use Rattle.cut_pool.specs.Shorts.{unit_row}
use Rattle.cut_pool.specs.Units.{kept_row}
use Rattle.cut_pool.proofs.Entered.{pool_columns, parts_column, place_below, place_column, place_row}
use Rattle.cut_pool.proofs.pool.Pool.unit_row.Goals as goal
use Rattle.cut_pool.proofs.pool.Pool.unit_row.Goals.{After-deref-2}

pub offset_bounds-parts-place : goal.offset_bounds-parts-place
offset_bounds-parts-place c =
    omega (arith, place_below c.self.inside _ c.args.place c.self.invariant c.self.view_is c.requires, c.self.invariant.most)

pub bounds-parts-place : goal.bounds-parts-place
bounds-parts-place c =
    omega (arith, place_below c.self.inside _ c.args.place c.self.invariant c.self.view_is c.requires, c.parts.ensures.long)

pub offset_bounds-loads-place : goal.offset_bounds-loads-place
offset_bounds-loads-place c =
    omega (arith, place_below c.self.inside _ c.args.place c.self.invariant c.self.view_is c.requires, c.self.invariant.most)

pub bounds-loads-place : goal.bounds-loads-place
bounds-loads-place c =
    omega (arith, place_below c.self.inside _ c.args.place c.self.invariant c.self.view_is c.requires, c.loads.ensures.long)

-- the entry at the place
abbrev entry : After-deref-2 → Entry
entry c = entry_at (state_of c.self.inside).entries (c.args.place + 1)

part_is : (c : After-deref-2) → get_or c.parts.result.now c.args.place 0 ≡ entry_part (entry c)
part_is c =
    place_column entry_part c.self.inside c.self.invariant c.parts.result.now c.args.place 0
    (parts_column c.self.inside c.self.invariant ∙ sym c.parts.ensures.value)
    (place_below c.self.inside _ c.args.place c.self.invariant c.self.view_is c.requires)

loads_are : (c : After-deref-2) → c.deref.result.now ≡ (entry c).loads
loads_are c =
    c.deref.ensures.value
    ∙ place_row (λ e. e.loads) c.self.inside c.self.invariant c.loads.result.now c.index-loads-place.result c.args.place
    ((pool_columns c.self.inside c.self.invariant).loads ∙ sym c.loads.ensures.value) c.index-loads-place.is
    (place_below c.self.inside _ c.args.place c.self.invariant c.self.view_is c.requires)

pub for_one_unit-requires : goal.for_one_unit-requires
for_one_unit-requires c =
    let after = (goal.at.for_one_unit-requires c).After-deref-2 in
    c.deref-2.ensures.value
    ∙ place_row (λ e. kept_row (entry_part e) e.loads) c.self.inside c.self.invariant c.rows.result.now c.index-rows-place.result c.args.place
    (sym c.self.invariant.units.rows ∙ sym c.rows.ensures) c.index-rows-place.is
    (place_below c.self.inside _ c.args.place c.self.invariant c.self.view_is c.requires)
    ∙ sym (ap₂ kept_row (part_is after) (loads_are after))

pub returns : goal.returns
returns c =
    let after = (goal.at.returns c).After-deref-2 in
    c.for_one_unit.ensures ∙ ap₂ (λ part loads. map (λ u. u / part) loads) (part_is after) (loads_are after)
    ∙ ap (λ (p : PoolState). unit_row (entry_at p.entries (c.args.place + 1))) c.self.view_is
