use Rattle.std.proofs.Common.{◌≡◌, ℕ, ◌+◌, ◌^◌, ◌<◌, ◌≤◌, length, slice_index, sym, ap, ◌∙◌, arith}
use Rattle.std.proofs.lemmas.List.Elements.{All-get_or, All-from_get_or}
use Rattle.unit_duals.specs.Limits.{most_leg}
use Rattle.unit_duals.specs.Lowered.{AreLowered}
use Rattle.unit_duals.specs.Values.{back_leg}
use Rattle.unit_duals.proofs.LoweredRows.{back_rows, prices_lowered}
use Rattle.unit_duals.proofs.SetStretches.{from_start}
use Rattle.unit_duals.proofs.lengths.set_prices.Goals as goal

pub lower_by_hubs-requires-clause-rows : goal.lower_by_hubs-requires-clause-rows
lower_by_hubs-requires-clause-rows c =
    let l = c.args.tables.now.legs in
    back_rows l c.args.first.now c.back.result.now (length c.set_stretch.new.items)
    (omega (arith, c.set_stretch.auto.items, c.requires.long)) c.back.ensures.legs c.requires.first c.back.ensures.long c.back.ensures.back

pub lower_by_hubs-requires-clause-limit : goal.lower_by_hubs-requires-clause-limit
lower_by_hubs-requires-clause-limit c =
    let l = c.args.tables.now.legs in
    let first = c.args.first.now in
    let on = c.back_row.result.now in
    let new = c.set_stretch.new.items in
    let some : c.count-count.result < length first = omega (arith, c.count-count.ensures.value, c.requires.some_hub, c.requires.first.long) in
    All-from_get_or (λ d. d < 2 ^ 63) new 0
    (λ j below.
    (let short : j < length on =
    omega (arith, below, c.set_stretch.auto.items, c.requires.long, c.back_row.ensures.long) in
    omega (
      arith,
      from_start (length on) _ c.args.prices.now new j short c.set_stretch.ensures,
      All-get_or (λ d. d ≤ most_leg) first c.count-count.result 0 some c.requires.first.limit,
      All-get_or (λ d. d ≤ most_leg) on j 0 short c.back_row.ensures.limit,
    )))

pub returns : goal.returns
returns c =
    let l = c.args.tables.now.legs in
    let first = c.args.first.now in
    let started = c.set_stretch.new.items in
    let lowered : AreLowered (length started) first c.back.result.now l.count l.hubs started c.lower_by_hubs.new.items =
    rw (sym c.count-count.ensures.value, sym c.hubs.ensures.value) c.lower_by_hubs.ensures in
    record {
      each = prices_lowered l first c.back.result.now started c.lower_by_hubs.new.items (length started)
          (omega (arith, c.set_stretch.auto.items, c.requires.long)) c.back.ensures.long c.back.ensures.back start lowered;
    }
  where
    start : (j : ℕ) → j < c.args.tables.now.legs.size
        → slice_index c.set_stretch.new.items j ≡ slice_index c.args.first.now c.args.tables.now.legs.count + back_leg c.args.tables.now.legs c.args.tables.now.legs.count j
    start j below =
        let l = c.args.tables.now.legs in
        let first = c.args.first.now in
        let short : j < length c.back_row.result.now = omega (arith, below, c.back_row.ensures.long) in
        let on = c.back_row.ensures.each j below in
        let at_stop = ap (λ (s : ℕ). slice_index first s + back_leg l s j) c.count-count.ensures.value in
        from_start (length c.back_row.result.now) _ c.args.prices.now c.set_stretch.new.items j short c.set_stretch.ensures
        ∙ ap (λ (y : ℕ). slice_index first c.count-count.result + y) on ∙ at_stop
