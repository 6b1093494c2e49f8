use Rattle.std.proofs.Common.{◌^◌, ◌<◌, length, arith}
use Rattle.std.proofs.lemmas.List.Elements.{All-get_or, All-from_get_or}
use Rattle.unit_duals.proofs.SetStretches.{from_start}
use Rattle.unit_duals.proofs.lowering.lower_by.Goals as goal

pub returns-clause-limit : goal.returns-clause-limit
returns-clause-limit c =
    let old = c.args.items.now in
    let new = c.lower_stretch.new.items in
    All-from_get_or (λ d. d < 2 ^ 63) new 0
    (λ j below.
    (let within : j < length old = omega (arith, below, c.lower_stretch.auto.items) in
    let short : j < length c.row-legs.result.now = omega (arith, within, c.row-legs.ensures.long) in
    omega (
      arith,
      from_start (length c.row-legs.result.now) _ old new j short c.lower_stretch.ensures,
      All-get_or (λ d. d < 2 ^ 63) old j 0 within c.requires.limit,
    )))
