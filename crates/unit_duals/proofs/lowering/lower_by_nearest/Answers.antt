use Rattle.std.proofs.Common.{◌+◌, ◌<◌, length, arith}
use Rattle.std.proofs.lemmas.List.Edits.{length-between}
use Rattle.unit_duals.proofs.LoweredRows.{alike_sooner}
use Rattle.unit_duals.proofs.lowering.lower_by_nearest.Goals as goal

pub returns-then-hubs-gt0-clause-alike : goal.returns-then-hubs-gt0-clause-alike
returns-then-hubs-gt0-clause-alike c =
    let long = length-between c.args.bases.now c.args.start (c.args.start + c.args.hubs) c.requires.hubs in
    let below : c.least_place.result < c.args.hubs = omega (arith, long, c.least_place.ensures) in
    alike_sooner (length c.args.items.now) c.args.bases.now c.args.table.now c.args.start c.args.hubs c.least_place.result
    c.args.items.now c.lower_by.new.items below c.lower_by.ensures.lowered
