use Rattle.std.proofs.Common.{◌+◌, ◌*◌, arith}
use Rattle.std.proofs.lemmas.List.{get_or_read}
use Rattle.unit_duals.specs.HopParts.{hop_legs}
use Rattle.unit_duals.proofs.TableCells.{cell_within}
use Rattle.unit_duals.proofs.FirstRoutes.{least_hop_limit}
use Rattle.unit_duals.proofs.hops.Hops.hop.Goals as goal

pub returns-clause-limit : goal.returns-clause-limit
returns-clause-limit c =
    let s = c.self.inside in
    let hub = rw (← c.self.view_is) at c.requires.hub in
    let column = rw (← c.self.view_is) at c.requires.destination in
    let found = c.self.invariant.found in
    let within = cell_within c.args.x c.args.j s.size s.hubs hub column in
    let read = get_or_read s.lengths.items (c.args.x * s.size + c.args.j) c.index-2.result.now (omega (arith, within, found.lengths_long)) c.index-2.ensures 0 in
    let is = found.lengths.each c.args.x c.args.j column (omega (arith, within, found.lengths_long)) in
    omega (arith, read, is, least_hop_limit (hop_legs s) c.args.x c.args.j found.legs hub column)
