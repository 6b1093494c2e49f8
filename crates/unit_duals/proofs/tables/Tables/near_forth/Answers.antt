use Rattle.std.proofs.Common.{◌+◌, ◌*◌, slice_index, sym, subst, arith}
use Rattle.std.proofs.lemmas.Nat.{mul-le}
use Rattle.unit_duals.specs.Lengths.{RoomedLegs}
use Rattle.unit_duals.specs.Nearness.{HoldsNear, IsNoShorterForth}
use Rattle.unit_duals.specs.TableParts.{table_legs}
use Rattle.unit_duals.proofs.TableCells.{row_within}
use Rattle.unit_duals.proofs.LegRows.{holds_near}
use Rattle.unit_duals.proofs.tables.Tables.near_forth.Goals as goal

pub list-requires-clause-known : goal.list-requires-clause-known
list-requires-clause-known c =
    let place = rw (← c.self.view_is) at c.requires.place in
    let count = c.self.inside.count in
    let fits = row_within c.args.t count count place in
    let room = mul-le count count c.self.inside.room c.self.inside.room
    (omega (arith, c.self.invariant.made.stops_within)) (omega (arith, c.self.invariant.made.stops_within)) in
    omega (arith, fits, room, c.requires.earlier, c.self.invariant.room.forth_starts)

pub returns : goal.returns
returns c =
    let place = rw (← c.self.view_is) at c.requires.place in
    let l = table_legs c.self.inside in
    let number = c.args.t * c.self.inside.count + c.args.e in
    let starts = c.self.inside.forth.starts.items in
    subst (λ (v : RoomedLegs). HoldsNear v.legs.size (IsNoShorterForth v.legs c.args.t c.args.e) c.list.result.now) c.self.view_is
    (subst (HoldsNear l.size (IsNoShorterForth l c.args.t c.args.e)) (sym c.list.ensures)
    (holds_near l.size (IsNoShorterForth l c.args.t c.args.e) (slice_index starts number) (slice_index starts (number + 1))
    c.self.inside.forth.nodes.items (c.self.invariant.made.forth.each c.args.t c.args.e c.requires.earlier place)))
