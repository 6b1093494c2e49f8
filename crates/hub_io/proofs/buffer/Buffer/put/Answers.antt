use Rattle.std.proofs.Common.{ap, [], is_ok, is_err}
use Rattle.hub_io.proofs.Through.{through_on, through_stop, through_straight}
use Rattle.hub_io.proofs.buffer.Buffer.put.Goals as goal

-- what waited was not put whole
pub returns-in_err-make_room : goal.returns-in_err-make_room
returns-in_err-make_room g c =
    through_stop _ _ _ _ _ [] c.args.piece.now _ _ (ap is_err c.in_err-make_room.was) c.from_residual.ensures.0 c.make_room.ensures.through

-- what waited was put, and then the piece
pub returns-then-piece-gt-SIZE : goal.returns-then-piece-gt-SIZE
returns-then-piece-gt-SIZE g c =
    let none = c.in_ok-make_room.ensures.too_long c.if-piece-gt-SIZE.true in
    through_on _ _ _ _ _ _ [] c.args.piece.now _ _ (ap is_ok c.in_ok-make_room.was) c.make_room.ensures.through (through_straight _ _ _ c.args.piece.now _ none c.put.ensures)
