use Rattle.std.proofs.Common.{ℕ, List, Result, drop}
use Rattle.hub_io.specs.Outside.{PutsThrough}
use Rattle.hub_io.specs.declared.shelf.Failed.{Failed}
use Rattle.dec_text.specs.Lines.{line_of}
use Rattle.dec_text.proofs.pieces.put_pieces.Given as goal

abbrev pub invariant-loop-piece : goal.invariant-loop-piece
invariant-loop-piece g l = (let s = g.K.Sink in (last : g.row.K.Denot) (rest : List ℕ) (r : Result (Unit {0}) Failed)
    → PutsThrough s.taken s.faults l.sink last l.buffer rest r (line_of (drop l.piece-index l.pieces))
    → PutsThrough s.taken s.faults l.initial.sink last l.initial.buffer rest r (line_of l.pieces))
