use Rattle.std.proofs.Common.{ℕ, List, Result, replicate}
use Rattle.hub_io.specs.Outside.{PutsThrough}
use Rattle.hub_io.specs.declared.shelf.Failed.{Failed}
use Rattle.dec_text.proofs.numbers.put_zeros.Given as goal

abbrev pub invariant-loop-left : goal.invariant-loop-left
invariant-loop-left g l = (let s = g.K.Sink in (last : g.row.K.Denot) (rest : List ℕ) (r : Result (Unit {0}) Failed)
    → PutsThrough s.taken s.faults l.sink last l.buffer rest r (replicate l.left 48)
    → PutsThrough s.taken s.faults l.initial.sink last l.initial.buffer rest r (replicate l.count 48))

abbrev pub decreases-loop-left : goal.decreases-loop-left
decreases-loop-left g l = l.left
