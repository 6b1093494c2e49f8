use Rattle.std.proofs.Common.{◌≡◌, ◌≤◌, ◌+◌, ◌-◌, length}
use Rattle.std.specs.Io.KnownBytes.{Consumes}
use Rattle.hub_io.proofs.whole.read_whole.Given as goal

-- what was read since the file was begun, and what each member of the shelf keeps
abbrev pub invariant-loop-buffer : goal.invariant-loop-buffer
invariant-loop-buffer g l = (let s = g.S.Shelf in
    (length l.bytes.items ≤ l.limit + 1)
    × Consumes (s.left l.initial.shelf) (s.left l.shelf) l.bytes.items
    × (s.faults l.initial.shelf ≤ s.faults l.shelf)
    × (s.held l.shelf ≡ s.held l.initial.shelf)
    × (s.names l.shelf ≡ s.names l.initial.shelf)
    × (s.sound l.initial.shelf → s.sound l.shelf))

abbrev pub decreases-loop-buffer : goal.decreases-loop-buffer
decreases-loop-buffer g l = l.limit + 1 - length l.bytes.items
