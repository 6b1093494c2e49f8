use Rattle.std.proofs.Common.{ℕ, List, Result, drop, flat_map}
use Rattle.hub_io.specs.Outside.{PutsThrough}
use Rattle.hub_io.specs.declared.shelf.Failed.{Failed}
use Rattle.hub_make.specs.DemoTexts.{node_behind_space}
use Rattle.hub_make.proofs.demo_lines.put_nodes.Given as goal

abbrev pub invariant-loop-node : goal.invariant-loop-node
invariant-loop-node g l = (let s = g.K.Sink in (last : g.row.K.Denot) (rest : List ℕ) (r : Result (Unit {0}) Failed)
    → PutsThrough s.taken s.faults l.sink last l.buffer rest r (flat_map node_behind_space (drop l.node-index l.nodes))
    → PutsThrough s.taken s.faults l.initial.sink last l.initial.buffer rest r (flat_map node_behind_space l.nodes))
