use Rattle.std.proofs.Common.{◌≡◌, ◌+◌, ◌*◌, ◌++◌, ◌∷◌, pos, ◌-ℤ◌, length, map, take}
use Rattle.core_cuts.specs.CoreTables.{counts}
use Rattle.core_cuts.proofs.tables.add_objective.Given as goal

abbrev pub invariant-loop-node : goal.invariant-loop-node
invariant-loop-node l =
    l.numbers.items
    ≡ l.fn.numbers.items
    ++ ((pos 0 -ℤ pos (2 + 2 * length l.candidates)) ∷ map (λ k. pos (counts l.hubs (length l.candidates) k)) (take l.node-index l.candidates))
