use Rattle.std.proofs.Common.{◌≡◌, ◌++◌, ◌∷◌, pos, ◌-ℤ◌, map, take}
use Rattle.core_cuts.specs.CoreTables.{through}
use Rattle.core_cuts.proofs.tables.add_way.Given as goal

abbrev pub invariant-loop-node : goal.invariant-loop-node
invariant-loop-node l =
    l.numbers.items ≡ l.fn.numbers.items ++ (pos 1 ∷ map (λ k. pos 0 -ℤ pos (through (l.k, l.m) k)) (take l.node-index l.candidates))
