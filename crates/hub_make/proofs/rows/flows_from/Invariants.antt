use Rattle.std.proofs.Common.{◌≡◌, map}
use Rattle.hub_make.specs.Numbers.{nodes, made_flow}
use Rattle.hub_make.proofs.rows.flows_from.Given as goal

abbrev pub invariant-loop-j : goal.invariant-loop-j
invariant-loop-j l = l.row.items ≡ map (made_flow l.seed l.i) (nodes l.j)
