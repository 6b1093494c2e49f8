use Rattle.std.proofs.Common.{◌+◌, ◌*◌, take}
use Rattle.std.specs.List.{AllZip}
use Rattle.hub_spec.specs.Problem.{commodities}
use Rattle.core_cuts.specs.Ahead.{AreAhead}
use Rattle.core_cuts.specs.Readings.{IsFound}
use Rattle.core_cuts.proofs.found_duals.founds_at.Given as goal

abbrev pub invariant-loop-j : goal.invariant-loop-j
invariant-loop-j l =
    AllZip (IsFound l.instance l.hubs) (take (l.i * l.instance.size + l.j) (commodities l.instance.size)) l.founds.items
    × AreAhead l.instance l.hubs l.ahead.items

abbrev pub invariant-loop-i : goal.invariant-loop-i
invariant-loop-i l =
    AllZip (IsFound l.instance l.hubs) (take (l.i * l.instance.size) (commodities l.instance.size)) l.founds.items
    × AreAhead l.instance l.hubs l.ahead.items
