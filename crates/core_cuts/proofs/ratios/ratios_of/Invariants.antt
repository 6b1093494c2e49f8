use Rattle.std.proofs.Common.{◌≡◌, length}
use Rattle.core_cuts.specs.BasicRatios.{AreNoted}
use Rattle.core_cuts.proofs.ratios.ratios_of.Given as goal

abbrev pub invariant-loop-row : goal.invariant-loop-row
invariant-loop-row l = record {
  long : length l.ratios.items ≡ l.variables;
  noted : AreNoted l.rows l.row l.ratios.items;
}
