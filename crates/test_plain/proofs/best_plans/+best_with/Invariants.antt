use Rattle.std.proofs.Common.{length, ◌-◌}
use Rattle.test_plain.proofs.best_plans.+best_with.Given as goal

abbrev pub decreases-best_with : goal.decreases-best_with
decreases-best_with l = length l.instance.now.candidates - l.at
