use Rattle.std.proofs.Common.{◌≡◌, ◌-◌}
use Rattle.frac_rows.specs.Runs.{most_pivots, run_on, run}
use Rattle.plain_rows.proofs.plain_rows.PlainRows.run.Given as goal

abbrev pub invariant-loop-made : goal.invariant-loop-made
invariant-loop-made l = run_on (most_pivots - l.made) l.made l.self ≡ run l.fn.self
