use Rattle.std.proofs.Common.{◌≡◌, ℕ, ◌+◌, ◌<◌}
use Rattle.hub_spec.specs.Cuts.{IsDual}
use Rattle.dual_lines.specs.Lines.{IsRun, run_from}
use Rattle.dual_lines.proofs.lines.DualLine.holds.Given as goal

abbrev pub invariant-loop-s : goal.invariant-loop-s
invariant-loop-s l = record {
  same : run_from l.self-inside.first l.self-inside.run l.self-inside.line ≡ l.fn.self;
  is_run : IsRun l.self-inside.line.problem l.self-inside.first l.self-inside.run;
  end : l.s-end ≡ l.self-inside.run;
  hold : (s : ℕ) → s < l.s → IsDual l.fn.self.problem l.fn.self.part (l.fn.self.commodity.0, l.fn.self.commodity.1 + s) l.fn.self.dual;
}
