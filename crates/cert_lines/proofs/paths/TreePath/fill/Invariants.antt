use Rattle.std.proofs.Common.{◌≡◌, false, length}
use Rattle.cert_lines.specs.Trails.{left_behind}
use Rattle.cert_lines.specs.Paths.{behind_next}
use Rattle.cert_lines.proofs.paths.TreePath.fill.Given as goal

abbrev pub invariant-loop-step : goal.invariant-loop-step
invariant-loop-step l = record {
  size : l.self-inside.trail.size ≡ l.fn.self.size;
  candidates : l.self-inside.trail.candidates ≡ l.fn.self.candidates;
  pending : l.self-inside.is_filled ≡ false;
  behind : left_behind l.self-inside.trail.candidates l.self-inside.trail.steps ≡ behind_next l.fn.self.pending;
}

abbrev pub decreases-loop-step : goal.decreases-loop-step
decreases-loop-step l = length l.self-inside.trail.steps
