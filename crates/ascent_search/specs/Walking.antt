-- A walk over the tree, at work on its task.
use Rattle.std.specs.Prelude.{◌≡◌, ◌≤◌}
use Rattle.ascent_search.specs.declared.walk.Walk.{Walk}
use Rattle.ascent_search.specs.Progressing.{IsGoing}

-- the walk goes on, with its workspace for the task's instance, and 1 to 64 workers
pub record IsWalking (w : Walk) : Type 0 where
  pub going : IsGoing w.task.now w.progress
  pub bench : w.bench.problem ≡ w.task.now.instance.now
  pub workers : (1 ≤ w.task.now.workers) × (w.task.now.workers ≤ 64)

-- its task is the same, and its workspace is for the same instance
pub record IsSameWalk (before after : Walk) : Type 0 where
  pub task : after.task.now ≡ before.task.now
  pub bench : after.bench.problem ≡ before.bench.problem
