-- How walks go on.
use Rattle.std.proofs.Common.{◌≡◌, ◌≤◌, sym, ap, subst, ◌∙◌}
use Rattle.hub_spec.specs.Trees.{Branching}
use Rattle.ascent_search.specs.declared.task.SearchTask.{SearchTask}
use Rattle.ascent_search.specs.declared.progress.TreeProgress.{TreeProgress}
use Rattle.ascent_search.specs.declared.walk.Walk.{Walk}
use Rattle.ascent_search.specs.Progressing.{IsGoing, IsAt, IsDone}
use Rattle.ascent_search.specs.Walking.{IsWalking, IsSameWalk}
use Rattle.ascent_search.proofs.Steps.{at_twice}

-- 1 to 64 workers
abbrev Crewed : SearchTask → Type 0
Crewed t = (1 ≤ t.workers) × (t.workers ≤ 64)

pub walks_on : (before after : Walk) → IsSameWalk before after → before.bench.problem ≡ before.task.now.instance.now
    → Crewed before.task.now → IsGoing before.task.now after.progress → IsWalking after
walks_on before after same bench workers going = record {
  going = subst (λ (t : SearchTask). IsGoing t after.progress) (sym same.task) going;
  bench = same.bench ∙ bench ∙ sym (ap (λ (t : SearchTask). t.instance.now) same.task);
  workers = subst Crewed (sym same.task) workers;
}

pub walk_at_twice : (before middle after : Walk) → IsSameWalk before middle → IsAt before.task.now before.progress middle.progress
    → IsSameWalk middle after → IsAt middle.task.now middle.progress after.progress
    → IsSameWalk before after × IsAt before.task.now before.progress after.progress
walk_at_twice before middle after same at next more = (
  record { task = next.task ∙ same.task; bench = next.bench ∙ same.bench },
  at_twice before.task.now before.progress middle.progress after.progress at
      (subst (λ (t : SearchTask). IsAt t middle.progress after.progress) same.task more),
)

-- ---- a walk that begins from what the search has

pub begun_walking : (t : SearchTask) (s : TreeProgress) (w : Walk) → w.task.now ≡ t → w.bench.problem ≡ t.instance.now → w.progress ≡ s → IsGoing t s
    → Crewed t → IsWalking w
begun_walking t s w task bench progress going workers = record {
  going = subst (λ (x : SearchTask). IsGoing x w.progress) (sym task) (subst (IsGoing t) (sym progress) going);
  bench = bench ∙ sym (ap (λ (x : SearchTask). x.instance.now) task);
  workers = subst Crewed (sym task) workers;
}

pub begun_done : (t : SearchTask) (b : Branching) (s after : TreeProgress) (w : Walk) → w.task.now ≡ t → w.progress ≡ s → IsDone w.task.now b w.progress after
    → IsDone t b s after
begun_done t b s after w task progress done =
    subst (λ (x : SearchTask). IsDone x b s after) task (subst (λ (x : TreeProgress). IsDone w.task.now b x after) progress done)
