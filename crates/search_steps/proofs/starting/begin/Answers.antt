use Rattle.std.proofs.Common.{length, ap, ◌∙◌, arith}
use Rattle.search_steps.specs.declared.progress.Progress.{Progress}
use Rattle.search_steps.specs.Progressing.{state_of}
use Rattle.search_steps.proofs.Starts.{begun_alone}
use Rattle.search_steps.proofs.starting.begin.Goals as goal
use Rattle.search_steps.proofs.starting.begin.Goals.{then-hubs-candidates+in_ok-take_first, else-hubs-candidates}

pub take_first-requires-clause-fewer : goal.take_first-requires-clause-fewer
take_first-requires-clause-fewer g c = omega (arith, ap length c.candidates.ensures.value, c.if-hubs-candidates.true)

pub returns-clause-begun : goal.returns-clause-begun
returns-clause-begun g c =
    let p = c.args.task.now.instance.now in
    elim c.if-hubs-candidates.branch [
      | then-hubs-candidates+in_ok-take_first w ↦ ap (λ (s : Progress). state_of p s) w.progress-is ∙ w.in_ok-take_first.ensures.begun
      | else-hubs-candidates w ↦ ap (λ (s : Progress). state_of p s) w.progress-is ∙ c.in_ok-progress.ensures.begun
          ∙ begun_alone g.S.Separator.kind p c.first_hubs-hubs.ensures.problem
          (λ fewer. omega (arith, ap length c.first_hubs-hubs.ensures.first, ap length c.candidates.ensures.value, w.if-hubs-candidates.false, fewer))
    ]
