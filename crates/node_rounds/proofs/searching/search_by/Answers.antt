use Rattle.std.proofs.Common.{ap, sym, subst, ◌∙◌}
use Rattle.search_spec.specs.States.{State}
use Rattle.search_spec.specs.Laws.{IsStart}
use Rattle.search_steps.specs.Progressing.{state_of}
use Rattle.search_steps.proofs.FoundCertificates.{IsSearchable, start_is}
use Rattle.search_steps.specs.Advising.{parts_of}
use Rattle.hub_spec.specs.Trees.{preorder}
use Rattle.search_spec.specs.Turns.{at_root}
use Rattle.search_spec.specs.Lasting.{searched_by_rounds}
use Rattle.node_rounds.proofs.RoundFindings.{begun_minimal}
use Rattle.node_rounds.specs.Searchers.{IsTurnerAt}
use Rattle.node_rounds.proofs.searching.search_by.Goals as goal

pub all_rounds-requires-clause-start : goal.all_rounds-requires-clause-start
all_rounds-requires-clause-start g c =
    let p = c.args.task.now.instance.now in
    let all : IsSearchable p = record { problem = c.in_ok-first.ensures.going.problem; lacks_none = c.requires.lacks_none } in
    let begun = begun_minimal p (state_of p c.in_ok-first.first) g.S.Separator.kind c.requires.minimal c.in_ok-first.ensures.begun in
    λ lifetimes live. subst (IsStart p) (sym begun) (start_is p all)

pub all_rounds-requires-clause-turner : goal.all_rounds-requires-clause-turner
all_rounds-requires-clause-turner g c =
    let p = c.args.task.now.instance.now in
    let begun = begun_minimal p (state_of p c.in_ok-first.first) g.S.Separator.kind c.requires.minimal c.in_ok-first.ensures.begun in
    λ lifetimes live. subst (λ (s : State). IsTurnerAt c.args.turner c.args.task.now (at_root p s)) (sym begun) c.requires.turner

pub returns-clause-found : goal.returns-clause-found
returns-clause-found g c =
    let t = c.args.task.now in
    let p = t.instance.now in
    let begun = begun_minimal p (state_of p c.in_ok-first.first) g.S.Separator.kind c.requires.minimal c.in_ok-first.ensures.begun in
    record {
      state = c.in_ok-progress.ensures.state ∙ ap (λ (s : State). (searched_by_rounds p (parts_of p) t.nodes s).state) begun;
      lines = c.in_ok-progress.ensures.lines ∙ ap (λ (s : State). preorder (searched_by_rounds p (parts_of p) t.nodes s).tree) begun;
      going = c.in_ok-progress.ensures.going;
    }
