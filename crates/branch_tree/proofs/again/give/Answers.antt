use Rattle.std.proofs.Common.{◌≡◌, List, sym, subst, ◌∙◌}
use Rattle.std.proofs.lemmas.List.{map-id}
use Rattle.std.proofs.lemmas.Iterator.Adapters.{YieldsList-from_vec}
use Rattle.std.proofs.lemmas.Iterator.Consumers.{YieldsList-end}
use Rattle.hub_spec.specs.Cuts.{Cut}
use Rattle.search_spec.specs.Again.{with_given}
use Rattle.search_steps.specs.Progressing.{state_of, IsAt}
use Rattle.branch_tree.proofs.Beginning.{given_none_at, given_next}
use Rattle.branch_tree.proofs.again.give.Goals as goal

pub loop-cut-init : goal.loop-cut-init
loop-cut-init c = given_none_at c.args.task.now c.args.progress.now c.requires.going

pub give_one-requires-clause-going : goal.give_one-requires-clause-going
give_one-requires-clause-going c = c.loop-cut.invariant.going

pub loop-cut-preserved : goal.loop-cut-preserved
loop-cut-preserved c =
    given_next c.args.task.now c.args.progress.now c.loop-cut.progress c.give_one.new.progress c.loop-cut.yielded c.in-Some.cut
    c.loop-cut.invariant c.in_ok-give_one.ensures.at

pub returns : goal.returns
returns c =
    let t = c.args.task.now in
    let before = c.args.progress.now in
    let gives = c.into_iter-cut-iterator.ensures.into_iter_gives in
    let seen = YieldsList-end (YieldsList-from_vec {s = c.into_iter-cut-iterator.result} c.args.cuts.items gives.0 (gives.1 ∙ c.args.cuts.ok.0)) c.loop-cut.yielded
    c.loop-cut.cut-iterator c.loop-cut.yielded_by c.next.result c.next.new.self c.in-None.is c.next.ensures.steps in
    let all : c.loop-cut.yielded ≡ c.args.cuts.items = sym (map-id c.loop-cut.yielded) ∙ seen.0 in
    record {
      at = subst (λ (cuts : List Cut). IsAt t before c.loop-cut.progress (with_given cuts (state_of t.instance.now before))) all
          c.loop-cut.invariant;
    }
