use Rattle.std.proofs.Common.{◌≡◌, List, refl, ap, ◌∙◌, rules}
use Rattle.std.specs.Prelude.{ℕ}
use Rattle.hub_spec.specs.Plans.{Plan}
use Rattle.cut_pool.specs.declared.found.Found.{Found}
use Rattle.ascent_search.proofs.Findings.{IsFoundOf, found_of, found_proved, found_own, found_at_most, found_given, found_best, found_within, found_below, found_most, found_allowed, found_spent, found_enough, found_whole}
use Rattle.ascent_search.proofs.optimizing.finish.Goals as goal
use Rattle.ascent_search.proofs.optimizing.finish.Goals.{After-drop-progress-2}

abbrev finding : After-drop-progress-2 → Found
finding c = record {
  cost = c.args.progress.cost;
  bound = c.target.result;
  plan = c.new.result;
  cuts = c.args.progress.cuts;
  tree = c.args.progress.lines;
}

is_found : (c : After-drop-progress-2) → IsFoundOf c.args.task.now c.args.progress (finding c)
is_found c =
    let s = c.args.progress in
    let routes = c.in_ok-assignment.assignment.routes.items in
    let taken : c.in_ok-hubs.hubs.items ≡ c.members.result.now = search rules in
    found_of c.args.task.now s (finding c) routes refl c.target.ensures
    (c.new.ensures ∙ ap (λ (hs : List ℕ). let x : Plan = record { hubs = hs; routes = routes } in x) (taken ∙ c.members.ensures.value))
    c.in_ok-assignment.ensures.routes refl refl

pub returns-clause-proved : goal.returns-clause-proved
returns-clause-proved c = found_proved c.args.task.now c.args.progress (finding c) c.requires (is_found c)

pub returns-clause-own : goal.returns-clause-own
returns-clause-own c = found_own c.args.task.now c.args.progress (finding c) c.requires (is_found c)

pub returns-clause-routes : goal.returns-clause-routes
returns-clause-routes c = (is_found c).routes

pub returns-clause-at_most : goal.returns-clause-at_most
returns-clause-at_most c = found_at_most c.args.task.now c.args.progress (finding c) c.requires (is_found c)

pub returns-clause-given : goal.returns-clause-given
returns-clause-given c = found_given c.args.task.now c.args.progress (finding c) c.requires (is_found c)

pub returns-clause-best : goal.returns-clause-best
returns-clause-best c = found_best c.args.task.now c.args.progress (finding c) c.requires (is_found c)

pub returns-clause-within : goal.returns-clause-within
returns-clause-within c = found_within c.args.task.now c.args.progress (finding c) c.requires (is_found c)

pub returns-clause-below : goal.returns-clause-below
returns-clause-below c = found_below c.args.task.now c.args.progress (finding c) c.requires (is_found c)

pub returns-clause-most : goal.returns-clause-most
returns-clause-most c = found_most c.args.task.now c.args.progress (finding c) c.requires (is_found c)

pub returns-clause-allowed : goal.returns-clause-allowed
returns-clause-allowed c = found_allowed c.args.task.now c.args.progress (finding c) c.requires (is_found c)

pub returns-clause-spent : goal.returns-clause-spent
returns-clause-spent c = found_spent c.args.task.now c.args.progress (finding c) c.requires (is_found c)

pub returns-clause-enough : goal.returns-clause-enough
returns-clause-enough c enough = found_enough c.args.task.now c.args.progress (finding c) c.requires (is_found c) enough

pub returns-clause-whole : goal.returns-clause-whole
returns-clause-whole c none = found_whole c.args.task.now c.args.progress (finding c) c.requires (is_found c) none
