use Rattle.std.proofs.Common.{◌≡◌, ℕ, List, refl, ap, ◌∙◌, rules}
use Rattle.hub_spec.specs.Plans.{Plan}
use Rattle.search_steps.proofs.Ends.{IsEnd, end_found}
use Rattle.search_steps.proofs.finishing.finish.Goals as goal

pub returns : goal.returns
returns c =
    let t = c.args.task.now in
    let p = t.instance.now in
    let s = c.args.progress in
    let routes = c.in_ok-assignment.assignment.routes.items in
    let taken : c.in_ok-hubs.hubs.items ≡ c.members.result.now = search rules in
    let end : IsEnd p s routes _ = record {
      cost = refl;
      bound = c.lesser.ensures;
      plan = c.new.ensures ∙ ap (λ (hs : List ℕ). let x : Plan = record { hubs = hs; routes = routes } in x) (taken ∙ c.members.ensures.value);
      least = c.in_ok-assignment.ensures.routes;
      cuts = record { cuts = c.into_cuts.ensures.cuts; totals = c.into_cuts.ensures.totals; loads = c.into_cuts.ensures.loads };
      tree = refl;
    } in
    λ g state lines. end_found t s routes _ g c.requires.going end state lines
