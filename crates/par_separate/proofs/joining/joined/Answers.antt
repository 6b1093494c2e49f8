use Rattle.std.proofs.Common.{List, ◌++◌, [], flat_map, map-id, sym, ap, ◌∙◌}
use Rattle.std.proofs.lemmas.List.{flat_map_more}
use Rattle.std.proofs.lemmas.Iterator.Adapters.{YieldsList-from_vec}
use Rattle.std.proofs.lemmas.Iterator.Consumers.{YieldsList-end}
use Rattle.hub_spec.specs.Cuts.{Prices, cut_by}
use Rattle.par_separate.proofs.JoinedOrigins.{joined_cut}
use Rattle.par_separate.proofs.joining.joined.Goals as goal

pub loop-duals-preserved : goal.loop-duals-preserved
loop-duals-preserved c =
    c.in_ok-append.ensures.items
    ∙ ap (λ (ds : List Prices). ds ++ c.in-Some.duals.items) c.loop-duals.invariant
    ∙ flat_map_more (λ duals. duals.items) [] c.loop-duals.yielded c.in-Some.duals

pub returns : goal.returns
returns c =
    let given = c.into_iter-duals-iterator.ensures.into_iter_gives in
    let end = YieldsList-end (YieldsList-from_vec c.args.origins.items given.0 (given.1 ∙ c.args.origins.ok.0))
    c.loop-duals.yielded _ c.loop-duals.yielded_by _ c.next.new.self c.in-None.is c.next.ensures.steps in
    ap cut_by (c.loop-duals.invariant ∙ ap (flat_map (λ duals. duals.items)) (sym (map-id c.loop-duals.yielded) ∙ end.0))
    ∙ joined_cut (λ duals. duals.items) c.args.separation.now c.args.origins.items c.requires.each
