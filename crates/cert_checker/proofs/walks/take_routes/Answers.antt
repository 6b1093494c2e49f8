use Rattle.std.proofs.Common.{◌+◌, [], ◌∷◌, drop, get_or, zip, refl, ◌∙◌, arith}
use Rattle.std.proofs.lemmas.List.{drop_all}
use Rattle.hub_spec.specs.Problem.{commodities, commodity_at}
use Rattle.cert_spec.specs.Lines.{says_route, says_end}
use Rattle.cert_spec.specs.Text.{route_items}
use Rattle.cert_format.proofs.Putting.{length_route_items, route_item_at}
use Rattle.cert_checker.proofs.Walking.{front_start, front_more, front_may, front_end, next_of}
use Rattle.cert_checker.proofs.walks.take_routes.Goals as goal

pub loop-t-init : goal.loop-t-init
loop-t-init c = record { front = front_start c.args.checks.now (route_items (zip (commodities c.args.n) c.args.routes.now)); instance = refl }

pub take_alone-requires : goal.take_alone-requires
take_alone-requires c =
    let n = c.args.n in
    let routes = c.args.routes.now in
    let t = c.loop-t.t in
    let lines = route_items (zip (commodities n) routes) in
    let line = says_route (commodity_at n t) (get_or routes t (0, 0)) in
    let e = next_of lines t line says_end (omega (arith, length_route_items n routes c.requires.whole)) (route_item_at n routes t says_end (omega arith) c.requires.whole) in
    (line, refl, front_may (line ∷ []) (drop (t + 1) lines) c.requires.may c.loop-t.invariant.front e)

pub loop-t-preserved : goal.loop-t-preserved
loop-t-preserved c =
    let n = c.args.n in
    let routes = c.args.routes.now in
    let t = c.loop-t.t in
    let lines = route_items (zip (commodities n) routes) in
    let line = says_route (commodity_at n t) (get_or routes t (0, 0)) in
    let e = next_of lines t line says_end (omega (arith, length_route_items n routes c.requires.whole)) (route_item_at n routes t says_end (omega arith) c.requires.whole) in
    record {
      front = front_more (line ∷ []) (drop (t + 1) lines) c.loop-t.invariant.front e (c.in_ok-take_alone.ensures.taken line refl);
      instance = c.in_ok-take_alone.ensures.instance ∙ c.loop-t.invariant.instance;
    }

pub returns-clause-taken : goal.returns-clause-taken
returns-clause-taken c =
    let lines = route_items (zip (commodities c.args.n) c.args.routes.now) in
    front_end c.loop-t.invariant.front (drop_all c.loop-t.t lines (omega (arith, length_route_items c.args.n c.args.routes.now c.requires.whole)))
