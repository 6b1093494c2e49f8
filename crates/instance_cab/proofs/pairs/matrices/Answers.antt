use Rattle.std.proofs.Common.{◌≡◌, ◌++◌, ◌∷◌, [], pos, false, map, arith, rules, ap, ◌∙◌}
use Rattle.file_spec.specs.Files.{divided_distance}
use Rattle.hub_model.specs.Amounts.{natural}
use Rattle.instance_cab.specs.ListedRows.{taken_at, flow_of, distance_of, lacks}
use Rattle.token_reader.proofs.Formulas.{listed_none, listed_push}
use Rattle.instance_cab.proofs.Lacks.{no_lack, no_lack_more, lack_told, flows_none, flows_more, distances_none, distances_more}
use Rattle.instance_cab.proofs.pairs.matrices.Goals as goal

pub loop-commodity-init : goal.loop-commodity-init
loop-commodity-init c =
    let flows : c.in_ok-flows.flows.items ≡ [] = search rules in
    let distances : c.in_ok-distances.distances.items ≡ [] = search rules in
    record {
      whole = no_lack c.args.n c.args.taken.now;
      flows = ap (map natural) flows ∙ flows_none c.args.taken.now;
      flow_limits = listed_none _ flows;
      distances = ap (map natural) distances ∙ distances_none c.args.divide c.args.n c.args.taken.now;
      distance_limits = listed_none _ distances;
    }

pub returns-in_err-listed-clause-fault : goal.returns-in_err-listed-clause-fault
returns-in_err-listed-clause-fault c =
    let told = lack_told c.args.n c.args.taken.now c.loop-commodity.commodity c.listed.result c.loop-commodity.invariant.whole c.loop-commodity-test.true
    c.listed.ensures.lack c.listed.ensures.fault in search rules

pub loop-commodity-preserved : goal.loop-commodity-preserved
loop-commodity-preserved c =
    let whole : lacks c.args.n c.args.taken.now c.loop-commodity.commodity ≡ false = search rules in
    let flow : c.in_ok-listed.listed.flow ≡ flow_of (taken_at c.args.taken.now c.loop-commodity.commodity) = search rules in
    let distance : c.in_ok-listed.listed.distance ≡ distance_of (taken_at c.args.taken.now c.loop-commodity.commodity) = search rules in
    let flows : c.push.new.self.items ≡ c.loop-commodity.flows.items ++ pos c.in_ok-listed.listed.flow ∷ [] = search rules in
    let distances : c.push-in-loop-commodity.new.self.items ≡ c.loop-commodity.distances.items ++ pos c.divided_distance-distance.result ∷ [] = search rules in
    record {
      whole = no_lack_more c.args.n c.args.taken.now c.loop-commodity.commodity c.loop-commodity.invariant.whole whole;
      flows = flows_more c.args.taken.now c.loop-commodity.commodity c.in_ok-listed.listed.flow _ _ flows flow c.loop-commodity.invariant.flows;
      flow_limits = listed_push c.in_ok-listed.listed.flow _ _ flows (omega arith) c.loop-commodity.invariant.flow_limits;
      distances = distances_more c.args.divide c.args.n c.args.taken.now c.loop-commodity.commodity c.divided_distance-distance.result _ _ distances
          (c.divided_distance-distance.ensures ∙ ap (divided_distance c.args.divide c.args.n c.loop-commodity.commodity) distance) c.loop-commodity.invariant.distances;
      distance_limits = listed_push c.divided_distance-distance.result _ _ distances (omega arith) c.loop-commodity.invariant.distance_limits;
    }
