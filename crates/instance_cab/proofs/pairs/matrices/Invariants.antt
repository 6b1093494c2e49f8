use Rattle.std.proofs.Common.{◌≡◌, None, map, All}
use Rattle.hub_model.specs.Amounts.{natural, IsListedNumber}
use Rattle.instance_cab.specs.ListedRows.{listed_flows, listed_distances, first_lack}
use Rattle.instance_cab.proofs.pairs.matrices.Given as goal

abbrev pub invariant-loop-commodity : goal.invariant-loop-commodity
invariant-loop-commodity l = record {
  whole : first_lack l.n l.taken l.commodity ≡ None;
  flows : map natural l.flows.items ≡ listed_flows l.taken l.commodity;
  flow_limits : All IsListedNumber l.flows.items;
  distances : map natural l.distances.items ≡ listed_distances l.divide l.n l.taken l.commodity;
  distance_limits : All IsListedNumber l.distances.items;
}
