use Rattle.std.proofs.Common.{take, slice_index}
use Rattle.hub_spec.proofs.AskedValues.{IsMostByHubs, IsMostByBoth}
use Rattle.test_plain.proofs.duals.asked_value.Given as goal

abbrev pub invariant-by_hubs : goal.invariant-by_hubs
invariant-by_hubs l = IsMostByHubs l.instance (l.i, l.j) l.price l.k (take l.m-index l.hubs) l.most

abbrev pub invariant-by_earlier : goal.invariant-by_earlier
invariant-by_earlier l = IsMostByBoth l.instance (l.i, l.j) l.price l.k (slice_index l.values) l.hubs (take l.m-index l.earlier) l.most
