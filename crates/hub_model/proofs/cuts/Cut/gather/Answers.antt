use Rattle.std.proofs.Common.{List, pos, ap, ◌∙◌}
use Rattle.hub_spec.specs.Cuts.{Prices, cut_by, total}
use Rattle.hub_model.proofs.SignedSums.{sum_handed_on}
use Rattle.hub_model.proofs.WholeCuts.{range_lists_nodes, range_loads, range_total}
use Rattle.hub_model.proofs.cuts.Cut.gather.Goals as goal

pub total_of-total-requires : goal.total_of-total-requires
total_of-total-requires c =
    rw c.deref.ensures.value (range_total c.args.size c.args.rows.items c.requires.size_most c.requires.one_each c.requires.range)

pub loads_of-requires-clause-nodes : goal.loads_of-requires-clause-nodes
loads_of-requires-clause-nodes c =
    rw c.deref-2.ensures.value (range_lists_nodes c.args.size c.args.rows.items c.requires.range)

pub loads_of-requires-clause-limit : goal.loads_of-requires-clause-limit
loads_of-requires-clause-limit c =
    rw c.deref-2.ensures.value (range_loads c.args.size c.args.rows.items c.requires.size_most c.requires.one_each c.requires.range)

pub invariant_of-result : goal.invariant_of-result
invariant_of-result c = record {
  total_is = sum_handed_on c.total_of-total.result (total (cut_by c.args.rows.items))
      (c.total_of-total.ensures ∙ ap (λ (rows : List Prices). pos (total (cut_by rows))) c.deref.ensures.value)
      (range_total c.args.size c.args.rows.items c.requires.size_most c.requires.one_each c.requires.range);
  loads_are = rw c.deref-2.ensures.value at c.in_ok-loads.ensures.loads;
}
