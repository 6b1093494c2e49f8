use Rattle.hub_edges.proofs.rows.EdgeRow.of.Goals as goal

pub invariant_of-result : goal.invariant_of-result
invariant_of-result c = record { problem = c.entries_of.ensures.problem; from = c.requires.from; to = c.requires.to; row = c.in_ok-entries.ensures.row }
