use Rattle.std.proofs.Common.{length, ◌∙◌, arith}
use Rattle.std.specs.Int.{w128}
use Rattle.std.proofs.lemmas.Int.{to_z-of_z}
use Rattle.leaf_bound.specs.Weighing.{most_bound}
use Rattle.leaf_bound.proofs.LentNumbers.{few_listed, within_nodes, branch_gains, within_fits}
use Rattle.p_hub.proofs.CountedBounds.{counted_read}
use Rattle.p_hub.proofs.bounds.bound_p.Goals as goal

pub rising_gains-free_room-requires-clause-few : goal.rising_gains-free_room-requires-clause-few
rising_gains-free_room-requires-clause-few c =
    few_listed c.free-free.result.now c.args.branch.now.free (length c.args.weighting.now.fixed.now) c.free-free.ensures.value
    c.free-free.ensures.split.free_ascends (within_nodes c.args.weighting.now c.args.branch.now.free c.requires.nodes.free)
    c.requires.numbers.some_nodes

pub bound_by_rising-requires-clause-gains : goal.bound_by_rising-requires-clause-gains
bound_by_rising-requires-clause-gains c =
    branch_gains c.args.weighting.now c.write_gains_and_base-base.new.gains c.args.branch.now c.write_gains_and_base-base.ensures.limit
    c.requires.nodes

pub returns-clause-value : goal.returns-clause-value
returns-clause-value c =
    to_z-of_z w128 c.bound_by_rising.result (within_fits most_bound c.bound_by_rising.result (omega arith) c.bound_by_rising.ensures.limit)
    ∙ c.bound_by_rising.ensures.value
    ∙ counted_read c.args.p c.args.weighting.now c.write_gains_and_base-base.result c.write_gains_and_base-base.new.gains c.args.branch.now
    c.write_gains_and_base-base.ensures.base c.write_gains_and_base-base.ensures.value c.requires.nodes
