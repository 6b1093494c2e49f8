use Rattle.std.proofs.Common.{◌∙◌, arith}
use Rattle.std.specs.Int.{w128}
use Rattle.std.proofs.lemmas.Int.{to_z-of_z}
use Rattle.leaf_bound.specs.Weighing.{most_bound}
use Rattle.leaf_bound.proofs.LentNumbers.{branch_gains, within_fits, bound_read}
use Rattle.leaf_bound.proofs.bounds.bound.Goals as goal

pub bound_by-requires-clause-gains : goal.bound_by-requires-clause-gains
bound_by-requires-clause-gains c =
    branch_gains c.args.weighting.now c.write_gains_and_base-base.new.gains c.args.branch.now c.write_gains_and_base-base.ensures.limit
    c.requires.nodes

pub returns-clause-value : goal.returns-clause-value
returns-clause-value c =
    to_z-of_z w128 c.bound_by.result (within_fits most_bound c.bound_by.result (omega arith) c.bound_by.ensures.limit)
    ∙ c.bound_by.ensures.value
    ∙ bound_read c.args.weighting.now c.write_gains_and_base-base.result c.write_gains_and_base-base.new.gains c.args.branch.now
    c.write_gains_and_base-base.ensures.base c.write_gains_and_base-base.ensures.value c.requires.nodes
