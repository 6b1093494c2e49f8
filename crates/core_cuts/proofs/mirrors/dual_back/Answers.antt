use Rattle.std.proofs.Common.{◌∙◌}
use Rattle.core_cuts.specs.Ahead.{IsRead}
use Rattle.core_cuts.proofs.SameRuns.{read_back}
use Rattle.core_cuts.proofs.mirrors.dual_back.Goals as goal
use Rattle.core_cuts.proofs.mirrors.dual_back.Goals.{In_ok-proof}

same_read : (c : In_ok-proof) → IsRead c.args.instance.now c.args.hubs.now (c.args.j, c.args.i) c.args.unit.now.prices c.args.unit.now.proof
same_read c =
    let both = c.are_same.ensures.0 c.if-not-are_same.false in
    read_back c.args.instance.now c.args.hubs.now (c.args.i, c.args.j) (c.args.j, c.args.i) c.args.ways.now.edges.items c.in_ok-ways_back.ways_back.edges.items
    c.args.ways.now.rights.items c.in_ok-ways_back.ways_back.rights.items c.args.unit.now.prices c.args.unit.now.proof c.requires.ways
    c.in_ok-ways_back.ensures both.0 both.1 c.requires.read

pub found_by-requires-clause-reading : goal.found_by-requires-clause-reading
found_by-requires-clause-reading c = (same_read (goal.at.found_by-requires-clause-reading c).In_ok-proof).reading

pub found_by-requires-clause-proof : goal.found_by-requires-clause-proof
found_by-requires-clause-proof c = c.in_ok-proof.ensures ∙ (same_read (goal.at.found_by-requires-clause-proof c).In_ok-proof).by_run
