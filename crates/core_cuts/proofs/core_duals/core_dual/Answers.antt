use Rattle.core_cuts.proofs.FoundFunctions.{result_found}
use Rattle.core_cuts.proofs.LastTables.{asked_of}
use Rattle.core_cuts.proofs.core_duals.core_dual.Goals as goal

pub returns-clause-is : goal.returns-clause-is
returns-clause-is c =
    let p = c.args.instance.now in
    let hubs = c.args.hubs.now in
    result_found p hubs (c.args.i, c.args.j) c.found_at.result (asked_of p hubs c.args.i c.args.j c.size.ensures.problem c.requires.may c.requires.set c.requires.from c.requires.to)
    (rw c.members.ensures.value at c.found_at.ensures.found) (rw c.members.ensures.value at c.found_at.ensures.none)
