use Rattle.std.proofs.Common.{refl}
use Rattle.core_cuts.proofs.ServingCuts.{cored_serves}
use Rattle.test_searches.proofs.searches.served.Goals as goal

pub returns-in-Some : goal.returns-in-Some
returns-in-Some c =
    cored_serves c.args.instance.now c.args.set.now c.in-Some.found (record { problem = c.size.ensures.problem; set = c.requires })
    (rw (c.in-Some.is) at c.in_ok-found.ensures.core)
