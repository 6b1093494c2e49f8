use Rattle.cert_checker.proofs.RunPlaces.{first_version, later_version}
use Rattle.cert_checker.proofs.runs.run_place.Goals as goal

pub returns-in-First-clause-value : goal.returns-in-First-clause-value
returns-in-First-clause-value c = first_version c.args.version c.args.n c.args.cut.now.duals c.args.t c.in-First.is c.requires.within

pub returns-in-Second-clause-value : goal.returns-in-Second-clause-value
returns-in-Second-clause-value c =
    later_version c.args.version c.args.n c.args.cut.now.duals c.args.t c.runs_begun.result c.in-Second.is c.requires.within
    c.runs_begun.ensures.value
