use Rattle.std.proofs.Common.{◌∙◌}
use Rattle.cert_format.proofs.Finished.{finished_is, finished_parts}
use Rattle.cert_format.proofs.gathering.Gathering.finish.Goals as goal

pub new-requires : goal.new-requires
new-requires c = finished_parts c.args.self c.requires.0 c.requires.1 c.requires.2 c.new-plan.ensures

pub returns : goal.returns
returns c k h e = c.new.ensures ∙ finished_is c.args.self k e c.new-plan.ensures
