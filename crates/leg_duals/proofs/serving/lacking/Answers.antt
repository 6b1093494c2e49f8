use Rattle.std.proofs.Common.{sym}
use Rattle.leg_duals.proofs.NearestHubs.{none_lacked_any}
use Rattle.leg_duals.proofs.serving.lacking.Goals as goal

pub returns-in-None : goal.returns-in-None
returns-in-None c = none_lacked_any c.args.instance.now c.args.hubs.now c.requires (sym c.in-None.ensures.value)
