use Rattle.cert_checker.proofs.RunPlaces.{begins_by}
use Rattle.cert_checker.proofs.runs.begins_run.Goals as goal

pub returns-else-t-n-eq0 : goal.returns-else-t-n-eq0
returns-else-t-n-eq0 c =
    begins_by c.args.n c.args.t c.args.cut.now.duals c.is_same.result c.if-t-n-eq0.false c.is_same.ensures
