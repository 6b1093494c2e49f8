use Rattle.std.proofs.Common.{ap, is_ok, is_err}
use Rattle.cert_format.proofs.Following.{put_whole, put_front}
use Rattle.network_report.proofs.report.Goals as goal

pub returns-in_err-put_report : goal.returns-in_err-put_report
returns-in_err-put_report g c =
    put_front c.put_report.ensures (ap is_err c.in_err-put_report.was) c.from_residual.ensures.0 c.new-buffer.ensures

pub returns : goal.returns
returns g c =
    put_whole c.put_report.ensures (ap is_ok c.in_ok-put_report.was) c.new-buffer.ensures c.finish.ensures.through c.finish.ensures.none_waits
