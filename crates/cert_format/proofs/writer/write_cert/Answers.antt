use Rattle.std.proofs.Common.{ap, is_ok, is_err}
use Rattle.cert_format.proofs.Putting.{whole_text}
use Rattle.cert_format.proofs.Following.{as_text, put_whole, put_front}
use Rattle.cert_format.proofs.writer.write_cert.Goals as goal

pub returns-in_err-put_certificate : goal.returns-in_err-put_certificate
returns-in_err-put_certificate g c =
    put_front (as_text (whole_text c.args.certificate.now) c.put_certificate.ensures)
    (ap is_err c.in_err-put_certificate.was) c.from_residual.ensures.0 c.new-buffer.ensures

pub returns : goal.returns
returns g c =
    put_whole (as_text (whole_text c.args.certificate.now) c.put_certificate.ensures)
    (ap is_ok c.in_ok-put_certificate.was) c.new-buffer.ensures c.finish.ensures.through c.finish.ensures.none_waits
