use Rattle.std.proofs.Common.{ap, is_ok, is_err}
use Rattle.cert_scan.specs.Versions.{version_number}
use Rattle.cert_format.proofs.Following.{as_text, put_whole, put_front}
use Rattle.proof_text.proofs.FoundLines.{found_text_is}
use Rattle.proof_text.proofs.written.write_found.Goals as goal

pub returns-in_err-put_found-clause-text : goal.returns-in_err-put_found-clause-text
returns-in_err-put_found-clause-text g c =
    put_front (as_text (found_text_is (version_number c.args.finding.now.version) c.args.finding.now.instance.now c.args.finding.now.found.now) c.put_found.ensures.lines)
    (ap is_err c.in_err-put_found.was) c.from_residual.ensures.0 c.new-buffer.ensures

pub returns-clause-text : goal.returns-clause-text
returns-clause-text g c =
    put_whole (as_text (found_text_is (version_number c.args.finding.now.version) c.args.finding.now.instance.now c.args.finding.now.found.now) c.put_found.ensures.lines)
    (ap is_ok c.in_ok-put_found.was) c.new-buffer.ensures c.finish.ensures.through c.finish.ensures.none_waits
