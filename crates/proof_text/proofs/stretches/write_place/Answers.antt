use Rattle.std.proofs.Common.{ap, is_ok}
use Rattle.cert_format.proofs.Following.{put_whole}
use Rattle.proof_text.proofs.stretches.write_place.Goals as goal

pub returns-clause-text : goal.returns-clause-text
returns-clause-text g c =
    put_whole c.put_place.ensures.lines (ap is_ok c.in_ok-put_place.was) c.new-buffer.ensures c.finish.ensures.through c.finish.ensures.none_waits
