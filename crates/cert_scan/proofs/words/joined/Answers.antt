use Rattle.cert_scan.proofs.EightBytes.{joined_is}
use Rattle.cert_scan.proofs.words.joined.Goals as goal

pub returns : goal.returns
returns c digits eight is = joined_is digits c.args.word eight is
