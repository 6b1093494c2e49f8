use Rattle.cert_scan.proofs.EightBytes.{shifted_up}
use Rattle.cert_scan.proofs.words.moved_up.Goals as goal

pub returns : goal.returns
returns c = shifted_up c.args.word c.args.count c.requires
