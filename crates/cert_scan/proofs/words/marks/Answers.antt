use Rattle.cert_scan.proofs.EightBytes.{marks_are}
use Rattle.cert_scan.proofs.words.marks.Goals as goal

pub returns : goal.returns
returns c bytes eight is = marks_are bytes c.args.word eight is
