use Rattle.cert_spec.proofs.ByLines.{lines-append}
use Rattle.cert_spec.proofs.verdicts.line_after_line.Goals as goal

pub returns : goal.returns
returns c = lines-append
