use Rattle.std.proofs.Common.{sym, ap}
use Rattle.network_report.specs.Texts.{listed_line}
use Rattle.cert_format.proofs.Following.{as_text}
use Rattle.network_report.proofs.lines.put_listed.Goals as goal

pub returns-in-None : goal.returns-in-None
returns-in-None g c = as_text (ap listed_line (sym c.in-None.is)) c.put.ensures
